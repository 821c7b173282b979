use Rattle.std.proofs.Common.{sym, subst}
use Rattle.pg_table.specs.States.{state_ended}
use Rattle.pg_table_tests.specs.Single.{AllAreSingle}
use Rattle.pg_table_tests.proofs.Kept.{single_ended}
use Rattle.pg_table_tests.proofs.EachTable.{all_mapped}
use Rattle.pg_table_tests.proofs.inserts.InsertSet.ended_all.Goals as goal

pub invariant_of-self : goal.invariant_of-self
invariant_of-self c =
    record {
      single = subst (λ s. AllAreSingle s) (sym c.ended_all.ensures)
          (all_mapped (state_ended c.args.xact) (λ state single. single_ended state c.args.xact single) c.args.self.now.tables c.args.self.now.single);
    }
