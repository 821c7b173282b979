use Rattle.std.proofs.Common.{sym, subst}
use Rattle.pg_table_tests.specs.Single.{AreSingle}
use Rattle.pg_table_tests.proofs.Kept.{single_ended}
use Rattle.pg_table_tests.proofs.inserts.Inserts.ended.Goals as goal

pub invariant_of-self : goal.invariant_of-self
invariant_of-self c =
    record {
      single = subst (λ s. AreSingle s) (sym c.ended.ensures.ended)
          (single_ended c.args.self.now.table c.args.xact c.args.self.now.single);
    }
