use Rattle.std.proofs.Common.{sym, subst}
use Rattle.pg_table.specs.States.{state_undone}
use Rattle.pg_table_tests.specs.Single.{AllAreSingle}
use Rattle.pg_table_tests.proofs.Kept.{single_behind, single_undone}
use Rattle.pg_table_tests.proofs.EachTable.{all_mapped}
use Rattle.pg_table_tests.proofs.inserts.InsertSet.undo_all.Goals as goal

pub undo_all-requires : goal.undo_all-requires
undo_all-requires c number state is = single_behind state c.args.xact (c.args.self.now.single number state is)

pub invariant_of-self : goal.invariant_of-self
invariant_of-self c =
    record {
      single = subst (λ s. AllAreSingle s) (sym c.undo_all.ensures)
          (all_mapped (state_undone c.args.xact) (λ state single. single_undone state c.args.xact single) c.args.self.now.tables c.args.self.now.single);
    }
