use Rattle.std.proofs.Common.{sym, subst}
use Rattle.pg_table_tests.specs.Single.{AreSingle}
use Rattle.pg_table_tests.proofs.Kept.{single_behind, single_undone}
use Rattle.pg_table_tests.proofs.inserts.Inserts.undo.Goals as goal

pub undo-requires : goal.undo-requires
undo-requires c = single_behind c.args.self.now.table c.args.xact c.args.self.now.single

pub invariant_of-self : goal.invariant_of-self
invariant_of-self c =
    record {
      single = subst (λ s. AreSingle s) (sym c.undo.ensures.undone)
          (single_undone c.args.self.now.table c.args.xact c.args.self.now.single);
    }
