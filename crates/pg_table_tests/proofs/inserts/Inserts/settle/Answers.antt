use Rattle.std.proofs.Common.{sym, subst}
use Rattle.pg_table_tests.specs.Single.{AreSingle}
use Rattle.pg_table_tests.proofs.Kept.{single_inserted}
use Rattle.pg_table_tests.proofs.inserts.Inserts.settle.Goals as goal

pub invariant_of-self : goal.invariant_of-self
invariant_of-self c =
    record {
      single = subst (λ s. AreSingle s) (sym c.settle.ensures.settled)
          (single_inserted c.args.self.now.table c.args.row c.args.self.now.single);
    }
