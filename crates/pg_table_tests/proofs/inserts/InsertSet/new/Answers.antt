use Rattle.std.proofs.Common.{sym, subst}
use Rattle.pg_table_tests.specs.Single.{AllAreSingle}
use Rattle.pg_table_tests.proofs.EachTable.{all_empty}
use Rattle.pg_table_tests.proofs.inserts.InsertSet.new.Goals as goal

pub invariant_of-result : goal.invariant_of-result
invariant_of-result c =
    record { single = subst (λ s. AllAreSingle s) (sym c.in_ok-tables.ensures) (all_empty c.args.catalogue.now) }
