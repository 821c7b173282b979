use Rattle.std.proofs.Common.{sym, subst}
use Rattle.pg_table_tests.specs.Single.{AreSingle}
use Rattle.pg_table_tests.proofs.Kept.{single_inserted}
use Rattle.pg_table_tests.proofs.EachTable.{all_with}
use Rattle.pg_table_tests.proofs.inserts.settle_in.Goals as goal

pub returns-in-Some : goal.returns-in-Some
returns-in-Some c =
    let old = c.requires c.args.number c.in-Some.table.now (sym c.in-Some.ensures.value) in
    all_with c.args.tables.now c.args.number c.settle.new.self c.requires
    (subst (λ s. AreSingle s) (sym c.settle.ensures.settled) (single_inserted c.in-Some.table.now c.args.row old))
