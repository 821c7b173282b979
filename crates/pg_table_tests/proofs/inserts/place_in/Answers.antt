use Rattle.std.proofs.Common.{sym, subst}
use Rattle.pg_table_tests.specs.Single.{AreSingle}
use Rattle.pg_table_tests.proofs.Kept.{single_placed}
use Rattle.pg_table_tests.proofs.EachTable.{all_with}
use Rattle.pg_table_tests.proofs.inserts.place_in.Goals as goal

pub returns-in_ok-place : goal.returns-in_ok-place
returns-in_ok-place c =
    let old = c.requires c.args.number c.in-Some.table.now (sym c.in-Some.ensures.value) in
    all_with c.args.tables.now c.args.number c.place.new.self c.requires
    (subst (λ s. AreSingle s) (sym c.in_ok-place.ensures.ok) (single_placed c.in-Some.table.now c.args.me c.args.values c.place.ensures.kept old))
