use Rattle.std.proofs.Common.{sym, subst}
use Rattle.pg_table_tests.specs.Single.{AreSingle}
use Rattle.pg_table_tests.proofs.Kept.{single_added}
use Rattle.pg_table_tests.proofs.EachTable.{all_with}
use Rattle.pg_table_tests.proofs.inserts.add_in.Goals as goal

pub returns-in_ok-add : goal.returns-in_ok-add
returns-in_ok-add c =
    let old = c.requires c.args.number c.in-Some.table.now (sym c.in-Some.ensures.value) in
    all_with c.args.tables.now c.args.number c.add.new.self c.requires
    (subst (λ s. AreSingle s) (sym c.in_ok-add.ensures.ok) (single_added c.in-Some.table.now c.args.me c.args.values c.add.ensures.kept old))
