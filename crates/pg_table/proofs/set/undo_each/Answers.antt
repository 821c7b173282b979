use Rattle.std.proofs.Common.{arith, get_or, sym, ◌∙◌}
use Rattle.std.proofs.lemmas.Option.{slice_get-get_or}
use Rattle.pg_table.proofs.Lists.{same_there}
use Rattle.pg_table.proofs.set.undo_each.Goals as goal

pub undo-requires : goal.undo-requires
undo-requires c =
    let within = c.loop-table-test.true in
    let long = c.loop-table.auto.tables in
    c.requires c.loop-table.table-index (get_or c.loop-table.tables c.loop-table.table-index c.table-item.result)
    (sym (same_there c.loop-table.table-index c.loop-table.tables c.args.tables.now c.loop-table.invariant.1)
    ∙ slice_get-get_or c.loop-table.tables c.loop-table.table-index c.table-item.result (omega (arith, within, long)))
