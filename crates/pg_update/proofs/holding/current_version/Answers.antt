use Rattle.std.proofs.Common.{◌<◌, Some, ap, subst, sym, ◌∙◌}
use Rattle.pg_world.specs.Changes.{row_at}
use Rattle.pg_table.specs.Holds.{current_there}
use Rattle.pg_update.proofs.Rows.{first_row, no_row, none_current, shown_at}
use Rattle.pg_update.proofs.holding.current_version.Goals as goal

pub returns-then-row-eq0 : goal.returns-then-row-eq0
returns-then-row-eq0 c =
    none_current c.args.tables.now c.args.number c.args.row c.args.xacts.now c.args.me.now.xact
    (first_row c.args.tables.now c.args.number c.args.row c.if-row-eq0.true)

pub returns-then-row-rows_drawn : goal.returns-then-row-rows_drawn
returns-then-row-rows_drawn c =
    none_current c.args.tables.now c.args.number c.args.row c.args.xacts.now c.args.me.now.xact
    (no_row c.args.tables.now c.args.number c.args.row c.in_ok-table.table.now (sym c.in_ok-table.ensures)
    (subst (λ drawn. drawn < c.args.row) c.rows_drawn.ensures c.if-row-rows_drawn.true))

pub returns : goal.returns
returns c =
    c.current_version.ensures
    ∙ ap (λ table. current_there c.args.xacts.now c.args.me.now.xact (row_at table c.args.row))
    (sym (shown_at c.args.tables.now c.args.number (Some c.in_ok-table.table.now) (sym c.in_ok-table.ensures)))
