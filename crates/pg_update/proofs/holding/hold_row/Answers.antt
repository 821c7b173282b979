use Rattle.std.proofs.Common.{◌<◌, Some, ap, subst, sym, ◌∙◌}
use Rattle.pg_table.specs.Holds.{hold_answer}
use Rattle.pg_update.proofs.Rows.{answer_gone, first_row, no_row, shown_at}
use Rattle.pg_update.proofs.holding.hold_row.Goals as goal

pub returns-then-row-eq0-clause-answer : goal.returns-then-row-eq0-clause-answer
returns-then-row-eq0-clause-answer c =
    answer_gone c.args.tables.now c.args.number c.args.row c.args.xacts.now c.args.me.now c.args.strength
    (first_row c.args.tables.now c.args.number c.args.row c.if-row-eq0.true)

pub returns-then-row-rows_drawn-clause-answer : goal.returns-then-row-rows_drawn-clause-answer
returns-then-row-rows_drawn-clause-answer c =
    answer_gone c.args.tables.now c.args.number c.args.row c.args.xacts.now c.args.me.now c.args.strength
    (no_row c.args.tables.now c.args.number c.args.row c.in-Some.table.now (sym c.in-Some.ensures.value)
    (subst (λ drawn. drawn < c.args.row) c.rows_drawn.ensures c.if-row-rows_drawn.true))

pub returns-clause-answer : goal.returns-clause-answer
returns-clause-answer c =
    c.in_ok-hold.ensures.answer
    ∙ ap (λ table. hold_answer table c.args.xacts.now c.args.me.now c.args.row c.args.strength)
    (sym (shown_at c.args.tables.now c.args.number (Some c.in-Some.table.now) (sym c.in-Some.ensures.value)))
