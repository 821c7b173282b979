use Rattle.std.proofs.Common.{◌≡◌, false, true, sym, ap, subst, ◌∙◌}
use Rattle.pg_locks.specs.Locks.{locks_at}
use Rattle.pg_multi.specs.Locks.{blocker}
use Rattle.pg_table.proofs.Holding.{answer_by, answer_gone, current_none}
use Rattle.pg_table.specs.Holds.{hold_by}
use Rattle.pg_table.proofs.table.Table.hold.Goals as goal
use Rattle.pg_table.proofs.table.Table.hold.Goals.{in-None, in-Some}

pub returns-then-is_none-clause-answer : goal.returns-then-is_none-clause-answer
returns-then-is_none-clause-answer c =
    sym
    (answer_gone c.args.self.now c.args.xacts.now c.args.me.now c.args.row c.args.strength (sym c.if-is_own.ensures)
    (current_none c.args.self.now c.args.xacts.now c.args.me.now.xact c.args.row c.requires.first c.requires.drawn c.current.result
    c.current.ensures.number c.current.ensures.there true c.if-is_none.ensures))

pub returns-clause-answer : goal.returns-clause-answer
returns-clause-answer c =
    let gone = current_none c.args.self.now c.args.xacts.now c.args.me.now.xact c.args.row c.requires.first c.requires.drawn c.current.result
    c.current.ensures.number c.current.ensures.there false c.if-is_none.ensures in
    let answer = answer_by c.args.self.now c.args.xacts.now c.args.me.now c.args.row c.args.strength c.in_ok-hold.field-0 (sym c.if-is_own.ensures) gone
    (subst (λ state. c.in_ok-hold.field-0 ≡ blocker (locks_at state.locks c.args.row) c.args.me.now.xact c.args.strength) c.self.view_is
    c.in_ok-hold.ensures.blocker) in
    elim c.match-branch-2.branch [
      | in-None w ↦ rw w.result-is (sym (answer ∙ ap (hold_by c.args.xacts.now) w.in-None.is))
      | in-Some w ↦ rw (w.result-is, w.beginner.ensures) (sym (answer ∙ ap (hold_by c.args.xacts.now) w.in-Some.is))
    ]
