use Rattle.std.proofs.Common.{◌&&◌, ◌∙◌, ap, arith, not, sym}
use Rattle.pg_board.specs.Queues.{has_taken}
use Rattle.pg_board.specs.Servers.{kept_session}
use Rattle.pg_board.proofs.Tying.{tied_count, unqueued_is}
use Rattle.pg_board.proofs.board.Board.has_empty_queue.Goals as goal

pub session-session-requires : goal.session-session-requires
session-session-requires c =
    let within = rw (← c.self.view_is) at c.requires in
    let count = tied_count c.self.inside.script.now c.self.inside.journal.items c.self.inside.server c.self.inside.queues c.self.inside.taken c.self.invariant in
    omega (arith, within, count)

pub returns-else-stands_idle : goal.returns-else-stands_idle
returns-else-stands_idle c =
    rw (← c.self.view_is)
    (c.if-stands_idle.false
    ∙ ap (λ b. b && not (has_taken c.self.inside.queues c.args.number (kept_session c.session-session.result.now)))
    (sym (sym c.stands_idle.ensures ∙ c.if-stands_idle.false))
    ∙ unqueued_is c.self.inside.script.now c.self.inside.journal.items c.self.inside.server c.self.inside.queues c.self.inside.taken
    c.self.inside.last c.self.inside.waited.items
    c.self.invariant c.args.number c.session-session.result.now c.session-session.ensures)

pub returns-then-stands_idle : goal.returns-then-stands_idle
returns-then-stands_idle c =
    rw (← c.self.view_is)
    (ap not (rw c.as_slice.ensures at c.has_queued.ensures)
    ∙ ap (λ b. b && not (has_taken c.self.inside.queues c.args.number (kept_session c.session-session.result.now)))
    (sym (sym c.stands_idle.ensures ∙ c.if-stands_idle.true))
    ∙ unqueued_is c.self.inside.script.now c.self.inside.journal.items c.self.inside.server c.self.inside.queues c.self.inside.taken
    c.self.inside.last c.self.inside.waited.items
    c.self.invariant c.args.number c.session-session.result.now c.session-session.ensures)
