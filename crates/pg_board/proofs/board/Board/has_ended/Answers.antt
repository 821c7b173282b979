use Rattle.std.proofs.Common.{◌∙◌, arith}
use Rattle.pg_board.proofs.Tying.{ended_is, tied_count}
use Rattle.pg_board.proofs.board.Board.has_ended.Goals as goal

pub session-requires : goal.session-requires
session-requires c =
    let within = rw (← c.self.view_is) at c.requires in
    let count = tied_count c.self.inside.script.now c.self.inside.journal.items c.self.inside.server c.self.inside.queues c.self.inside.taken c.self.invariant in
    omega (arith, within, count)

pub returns : goal.returns
returns c =
    rw (← c.self.view_is)
    (c.stands_closed.ensures
    ∙ ended_is c.self.inside.script.now c.self.inside.journal.items c.self.inside.server c.self.inside.queues c.self.inside.taken
    c.self.inside.last c.self.inside.waited.items
    c.self.invariant c.args.number c.session.result.now c.session.ensures)
