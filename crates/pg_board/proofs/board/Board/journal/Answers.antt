use Rattle.pg_board.proofs.Tying.{bounded_quiet}
use Rattle.pg_board.proofs.board.Board.journal.Goals as goal

pub returns-clause-bounded : goal.returns-clause-bounded
returns-clause-bounded c =
    rw (← c.self.view_is)
    (bounded_quiet c.self.inside.script.now c.self.inside.journal.items c.self.inside.server c.self.inside.queues c.self.inside.taken
    c.self.inside.last c.self.inside.waited.items c.self.invariant)
