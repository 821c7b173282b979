use Rattle.pg_board.proofs.Tying.{tied_few}
use Rattle.pg_board.proofs.board.Board.ready.Goals as goal

pub ready_session-requires : goal.ready_session-requires
ready_session-requires c =
    tied_few c.self.inside.script.now c.self.inside.journal.items c.self.inside.server c.self.inside.queues c.self.inside.taken c.self.invariant
