use Rattle.pg_board.proofs.Firsts.{tied_first}
use Rattle.pg_board.proofs.Tying.{first_is}
use Rattle.pg_board.proofs.board.Board.new.Goals as goal

pub invariant_of-result : goal.invariant_of-result
invariant_of-result c =
    rw c.in_ok-journal.ensures.items
    (tied_first c.args.script.now c.in_ok-server.server c.in_ok-queues.queues c.in_ok-server.ensures.set_up
    c.in_ok-server.ensures.ok c.in_ok-queues.ensures)

pub returns-clause-first : goal.returns-clause-first
returns-clause-first c =
    rw (c.in_ok-journal.ensures.items, c.new.ensures.items) (first_is c.args.script.now c.in_ok-server.server c.in_ok-server.ensures.ok)
