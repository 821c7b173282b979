-- Only the steps without an entry have become fewer.
use Rattle.std.proofs.Common.{◌≡◌, length}
use Rattle.pg_board.specs.Board.{quiet_left}
use Rattle.pg_stepped.proofs.Going.{IsSame}
use Rattle.pg_stepped.proofs.run.move_next.Given as goal

abbrev pub invariant-loop-board : goal.invariant-loop-board
invariant-loop-board l = IsSame l.initial.board l.board × (l.before ≡ length l.initial.board.journal)

abbrev pub decreases-loop-board : goal.decreases-loop-board
decreases-loop-board l = quiet_left l.board l.session
