-- The board has come so far by the stepped order, and fewer entries are to come.
use Rattle.pg_stepped.proofs.Replaying.{IsOnWay, turns_left}
use Rattle.pg_stepped.proofs.run.run_to_end.Given as goal

abbrev pub invariant-loop-session : goal.invariant-loop-session
invariant-loop-session l = IsOnWay l.initial.board.script l.board

abbrev pub decreases-loop-session : goal.decreases-loop-session
decreases-loop-session l = turns_left l.board
