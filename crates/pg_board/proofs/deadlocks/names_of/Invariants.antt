-- The names of the first sessions.
use Rattle.std.proofs.Common.{◌≡◌, map, take}
use Rattle.pg_model.specs.Printed.{session_name}
use Rattle.pg_board.proofs.deadlocks.names_of.Given as goal

abbrev pub invariant-loop-session : goal.invariant-loop-session
invariant-loop-session l = l.names ≡ map (session_name l.script) (take l.session-index l.ring)
