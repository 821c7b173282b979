-- A fresh session for each name so far.
use Rattle.std.proofs.Common.{◌≡◌, map, take}
use Rattle.pg_board.specs.Servers.{first_session}
use Rattle.pg_board.proofs.setup.first_sessions.Given as goal

abbrev pub invariant-loop-number : goal.invariant-loop-number
invariant-loop-number l = l.sessions ≡ map (λ name. first_session) (take l.number l.names)
