-- No session so far is it.
use Rattle.std.proofs.Common.{◌≡◌, drop, map}
use Rattle.pg_relation.specs.Schedules.{is_going_on, lowest}
use Rattle.pg_board.specs.Servers.{kept_session, kept_world}
use Rattle.pg_board.proofs.schedule.lowest_going_on.Given as goal

abbrev pub invariant-loop-number : goal.invariant-loop-number
invariant-loop-number l =
    lowest (λ number session. is_going_on (kept_world l.server) number) l.number (map kept_session (drop l.number l.server.sessions))
    ≡ lowest (λ number session. is_going_on (kept_world l.server) number) 0 (map kept_session l.server.sessions)
