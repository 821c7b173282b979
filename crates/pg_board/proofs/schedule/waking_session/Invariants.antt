-- None of those so far goes on.
use Rattle.std.proofs.Common.{◌≡◌, drop}
use Rattle.pg_relation.specs.Schedules.{waking}
use Rattle.pg_board.specs.Servers.{kept_world}
use Rattle.pg_board.proofs.schedule.waking_session.Given as goal

abbrev pub invariant-loop-number : goal.invariant-loop-number
invariant-loop-number l = waking (kept_world l.server) (drop l.number-index l.waited) ≡ waking (kept_world l.server) l.waited
