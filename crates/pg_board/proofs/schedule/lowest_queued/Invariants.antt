-- No session so far is it.
use Rattle.std.proofs.Common.{◌≡◌, ◌&&◌, drop, map}
use Rattle.pg_relation.specs.Schedules.{is_idle, lowest}
use Rattle.pg_board.specs.Queues.{has_taken}
use Rattle.pg_board.specs.Servers.{kept_session}
use Rattle.pg_board.proofs.schedule.lowest_queued.Given as goal

abbrev pub invariant-loop-number : goal.invariant-loop-number
invariant-loop-number l =
    lowest (λ number session. is_idle session.progress && has_taken l.queues number session) l.number (map kept_session (drop l.number l.sessions))
    ≡ lowest (λ number session. is_idle session.progress && has_taken l.queues number session) 0 (map kept_session l.sessions)
