use Rattle.std.proofs.Common.{◌≡◌, drop}
use Rattle.pg_multi.specs.Locks.{blocker}
use Rattle.pg_multi.proofs.members.blocker_in.Given as goal

abbrev pub invariant-loop-lock : goal.invariant-loop-lock
invariant-loop-lock l =
    blocker (drop l.lock-index l.locks) l.me l.strength ≡ blocker l.locks l.me l.strength
