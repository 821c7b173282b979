use Rattle.std.proofs.Common.{◌≡◌, drop}
use Rattle.pg_multi.specs.Locks.{strongest_of}
use Rattle.pg_multi.proofs.members.strength_in.Given as goal

abbrev pub invariant-loop-lock : goal.invariant-loop-lock
invariant-loop-lock l = strongest_of (drop l.lock-index l.locks) l.xact ≡ strongest_of l.locks l.xact
