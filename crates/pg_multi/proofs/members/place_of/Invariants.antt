use Rattle.std.proofs.Common.{◌≡◌, ◌+◌, drop, nat_le}
use Rattle.std.specs.List.{position_or_len}
use Rattle.pg_multi.proofs.members.place_of.Given as goal

abbrev pub invariant-loop-place : goal.invariant-loop-place
invariant-loop-place l =
    l.place + position_or_len (λ lock. nat_le l.xact lock.xact) (drop l.place l.locks)
    ≡ position_or_len (λ lock. nat_le l.xact lock.xact) l.locks
