use Rattle.std.proofs.Common.{length, ◌-◌, ◌≡◌, take}
use Rattle.pg_lists.proofs.is_same.are_same.Given as goal

abbrev pub invariant-loop-at : goal.invariant-loop-at
invariant-loop-at g l = (length l.a ≡ length l.b) × (take l.at l.a ≡ take l.at l.b)

abbrev pub decreases-loop-at : goal.decreases-loop-at
decreases-loop-at g l = length l.a - l.at
