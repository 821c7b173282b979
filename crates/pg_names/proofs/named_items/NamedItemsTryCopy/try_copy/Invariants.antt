-- What was copied so far are the first items.
use Rattle.std.proofs.Common.{length, ◌-◌, ◌≡◌, take}
use Rattle.pg_names.proofs.named_items.NamedItemsTryCopy.try_copy.Given as goal

abbrev pub invariant-loop-item : goal.invariant-loop-item
invariant-loop-item g l = l.copy ≡ take (length l.copy) l.self

abbrev pub decreases-loop-item : goal.decreases-loop-item
decreases-loop-item g l = length l.self - length l.copy
