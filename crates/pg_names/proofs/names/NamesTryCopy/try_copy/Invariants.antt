-- What was copied so far are the first names.
use Rattle.std.proofs.Common.{length, ◌-◌, ◌≡◌, take}
use Rattle.pg_names.proofs.names.NamesTryCopy.try_copy.Given as goal

abbrev pub invariant-loop-name : goal.invariant-loop-name
invariant-loop-name l = l.copy ≡ take (length l.copy) l.self

abbrev pub decreases-loop-name : goal.decreases-loop-name
decreases-loop-name l = length l.self - length l.copy
