-- The first names are the same.
use Rattle.std.proofs.Common.{length, ◌-◌, ◌≡◌, take, map}
use Rattle.pg_names.proofs.names.are_same.Given as goal

abbrev pub invariant-loop-at : goal.invariant-loop-at
invariant-loop-at l = (length l.a ≡ length l.b) × (map (λ bytes. bytes.items) (take l.at l.a) ≡ map (λ bytes. bytes.items) (take l.at l.b))

abbrev pub decreases-loop-at : goal.decreases-loop-at
decreases-loop-at l = length l.a - l.at
