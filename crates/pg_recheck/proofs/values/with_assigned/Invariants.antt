-- The values so far, and those of the row left.
use Rattle.std.proofs.Common.{◌≡◌, ◌++◌, drop}
use Rattle.pg_world.specs.Changes.{with_assigned}
use Rattle.pg_recheck.proofs.values.with_assigned.Given as goal

abbrev pub invariant-loop-value : goal.invariant-loop-value
invariant-loop-value l =
    (l.number ≡ l.value-index)
    × (l.values ++ with_assigned l.assigned l.number (drop l.value-index l.row)
    ≡ with_assigned l.assigned 0 l.row)
