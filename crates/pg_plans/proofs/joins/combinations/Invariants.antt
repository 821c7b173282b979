-- The combinations of the sources behind those left.
use Rattle.std.proofs.Common.{◌≡◌, ◌≤◌, drop, length}
use Rattle.pg_world.specs.Candidates.{combinations}
use Rattle.pg_plans.specs.LentRows.{all_lent_rows}
use Rattle.pg_plans.proofs.joins.combinations.Given as goal

abbrev pub invariant-loop-left : goal.invariant-loop-left
invariant-loop-left l =
    (l.left ≤ length l.sources) × (all_lent_rows l.all ≡ combinations (drop l.left l.sources))

abbrev pub decreases-loop-left : goal.decreases-loop-left
decreases-loop-left l = l.left
