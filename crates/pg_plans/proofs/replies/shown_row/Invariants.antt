-- The values so far, and those left.
use Rattle.std.proofs.Common.{◌≡◌, ◌++◌, drop, map}
use Rattle.pg_world.specs.Replies.{shown_value}
use Rattle.pg_plans.proofs.replies.shown_row.Given as goal

abbrev pub invariant-loop-value : goal.invariant-loop-value
invariant-loop-value l =
    l.shown ++ map shown_value (drop l.value-index l.row) ≡ map shown_value l.row
