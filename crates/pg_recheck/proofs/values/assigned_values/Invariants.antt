-- The values so far, and the assignments left.
use Rattle.std.proofs.Common.{◌≡◌, drop, map}
use Rattle.pg_world.specs.Evaluation.{all_values}
use Rattle.pg_returning.specs.Outcomes.{values_behind}
use Rattle.pg_recheck.specs.Versions.{assigned_over}
use Rattle.pg_recheck.proofs.values.assigned_values.Given as goal

abbrev pub invariant-loop-assignment : goal.invariant-loop-assignment
invariant-loop-assignment l =
    values_behind l.assigned
    (all_values (map (assigned_over l.columns l.env) (drop l.assignment-index l.assignments)))
    ≡ all_values (map (assigned_over l.columns l.env) l.assignments)
