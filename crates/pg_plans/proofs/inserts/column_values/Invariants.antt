-- The values so far, and the columns left.
use Rattle.std.proofs.Common.{◌≡◌, drop}
use Rattle.pg_world.specs.Candidates.{column_values}
use Rattle.pg_world.specs.Evaluation.{all_values}
use Rattle.pg_returning.specs.Outcomes.{values_behind}
use Rattle.pg_plans.proofs.inserts.column_values.Given as goal

abbrev pub invariant-loop-column : goal.invariant-loop-column
invariant-loop-column l =
    (l.at ≡ l.column-index)
    × (values_behind l.values
    (all_values (column_values l.listed l.at (drop l.column-index l.columns)))
    ≡ all_values (column_values l.listed 0 l.columns))
