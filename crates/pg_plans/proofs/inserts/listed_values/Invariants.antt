-- The values so far, and the numbers and expressions left.
use Rattle.std.proofs.Common.{◌≡◌, drop}
use Rattle.pg_world.specs.Candidates.{listed_values}
use Rattle.pg_world.specs.Evaluation.{all_values}
use Rattle.pg_returning.specs.Outcomes.{values_behind}
use Rattle.pg_plans.proofs.inserts.listed_values.Given as goal

abbrev pub invariant-loop-number : goal.invariant-loop-number
invariant-loop-number l =
    (l.at ≡ l.number-index)
    × (values_behind l.listed
    (all_values (listed_values l.columns (drop l.number-index l.numbers) (drop l.at l.exprs)))
    ≡ all_values (listed_values l.columns l.numbers l.exprs))
