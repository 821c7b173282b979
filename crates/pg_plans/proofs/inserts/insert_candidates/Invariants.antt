-- The candidates so far, and the rows left.
use Rattle.std.proofs.Common.{◌≡◌, drop, map}
use Rattle.pg_world.specs.Candidates.{proposed_candidate, proposed_row}
use Rattle.pg_world.specs.Evaluation.{all_values, with_value}
use Rattle.pg_returning.specs.Outcomes.{values_behind}
use Rattle.pg_plans.proofs.inserts.insert_candidates.Given as goal

abbrev pub invariant-loop-row : goal.invariant-loop-row
invariant-loop-row l =
    values_behind l.candidates
    (all_values (map (λ trees. with_value proposed_candidate (proposed_row l.insert trees))
    (drop l.row-index l.rows)))
    ≡ all_values (map (λ trees. with_value proposed_candidate (proposed_row l.insert trees))
    l.insert.rows)
