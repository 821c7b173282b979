-- The candidates so far, and the rows left.
use Rattle.std.proofs.Common.{◌≡◌, drop}
use Rattle.pg_plans.specs.LentRows.{all_lent_rows, output_candidates}
use Rattle.pg_returning.specs.Outcomes.{values_behind}
use Rattle.pg_plans.proofs.selects.selected_candidates.Given as goal

abbrev pub invariant-loop-partners : goal.invariant-loop-partners
invariant-loop-partners l =
    values_behind l.candidates
    (output_candidates l.items (all_lent_rows (drop l.partners-index l.passed)))
    ≡ output_candidates l.items (all_lent_rows l.passed)
