-- The combinations that have passed, and those left.
use Rattle.std.proofs.Common.{◌≡◌, drop}
use Rattle.pg_world.specs.Candidates.{passing_combinations}
use Rattle.pg_plans.specs.LentRows.{all_lent_rows}
use Rattle.pg_returning.specs.Outcomes.{values_behind}
use Rattle.pg_plans.proofs.joins.passing_combinations.Given as goal

abbrev pub invariant-loop-partners : goal.invariant-loop-partners
invariant-loop-partners l =
    values_behind (all_lent_rows l.passed)
    (passing_combinations l.condition (all_lent_rows (drop l.partners-index l.all)))
    ≡ passing_combinations l.condition (all_lent_rows l.all)
