-- The candidates so far, and the rows left.
use Rattle.std.proofs.Common.{◌≡◌, ◌++◌, drop, map}
use Rattle.pg_world.specs.Candidates.{unmade_candidate}
use Rattle.pg_plans.specs.LentRows.{all_lent_rows}
use Rattle.pg_plans.proofs.changes.unmade_candidates.Given as goal

abbrev pub invariant-loop-partners : goal.invariant-loop-partners
invariant-loop-partners l =
    l.candidates ++ map unmade_candidate (all_lent_rows (drop l.partners-index l.passed))
    ≡ map unmade_candidate (all_lent_rows l.passed)
