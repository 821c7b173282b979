-- The rows so far, and those left.
use Rattle.std.proofs.Common.{◌≡◌, ◌++◌, ◌∷◌, drop}
use Rattle.pg_plans.specs.LentRows.{lent_rows}
use Rattle.pg_plans.proofs.joins.in_front.Given as goal

abbrev pub invariant-loop-other : goal.invariant-loop-other
invariant-loop-other l =
    lent_rows l.partners ++ lent_rows (drop l.other-index l.others) ≡ l.row ∷ lent_rows l.others
