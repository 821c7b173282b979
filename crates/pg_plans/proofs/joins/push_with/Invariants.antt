-- The combinations so far, and the others left.
use Rattle.std.proofs.Common.{◌≡◌, ◌++◌, drop}
use Rattle.pg_plans.specs.LentRows.{all_lent_rows, row_before_each}
use Rattle.pg_plans.proofs.joins.push_with.Given as goal

abbrev pub invariant-loop-partners : goal.invariant-loop-partners
invariant-loop-partners l =
    all_lent_rows l.all ++ row_before_each l.row (all_lent_rows (drop l.partners-index l.others))
    ≡ all_lent_rows l.initial.all ++ row_before_each l.row (all_lent_rows l.others)
