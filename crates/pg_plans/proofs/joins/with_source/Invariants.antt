-- The combinations so far, and the rows left.
use Rattle.std.proofs.Common.{◌≡◌, ◌++◌, drop, flat_map}
use Rattle.pg_plans.specs.LentRows.{all_lent_rows, row_before_each}
use Rattle.pg_plans.proofs.joins.with_source.Given as goal

abbrev pub invariant-loop-row : goal.invariant-loop-row
invariant-loop-row l =
    all_lent_rows l.all ++ flat_map (λ row. row_before_each row (all_lent_rows l.others))
    (drop l.row-index l.rows)
    ≡ flat_map (λ row. row_before_each row (all_lent_rows l.others)) l.rows
