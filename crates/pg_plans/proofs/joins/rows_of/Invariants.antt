-- The rows so far, and those left.
use Rattle.std.proofs.Common.{◌≡◌, ◌++◌, drop, map}
use Rattle.std.specs.Prelude.{Some}
use Rattle.std.specs.Option.{option_copied}
use Rattle.pg_world.specs.Candidates.{row_values}
use Rattle.pg_plans.specs.LentRows.{lent_rows}
use Rattle.pg_plans.proofs.joins.rows_of.Given as goal

abbrev pub invariant-loop-row : goal.invariant-loop-row
invariant-loop-row l =
    map option_copied l.rows.items
    ++ map (λ row. Some (row_values row)) (lent_rows (drop l.row-index l.partners))
    ≡ map (λ row. Some (row_values row)) (lent_rows l.partners)
