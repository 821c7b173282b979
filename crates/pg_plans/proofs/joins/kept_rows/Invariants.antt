-- The rows so far, and those left.
use Rattle.std.proofs.Common.{◌≡◌, ◌++◌, drop}
use Rattle.pg_plans.specs.LentRows.{lent_rows}
use Rattle.pg_plans.proofs.joins.kept_rows.Given as goal

abbrev pub invariant-loop-row : goal.invariant-loop-row
invariant-loop-row l = l.kept ++ lent_rows (drop l.row-index l.rows) ≡ lent_rows l.rows
