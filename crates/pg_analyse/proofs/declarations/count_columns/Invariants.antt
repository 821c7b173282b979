-- The columns counted, and those left.
use Rattle.std.proofs.Common.{◌≡◌, ◌≤◌, ◌+◌, drop, length}
use Rattle.pg_analyse.specs.Tables.{declared_columns}
use Rattle.pg_analyse.proofs.declarations.count_columns.Given as goal

abbrev pub invariant-loop-part : goal.invariant-loop-part
invariant-loop-part l =
    (l.count ≤ l.part-index)
    × (l.count + length (declared_columns (drop l.part-index l.parts)) ≡ length (declared_columns l.parts))
