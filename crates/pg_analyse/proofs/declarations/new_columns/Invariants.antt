-- The columns so far, and the parts left.
use Rattle.std.proofs.Common.{◌≡◌, ◌++◌, [], drop}
use Rattle.pg_resolve.specs.Scope.{column_names}
use Rattle.pg_analyse.specs.Tables.{declared_columns, twice_errors}
use Rattle.pg_analyse.proofs.declarations.new_columns.Given as goal

abbrev pub invariant-loop-part : goal.invariant-loop-part
invariant-loop-part l =
    (l.columns ++ declared_columns (drop l.part-index l.parts) ≡ declared_columns l.parts)
    × (twice_errors (column_names l.columns) (column_names (declared_columns (drop l.part-index l.parts)))
    ≡ twice_errors [] (column_names (declared_columns l.parts)))
