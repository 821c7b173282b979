-- The columns so far, and those left.
use Rattle.std.proofs.Common.{◌≡◌, ◌++◌, drop}
use Rattle.pg_analyse.specs.Queries.{columns_from}
use Rattle.pg_analyse.proofs.queries.push_columns.Given as goal

abbrev pub invariant-loop-column : goal.invariant-loop-column
invariant-loop-column l =
    (l.at ≡ l._column-index)
    × (l.exprs ++ columns_from l.source l.at (drop l._column-index l.all) ≡ l.initial.exprs ++ columns_from l.source 0 l.all)
