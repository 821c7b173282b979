-- The columns so far, and the sources left.
use Rattle.std.proofs.Common.{◌≡◌, ◌++◌, drop}
use Rattle.pg_analyse.specs.Queries.{all_columns_from}
use Rattle.pg_analyse.proofs.queries.push_all_columns.Given as goal

abbrev pub invariant-loop-known : goal.invariant-loop-known
invariant-loop-known l =
    (l.at ≡ l.known-index)
    × (l.exprs ++ all_columns_from l.at (drop l.known-index l.sources) ≡ l.initial.exprs ++ all_columns_from 0 l.sources)
