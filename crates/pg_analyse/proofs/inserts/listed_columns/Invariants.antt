-- The names seen so far, and those left.
use Rattle.std.proofs.Common.{◌≡◌, ◌++◌, [], drop}
use Rattle.std.specs.List.{filter_map}
use Rattle.pg_names.specs.Names.{number_of}
use Rattle.pg_analyse.specs.Inserts.{listed_errors}
use Rattle.pg_resolve.specs.Scope.{column_names}
use Rattle.pg_analyse.proofs.inserts.listed_columns.Given as goal

abbrev pub invariant-loop-name : goal.invariant-loop-name
invariant-loop-name l =
    (l.numbers ++ filter_map (number_of (column_names l.columns)) (drop l.name-index l.names)
    ≡ filter_map (number_of (column_names l.columns)) l.names)
    × (listed_errors l.columns l.seen (drop l.name-index l.names) ≡ listed_errors l.columns [] l.names)
