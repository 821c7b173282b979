-- The candidates that are left lead to the same table.
use Rattle.std.proofs.Common.{◌≡◌, drop}
use Rattle.pg_relation.specs.Setup.{rows_added}
use Rattle.pg_table.specs.States.{table_shown}
use Rattle.pg_board.specs.Loaded.{IsLoaded}
use Rattle.pg_board.proofs.tables.add_rows.Given as goal

abbrev pub invariant-loop-candidate : goal.invariant-loop-candidate
invariant-loop-candidate l =
    (rows_added (drop l.candidate-index l.candidates) (table_shown l.table) ≡ rows_added l.candidates (table_shown l.initial.table))
    × (IsLoaded l.initial.table → IsLoaded l.table)
