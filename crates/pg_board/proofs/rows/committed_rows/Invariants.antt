-- The rows of the first tables.
use Rattle.std.proofs.Common.{◌≡◌, [], map, take}
use Rattle.pg_heap.specs.Current.{live_rows}
use Rattle.pg_board.specs.Shown.{tables_shown}
use Rattle.pg_board.proofs.rows.committed_rows.Given as goal

abbrev pub invariant-loop-table : goal.invariant-loop-table
invariant-loop-table l =
    l.committed ≡ map (λ table. live_rows l.xacts [] table.rows) (tables_shown (take l.table-index l.tables))
