-- What has committed of the rows so far.
use Rattle.std.proofs.Common.{◌≡◌, []}
use Rattle.pg_heap.specs.Current.{live_rows}
use Rattle.pg_rows.specs.Stores.{rows_from}
use Rattle.pg_table.proofs.table.Table.committed.Given as goal

abbrev pub invariant-loop-before : goal.invariant-loop-before
invariant-loop-before l =
    l.rows ≡ live_rows l.fn.xacts [] (rows_from 1 l.before l.fn.self.store.versions)
