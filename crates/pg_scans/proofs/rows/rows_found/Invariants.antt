-- The rows so far, and the versions left.
use Rattle.std.proofs.Common.{◌≡◌, ◌++◌, map}
use Rattle.std.specs.Vec.Iter.{into_iter_items}
use Rattle.pg_table.specs.Scanned.{seen_row_of}
use Rattle.pg_scans.proofs.rows.rows_found.Given as goal

abbrev pub invariant-loop-seen : goal.invariant-loop-seen
invariant-loop-seen l =
    l.rows.items ++ map seen_row_of (into_iter_items l.seen-iterator) ≡ map seen_row_of l.fn.found
