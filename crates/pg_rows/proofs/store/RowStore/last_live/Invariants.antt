-- No later version than `next` is accepted, which is one of the row.
use Rattle.std.proofs.Common.{[], unwrap_or}
use Rattle.pg_heap.specs.Current.{is_live}
use Rattle.pg_rows.proofs.Reading.{IsReading}
use Rattle.pg_rows.proofs.store.RowStore.last_live.Given as goal

abbrev pub invariant-loop-next : goal.invariant-loop-next
invariant-loop-next l = IsReading (is_live l.fn.xacts []) l.fn.self.versions l.fn.row l.next

abbrev pub decreases-loop-next : goal.decreases-loop-next
decreases-loop-next l = unwrap_or l.next 0
