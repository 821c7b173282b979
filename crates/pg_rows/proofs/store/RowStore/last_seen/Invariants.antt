-- No later version than `next` is accepted, which is one of the row.
use Rattle.std.proofs.Common.{unwrap_or}
use Rattle.pg_heap.specs.Seen.{is_seen}
use Rattle.pg_rows.proofs.Reading.{IsReading}
use Rattle.pg_rows.proofs.store.RowStore.last_seen.Given as goal

abbrev pub invariant-loop-next : goal.invariant-loop-next
invariant-loop-next l = IsReading (is_seen l.fn.xacts l.fn.snapshot.commits l.fn.me) l.fn.self.versions l.fn.row l.next

abbrev pub decreases-loop-next : goal.decreases-loop-next
decreases-loop-next l = unwrap_or l.next 0
