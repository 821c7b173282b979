-- The drafts of the transaction are dead from its last version on, and `next` is the last of those to come.
use Rattle.std.proofs.Common.{unwrap_or}
use Rattle.pg_rows.proofs.Ended.{IsEnding}
use Rattle.pg_rows.proofs.store.RowStore.ended.Given as goal

abbrev pub invariant-loop-next : goal.invariant-loop-next
invariant-loop-next l = IsEnding l.fn.xact l.initial.self l.self l.next

abbrev pub decreases-loop-next : goal.decreases-loop-next
decreases-loop-next l = unwrap_or l.next 0
