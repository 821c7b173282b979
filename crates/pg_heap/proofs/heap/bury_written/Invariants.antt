-- The versions of the transaction are dead from the last on, and `next` is the last that is not.
use Rattle.std.proofs.Common.{unwrap_or}
use Rattle.pg_heap.proofs.Latest.{AreBuried}
use Rattle.pg_heap.proofs.heap.bury_written.Given as goal

abbrev pub invariant-loop-next : goal.invariant-loop-next
invariant-loop-next l = AreBuried l.fn.xact l.initial.slots.items l.slots.items l.next

abbrev pub decreases-loop-next : goal.decreases-loop-next
decreases-loop-next l = unwrap_or l.next 0
