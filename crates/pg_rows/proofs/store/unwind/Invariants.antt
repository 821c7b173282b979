-- The newest versions leave out what the transaction wrote behind `next`, which it wrote too.
use Rattle.std.proofs.Common.{unwrap_or}
use Rattle.pg_rows.proofs.Unwinding.{IsUnwinding}
use Rattle.pg_rows.proofs.store.unwind.Given as goal

abbrev pub invariant-loop-next : goal.invariant-loop-next
invariant-loop-next l = IsUnwinding l.fn.heap l.fn.xact l.initial.newest.items l.newest.items l.next

abbrev pub decreases-loop-next : goal.decreases-loop-next
decreases-loop-next l = unwrap_or l.next 0
