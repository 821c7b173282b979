use Rattle.pg_heap.proofs.Latest.{earlier_is}
use Rattle.pg_heap.proofs.heap.Heap.written_before.Goals as goal

pub returns : goal.returns
returns c =
    λ xact wrote.
    rw (← c.self.view_is)
    (earlier_is xact c.self.inside.slots.items c.self.inside.earlier.items c.self.inside.last.entries c.args.version
    c.earlier_than.result c.self.invariant.1 (rw c.self.view_is wrote)
    (rw (← c.deref.ensures.value) c.earlier_than.ensures))
