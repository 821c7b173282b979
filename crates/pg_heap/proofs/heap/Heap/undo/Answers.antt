use Rattle.pg_heap.specs.Slots.{is_number_written_by}
use Rattle.pg_heap.proofs.Undone.{linked_without}
use Rattle.pg_heap.proofs.Latest.{written_without}
use Rattle.pg_heap.proofs.heap.Heap.undo.Goals as goal

pub invariant_of-self : goal.invariant_of-self
invariant_of-self c =
    rw c.bury_written.ensures (
      linked_without (is_number_written_by c.args.xact c.self.inside.slots.items) c.self.inside.slots.items c.self.invariant.0,
      written_without (is_number_written_by c.args.xact c.self.inside.slots.items) c.self.inside.slots.items
          c.self.inside.earlier.items c.self.inside.last.entries c.self.invariant.1,
    )
