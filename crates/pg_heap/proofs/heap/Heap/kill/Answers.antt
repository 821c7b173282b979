use Rattle.std.proofs.Common.{refl}
use Rattle.pg_heap.specs.declared.slot.State.TheVariants.{Dead}
use Rattle.pg_heap.proofs.Slots.{linked_state}
use Rattle.pg_heap.proofs.Latest.{written_changed}
use Rattle.pg_heap.proofs.heap.Heap.kill.Goals as goal

pub invariant_of-self : goal.invariant_of-self
invariant_of-self c =
    rw c.set_state.ensures (
      linked_state c.self.inside.slots.items c.args.version Dead c.self.invariant.0,
      written_changed (λ slot. record slot { state = Dead }) c.self.inside.slots.items c.args.version
          c.self.inside.earlier.items c.self.inside.last.entries (λ slot. refl) c.self.invariant.1,
    )
