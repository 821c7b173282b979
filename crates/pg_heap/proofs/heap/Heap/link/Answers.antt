use Rattle.std.proofs.Common.{Some, refl, subst, sym}
use Rattle.pg_heap.specs.Slots.{CanLink, with_successor}
use Rattle.pg_heap.proofs.Slots.{linked_linked}
use Rattle.pg_heap.proofs.Latest.{written_changed}
use Rattle.pg_heap.proofs.heap.Heap.link.Goals as goal

pub invariant_of-self : goal.invariant_of-self
invariant_of-self c =
    rw (c.set_predecessor.ensures, c.set_successor.ensures) (
      linked_linked c.self.inside.slots.items c.args.before c.args.after
          (subst (λ slots. CanLink slots c.args.before c.args.after) (sym c.self.view_is) c.requires) c.self.invariant.0,
      written_changed (λ slot. record slot { before = Some c.args.before })
          (with_successor c.self.inside.slots.items c.args.before (Some c.args.after)) c.args.after c.self.inside.earlier.items
          c.self.inside.last.entries (λ slot. refl)
          (written_changed (λ slot. record slot { after = Some c.args.after }) c.self.inside.slots.items c.args.before
          c.self.inside.earlier.items c.self.inside.last.entries (λ slot. refl) c.self.invariant.1),
    )
