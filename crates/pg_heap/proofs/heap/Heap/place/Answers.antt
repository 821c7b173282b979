use Rattle.std.proofs.Common.{Some, cond, nat_eq, refl, ap, arith, ◌∙◌}
use Rattle.std.specs.Map.{lookup}
use Rattle.pg_heap.specs.Slots.{first_slot}
use Rattle.pg_heap.proofs.Slots.{linked_placed}
use Rattle.pg_heap.proofs.Latest.{written_placed}
use Rattle.pg_heap.proofs.heap.Heap.place.Goals as goal

pub invariant_of-self-2 : goal.invariant_of-self-2
invariant_of-self-2 c =
    let slot = first_slot c.args.row c.args.values c.args.writer in
    rw (c.push_reserved-2.ensures.items, c.push_reserved.ensures.items, c.in_ok-reserve.ensures.items, c.in_ok-reserve-2.ensures.items, c.in_ok-earlier.ensures.old) (
      linked_placed c.self.inside.slots.items slot refl refl c.self.invariant.0,
      written_placed c.self.inside.slots.items slot c.self.inside.earlier.items c.self.inside.last.entries
          c.insert.new.self.entries c.self.invariant.1 (λ xact. c.in_ok-earlier.ensures.updates.0 xact ∙ ap (λ number. cond (nat_eq c.args.writer.xact xact) (Some number) (lookup (nat_eq xact) c.self.inside.last.entries)) (omega (arith, c.len.ensures))),
    )
