use Rattle.std.proofs.Common.{Some, None, ◌+◌, List, Option, ℕ, [], ◌∷◌, ◌++◌, arith, length-append, refl}
use Rattle.pg_heap.specs.Slots.{first_slot}
use Rattle.pg_rows.proofs.Chains.{chained_drawn, chained_placed, no_draft_yet}
use Rattle.pg_rows.proofs.store.RowStore.draw.Goals as goal

abbrev one : List (Option ℕ)
one = None ∷ []

pub invariant_of-self-2 : goal.invariant_of-self-2
invariant_of-self-2 c =
    let more = length-append c.self.inside.newest.items one in
    rw (c.in_ok-version.ensures.placed, c.push_reserved.ensures.items, c.in_ok-reserve.ensures.items)
    (chained_placed c.self.inside.heap (c.self.inside.newest.items ++ None ∷ [])
    (first_slot (c.len.result + 1) (Some c.args.values) c.args.me.now)
    (chained_drawn c.self.inside.heap c.self.inside.newest.items c.self.invariant) refl refl refl
    (omega arith, omega (arith, c.len.ensures, more))
    (no_draft_yet c.self.inside.heap (c.self.inside.newest.items) (c.len.result + 1) c.self.invariant (omega (arith, c.len.ensures))))
