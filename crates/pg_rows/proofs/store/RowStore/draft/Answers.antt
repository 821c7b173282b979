use Rattle.std.proofs.Common.{ap, arith, subst, sym, refl}
use Rattle.pg_heap.specs.Slots.{first_slot}
use Rattle.pg_rows.specs.Stores.{HasNoDraft}
use Rattle.pg_rows.proofs.Chains.{chained_placed}
use Rattle.pg_rows.proofs.store.RowStore.draft.Goals as goal

pub invariant_of-self-2 : goal.invariant_of-self-2
invariant_of-self-2 c =
    let drawn = ap (λ store. store.drawn) c.self.view_is in
    rw c.in_ok-version.ensures.placed
    (chained_placed c.self.inside.heap c.self.inside.newest.items (first_slot c.args.row c.args.values c.args.me.now)
    c.self.invariant refl refl refl (c.requires.drawn.0, omega (arith, c.requires.drawn.1, drawn))
    (subst (λ store. HasNoDraft store.versions c.args.row) (sym c.self.view_is) c.requires.first))
