use Rattle.std.proofs.Common.{ap, ap₂, List, ℕ, subst, sym, ◌∙◌}
use Rattle.pg_rows.specs.Stores.{StandBehind, Stored, StoreView, store_without}
use Rattle.pg_rows.specs.Kept.{stored_slots}
use Rattle.pg_rows.proofs.Undone.{chained_undone, stored_undone}
use Rattle.pg_rows.proofs.store.RowStore.undo.Goals as goal

pub unwind-requires-clause-behind : goal.unwind-requires-clause-behind
unwind-requires-clause-behind c =
    subst (λ store. StandBehind c.args.xact store.versions) (sym c.self.view_is) c.requires

pub invariant_of-self : goal.invariant_of-self
invariant_of-self c =
    rw c.undo.ensures
    (chained_undone c.self.inside.heap c.args.xact c.self.inside.newest.items c.unwind.new.newest.items c.self.invariant
    (subst (λ store. StandBehind c.args.xact store.versions) (sym c.self.view_is) c.requires) c.unwind.ensures)

-- what is shown with other versions
abbrev shown : ℕ → List Stored → StoreView
shown drawn versions = record { drawn = drawn; versions = versions }

pub returns : goal.returns
returns c =
    ap₂ shown c.unwind.ensures.count
    (ap stored_slots c.undo.ensures ∙ stored_undone c.self.inside.heap c.args.xact)
    ∙ ap (λ store. store_without store c.args.xact) c.self.view_is
