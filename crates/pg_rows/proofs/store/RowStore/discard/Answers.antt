use Rattle.std.proofs.Common.{ap, length, List, ℕ, ◌∙◌}
use Rattle.pg_heap.specs.declared.slot.State.TheVariants.{Dead}
use Rattle.pg_rows.specs.Stores.{Stored, StoreView, state_of, with_version_state}
use Rattle.pg_rows.specs.Kept.{stored_slots}
use Rattle.pg_rows.proofs.Stored.{stored_state}
use Rattle.pg_rows.proofs.Chains.{chained_discarded, draft_slot}
use Rattle.pg_rows.proofs.store.RowStore.discard.Goals as goal

pub invariant_of-self : goal.invariant_of-self
invariant_of-self c =
    let slot = draft_slot c.self.inside.heap c.args.version
    (ap (λ store. state_of store.versions c.args.version) c.self.view_is ∙ c.requires) in
    rw c.kill.ensures
    (chained_discarded c.self.inside.heap c.self.inside.newest.items c.args.version slot.0 c.self.invariant slot.1.0 slot.1.1)

-- what is shown with other versions
abbrev shown : ℕ → List Stored → StoreView
shown drawn versions = record { drawn = drawn; versions = versions }

pub returns : goal.returns
returns c =
    ap (λ versions. shown (length c.self.inside.newest.items) versions)
    (ap stored_slots c.kill.ensures ∙ stored_state c.self.inside.heap c.args.version Dead)
    ∙ ap (λ store. with_version_state store c.args.version Dead) c.self.view_is
