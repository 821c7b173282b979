use Rattle.std.proofs.Common.{ap, ap₂, length-set, List, ℕ, Some, ◌-◌, ◌∙◌}
use Rattle.pg_heap.specs.declared.slot.State.TheVariants.{Settled}
use Rattle.pg_rows.specs.Stores.{Stored, StoreView, state_of, with_version_state}
use Rattle.pg_rows.specs.Kept.{stored_slots}
use Rattle.pg_rows.proofs.Stored.{stored_attached}
use Rattle.pg_rows.proofs.Attached.{chained_attached, draft_at, may_attach}
use Rattle.pg_rows.proofs.store.RowStore.attach.Goals as goal

pub append-requires-clause-free : goal.append-requires-clause-free
append-requires-clause-free c =
    let draft = draft_at c.self.inside.heap c.self.inside.newest.items c.args.version c.row_of.result c.index.result.now
    c.self.invariant (ap (λ store. state_of store.versions c.args.version) c.self.view_is ∙ c.requires) c.row_of.ensures
    c.index.ensures in
    may_attach c.self.inside.heap c.self.inside.newest.items c.args.version draft.slot c.index.result.now c.self.invariant
    draft.is draft.placed draft.last_is

pub invariant_of-self : goal.invariant_of-self
invariant_of-self c =
    let draft = draft_at c.self.inside.heap c.self.inside.newest.items c.args.version c.row_of.result c.index.result.now
    c.self.invariant (ap (λ store. state_of store.versions c.args.version) c.self.view_is ∙ c.requires) c.row_of.ensures
    c.index.ensures in
    rw (c.append.ensures, ← draft.row_is)
    (chained_attached c.self.inside.heap c.self.inside.newest.items c.args.version draft.slot c.index.result.now
    c.self.invariant draft.is draft.placed draft.last_is)

-- what is shown with other versions
abbrev shown : ℕ → List Stored → StoreView
shown drawn versions = record { drawn = drawn; versions = versions }

pub returns : goal.returns
returns c =
    ap₂ shown (length-set c.self.inside.newest.items (c.row_of.result - 1) (Some c.args.version))
    (ap stored_slots c.append.ensures ∙ stored_attached c.self.inside.heap c.index.result.now c.args.version)
    ∙ ap (λ store. with_version_state store c.args.version Settled) c.self.view_is
