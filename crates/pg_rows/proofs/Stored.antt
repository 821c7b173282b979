-- The versions of a heap without their links, by number.
use Rattle.std.proofs.Common.{◌≡◌, ◌⊎◌, inl, inr, ℕ, zero, suc, Bool, true, false, List, Option, Some, None, option_map, refl, ap, sym, ◌∙◌}
use Rattle.std.specs.Option.{option_map_or}
use Rattle.std.proofs.lemmas.Bool.{cases_eq}
use Rattle.std.proofs.lemmas.Option.{slice_get-map}
use Rattle.pg_lists.specs.Numbered.{with_changed_nth_item}
use Rattle.pg_heap.proofs.Lists.{changed_here, changed_other, read_kept, same_items}
use Rattle.pg_heap.specs.declared.slot.Slot.{Slot}
use Rattle.pg_heap.specs.declared.slot.State.{State}
use Rattle.pg_heap.specs.declared.slot.State.TheVariants.{Settled}
use Rattle.pg_heap.specs.Slots.{slot_of, versions_linked, with_state, with_successor}
use Rattle.pg_heap.proofs.Slots.{set_after, set_before, set_state}
use Rattle.pg_rows.specs.Stores.{Stored, passes, stored_of}
use Rattle.pg_rows.specs.Kept.{attached_slots, stored_slot, stored_slots}

-- the version of a number
pub stored_at : (slots : List Slot) (number : ℕ) → stored_of (stored_slots slots) number ≡ option_map stored_slot (slot_of slots number)
stored_at slots zero = refl
stored_at slots (suc before) = slice_get-map stored_slot slots before

-- the test of a version that stands in the heap
pub passes_at : (test : Stored → Bool) (slots : List Slot) (number : ℕ) (slot : Slot) → slot_of slots number ≡ Some slot →
    passes test (stored_slots slots) number ≡ test (stored_slot slot)
passes_at test slots number slot is =
    ap (λ o. option_map_or test o false) (stored_at slots number ∙ ap (λ o. option_map stored_slot o) is)

-- a version that passes a test stands in the heap
pub passed_slot : (test : Stored → Bool) (slots : List Slot) (number : ℕ) → passes test (stored_slots slots) number ≡ true →
    (slot : Slot) × ((slot_of slots number ≡ Some slot) × (test (stored_slot slot) ≡ true))
passed_slot test slots number passed = at (slot_of slots number) refl (sym (ap (λ o. option_map_or test o false) (stored_at slots number)) ∙ passed)
  where
    at : (o : Option Slot) → slot_of slots number ≡ o → option_map_or test (option_map stored_slot o) false ≡ true →
        (slot : Slot) × ((slot_of slots number ≡ Some slot) × (test (stored_slot slot) ≡ true))
    at None is passed = absurd (cc passed)
    at (Some slot) is passed = (slot, (is, passed))

-- a change of one version that what is stored does not show
pub stored_kept : (change : Slot → Slot) (slots : List Slot) (number : ℕ) → ((slot : Slot) → stored_slot (change slot) ≡ stored_slot slot) →
    stored_slots (with_changed_nth_item change slots number) ≡ stored_slots slots
stored_kept change slots number same = same_items _ _ (λ i. at (suc i))
  where
    option : (o : Option Slot) → option_map stored_slot (option_map change o) ≡ option_map stored_slot o
    option None = refl
    option (Some slot) = ap Some (same slot)

    at : (m : ℕ) → stored_of (stored_slots (with_changed_nth_item change slots number)) m ≡ stored_of (stored_slots slots) m
    at m =
        stored_at (with_changed_nth_item change slots number) m
        ∙ (read_kept (λ o. option_map stored_slot o) change slots number m option ∙ sym (stored_at slots m))

-- a version in another state
abbrev pub in_state : State → Stored → Stored
in_state state stored = record stored { state = state }

pub stored_state : (slots : List Slot) (number : ℕ) (state : State) →
    stored_slots (with_state slots number state) ≡ with_changed_nth_item (in_state state) (stored_slots slots) number
stored_state slots number state = same_items _ _ (λ i. at (suc i) (cases_eq (suc i) number))
  where
    option : (o : Option Slot) → option_map stored_slot (option_map (set_state state) o) ≡ option_map (in_state state) (option_map stored_slot o)
    option None = refl
    option (Some slot) = refl

    at : (m : ℕ) → (m ≡ number) ⊎ (m ≡ number → ⊥) →
        stored_of (stored_slots (with_state slots number state)) m
        ≡ stored_of (with_changed_nth_item (in_state state) (stored_slots slots) number) m
    at m (inl e) =
        rw e
        (stored_at (with_state slots number state) number
        ∙ (ap (λ o. option_map stored_slot o) (changed_here (set_state state) slots number)
        ∙ (option (slot_of slots number)
        ∙ (ap (λ o. option_map (in_state state) o) (sym (stored_at slots number))
        ∙ sym (changed_here (in_state state) (stored_slots slots) number)))))
    at m (inr apart) =
        stored_at (with_state slots number state) m
        ∙ (ap (λ o. option_map stored_slot o) (changed_other (set_state state) slots number m apart)
        ∙ (sym (stored_at slots m) ∙ sym (changed_other (in_state state) (stored_slots slots) number m apart)))

-- links are not shown
pub stored_linked : (slots : List Slot) (first second : ℕ) → stored_slots (versions_linked slots first second) ≡ stored_slots slots
stored_linked slots first second =
    stored_kept (set_before (Some first)) (with_successor slots first (Some second)) second (λ slot. refl)
    ∙ stored_kept (set_after (Some second)) slots first (λ slot. refl)

pub stored_attached : (slots : List Slot) (last : Option ℕ) (version : ℕ) →
    stored_slots (attached_slots slots last version) ≡ with_changed_nth_item (in_state Settled) (stored_slots slots) version
stored_attached slots None version = stored_state slots version Settled
stored_attached slots (Some last) version =
    stored_state (versions_linked slots last version) version Settled
    ∙ ap (λ versions. with_changed_nth_item (in_state Settled) versions version) (stored_linked slots last version)
