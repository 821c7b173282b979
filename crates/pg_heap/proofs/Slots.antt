-- What the changes of a heap keep: that links lead both ways, and who wrote each version.
use Rattle.std.proofs.Common.{◌≡◌, ◌≢◌, ◌++◌, ◌⊎◌, inl, inr, ℕ, zero, suc, true, false, List, [], ◌∷◌, Option, Some, None, length, option_map, option_and_then, slice_get, refl, ap, sym, ◌∙◌, arith}
use Rattle.std.specs.Option.{option_map_or}
use Rattle.std.proofs.lemmas.Bool.{cases_eq}
use Rattle.std.proofs.lemmas.Option.{slice_get_past}
use Rattle.pg_xacts.proofs.Lists.{get_append_other}
use Rattle.pg_heap.specs.declared.slot.Slot.{Slot}
use Rattle.pg_heap.specs.declared.slot.State.{State}
use Rattle.pg_heap.specs.Slots.{AreLinked, CanLink, is_living, is_living_state, predecessor_of, slot_of, state_of, successor_of, versions_linked, with_state, with_successor}
use Rattle.pg_heap.proofs.Lists.{changed_here, changed_other, get_behind, read_kept}

-- the links of a version
abbrev befores : Option Slot → Option ℕ
befores o = option_and_then (λ slot. slot.before) o

abbrev afters : Option Slot → Option ℕ
afters o = option_and_then (λ slot. slot.after) o

-- a version that is changed
abbrev pub set_state : State → Slot → Slot
set_state state slot = record slot { state = state }

abbrev pub set_before : Option ℕ → Slot → Slot
set_before link slot = record slot { before = link }

abbrev pub set_after : Option ℕ → Slot → Slot
set_after link slot = record slot { after = link }

-- where the links are the same, they still lead both ways
pub linked_by : (slots more : List Slot) → ((number : ℕ) → predecessor_of more number ≡ predecessor_of slots number) →
    ((number : ℕ) → successor_of more number ≡ successor_of slots number) → AreLinked slots → AreLinked more
linked_by slots more before after linked = record {
  back = λ first second is. before second ∙ linked.back first second (sym (after first) ∙ is);
  forth = λ first second is. after first ∙ linked.forth first second (sym (before second) ∙ is);
}

-- another state of one
pub linked_state : (slots : List Slot) (number : ℕ) (state : State) → AreLinked slots →
    AreLinked (with_state slots number state)
linked_state slots number state linked =
    linked_by slots (with_state slots number state)
    (λ other. read_kept befores (set_state state) slots number other before)
    (λ other. read_kept afters (set_state state) slots number other after) linked
  where
    before : (o : Option Slot) → befores (option_map (set_state state) o) ≡ befores o
    before None = refl
    before (Some slot) = refl

    after : (o : Option Slot) → afters (option_map (set_state state) o) ≡ afters o
    after None = refl
    after (Some slot) = refl

-- one more version, without links
pub linked_placed : (slots : List Slot) (slot : Slot) → slot.before ≡ None → slot.after ≡ None → AreLinked slots →
    AreLinked (slots ++ slot ∷ [])
linked_placed slots slot no_before no_after linked =
    linked_by slots (slots ++ slot ∷ []) (links befores no_before refl) (links afters no_after refl) linked
  where
    links : (read : Option Slot → Option ℕ) → read (Some slot) ≡ None → read None ≡ None → (number : ℕ) →
        read (slot_of (slots ++ slot ∷ []) number) ≡ read (slot_of slots number)
    links read none nothing zero = refl
    links read none nothing (suc i) = at (cases_eq i (length slots))
      where
        at : (i ≡ length slots) ⊎ (i ≡ length slots → ⊥) →
            read (slice_get (slots ++ slot ∷ []) i) ≡ read (slice_get slots i)
        at (inl e) =
            rw e (ap read (get_behind slots slot) ∙ (none ∙ (sym nothing ∙ ap read (sym (slice_get_past slots (length slots) (omega arith))))))
        at (inr apart) = ap read (get_append_other slots slot i apart)

-- a version that lives was drawn
drawn_slot : (slots : List Slot) (number : ℕ) → is_living slots number ≡ true →
    (slot : Slot) × (slot_of slots number ≡ Some slot)
drawn_slot slots number living = at (slot_of slots number) refl living
  where
    at : (o : Option Slot) → slot_of slots number ≡ o →
        option_map_or is_living_state (option_map (λ slot. slot.state) o) false ≡ true →
        (slot : Slot) × (slot_of slots number ≡ Some slot)
    at None is there = absurd (cc there)
    at (Some slot) is there = (slot, is)

-- two versions that become linked
module _ (slots : List Slot) (first second : ℕ) (can : CanLink slots first second) where
  abbrev pub linked_slots : List Slot
  linked_slots = versions_linked slots first second

  successor_first : successor_of linked_slots first ≡ Some second
  successor_first =
      let slot = drawn_slot slots first can.living_first in
      read_kept afters (set_before (Some first)) (with_successor slots first (Some second)) second first kept
      ∙ (ap afters (changed_here (set_after (Some second)) slots first) ∙ rw slot.1 refl)
    where
      kept : (o : Option Slot) → afters (option_map (set_before (Some first)) o) ≡ afters o
      kept None = refl
      kept (Some slot) = refl

  successor_other : (other : ℕ) → other ≢ first → successor_of linked_slots other ≡ successor_of slots other
  successor_other other apart =
      read_kept afters (set_before (Some first)) (with_successor slots first (Some second)) second other kept
      ∙ ap afters (changed_other (set_after (Some second)) slots first other apart)
    where
      kept : (o : Option Slot) → afters (option_map (set_before (Some first)) o) ≡ afters o
      kept None = refl
      kept (Some slot) = refl

  same_before : (o : Option Slot) → befores (option_map (set_after (Some second)) o) ≡ befores o
  same_before None = refl
  same_before (Some slot) = refl

  predecessor_other : (other : ℕ) → other ≢ second → predecessor_of linked_slots other ≡ predecessor_of slots other
  predecessor_other other apart =
      ap befores (changed_other (set_before (Some first)) (with_successor slots first (Some second)) second other apart)
      ∙ read_kept befores (set_after (Some second)) slots first other same_before

  predecessor_second : predecessor_of linked_slots second ≡ Some first
  predecessor_second =
      ap befores (changed_here (set_before (Some first)) (with_successor slots first (Some second)) second)
      ∙ given (slot_of (with_successor slots first (Some second)) second) still
    where
      still : option_map (λ slot. slot.row) (slot_of (with_successor slots first (Some second)) second) ≢ None
      still is =
          let slot = drawn_slot slots second can.living_second in
          let row = read_kept (λ o. option_map (λ slot. slot.row) o) (set_after (Some second)) slots first second rows in
          cc (is, row, ap (λ o. option_map (λ slot. slot.row) o) slot.1)
        where
          rows : (o : Option Slot) → option_map (λ slot. slot.row) (option_map (set_after (Some second)) o) ≡ option_map (λ slot. slot.row) o
          rows None = refl
          rows (Some slot) = refl

      given : (o : Option Slot) → option_map (λ slot. slot.row) o ≢ None →
          befores (option_map (set_before (Some first)) o) ≡ Some first
      given None there = absurd (there refl)
      given (Some slot) there = refl

  pub linked_linked : AreLinked slots → AreLinked linked_slots
  linked_linked linked = record {
    back = λ one other is. back one other is (cases_eq one first);
    forth = λ one other is. forth one other is (cases_eq other second);
  }
    where
      back : (one other : ℕ) → successor_of linked_slots one ≡ Some other → (one ≡ first) ⊎ (one ≡ first → ⊥) →
          predecessor_of linked_slots other ≡ Some one
      back one other is (inl e) =
          let same : second ≡ other = cc (is, e, successor_first) in
          rw (← same, e) predecessor_second
      back one other is (inr apart) =
          let was = linked.back one other (sym (successor_other one apart) ∙ is) in
          predecessor_other other (λ e. absurd (cc (was, e, can.unlinked_before))) ∙ was

      forth : (one other : ℕ) → predecessor_of linked_slots other ≡ Some one → (other ≡ second) ⊎ (other ≡ second → ⊥) →
          successor_of linked_slots one ≡ Some other
      forth one other is (inl e) =
          let same : first ≡ one = cc (is, e, predecessor_second) in
          rw (← same, e) successor_first
      forth one other is (inr apart) =
          let was = linked.forth one other (sym (predecessor_other other apart) ∙ is) in
          successor_other one (λ e. absurd (cc (was, e, can.last))) ∙ was
