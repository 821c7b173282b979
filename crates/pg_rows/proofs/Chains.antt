-- The chains of a store stay whole as versions are placed, attached and given up.
use Rattle.std.proofs.Common.{◌≡◌, ◌≢◌, ◌<◌, ◌≤◌, ◌+◌, ◌-◌, ◌++◌, ◌⊎◌, inl, inr, ℕ, zero, suc, Bool, true, false, cond, List, [], ◌∷◌, Option, Some, None, length, nat_eq, option_map, slice_get, refl, ap, sym, ◌∙◌, arith, length-append, eqb-true, eq-eqb, ne_eqb}
use Rattle.std.specs.Option.{option_map_or}
use Rattle.std.proofs.lemmas.Bool.{cases_eq, and_parts}
use Rattle.std.proofs.lemmas.List.{length-map}
use Rattle.std.proofs.lemmas.Option.{slice_get_within}
use Rattle.pg_lists.specs.Numbered.{with_changed_nth_item}
use Rattle.pg_xacts.proofs.Lists.{get_append_other, length_changed_from_one}
use Rattle.pg_heap.proofs.Lists.{changed_here, changed_other, get_before, get_behind}
use Rattle.pg_heap.proofs.Slots.{linked_placed, linked_state, set_state}
use Rattle.pg_heap.specs.declared.slot.Slot.{Slot}
use Rattle.pg_heap.specs.declared.slot.State.{State}
use Rattle.pg_heap.specs.declared.slot.State.TheVariants.{Placed, Settled, Dead}
use Rattle.pg_heap.specs.Slots.{slot_of, with_state}
use Rattle.pg_rows.specs.Stores.{Stored, HasNoDraft, is_settled, is_version_of, last_number, newest_number, passes, state_of}
use Rattle.pg_rows.specs.Kept.{AreChained, stored_slot, stored_slots}
use Rattle.pg_rows.proofs.Numbers.{last_none, last_same}
use Rattle.pg_rows.proofs.Stored.{passed_slot, passes_at, stored_at}

-- a state that is settled
pub settled_state : (state : State) → is_settled state ≡ true → state ≡ Settled
settled_state Settled is = refl
settled_state Placed is = absurd (cc is)
settled_state Dead is = absurd (cc is)

pub unsettled : (state : State) → state ≢ Settled → is_settled state ≡ false
unsettled Settled other = absurd (other refl)
unsettled Placed other = refl
unsettled Dead other = refl

pub placed_unsettled : (state : State) → state ≡ Placed → state ≢ Settled
placed_unsettled state is e = absurd (cc (is, e))

-- a version of a row that passes is settled there
pub version_slot : (slots : List Slot) (row number : ℕ) → passes (is_version_of row) (stored_slots slots) number ≡ true →
    (slot : Slot) × ((slot_of slots number ≡ Some slot) × ((slot.state ≡ Settled) × (slot.row ≡ row)))
version_slot slots row number passed =
    let found = passed_slot (is_version_of row) slots number passed in
    let parts = and_parts (is_settled found.0.state) (nat_eq found.0.row row) found.1.1 in
    (found.0, (found.1.0, (settled_state found.0.state parts.0, eqb-true found.0.row row parts.1)))

-- one that is not settled is no version of a row
pub no_version : (slots : List Slot) (row number : ℕ) (slot : Slot) → slot_of slots number ≡ Some slot → slot.state ≢ Settled →
    passes (is_version_of row) (stored_slots slots) number ≡ false
no_version slots row number slot is other =
    passes_at (is_version_of row) slots number slot is ∙ rw (unsettled slot.state other) refl

-- a version stands among those that were drawn
pub slot_within : (slots : List Slot) (number : ℕ) (slot : Slot) → slot_of slots number ≡ Some slot → (0 < number) × (number ≤ length slots)
slot_within slots zero slot is = absurd (cc is)
slot_within slots (suc before) slot is =
    let h = slice_get_within slots before slot is in (omega arith, omega (arith, h))

pub length_stored : (slots : List Slot) → length (stored_slots slots) ≡ length slots
length_stored slots = length-map slots stored_slot

-- the version of a number once one more is placed
slot_placed : (slots : List Slot) (slot found : Slot) (number : ℕ) → slot_of (slots ++ slot ∷ []) number ≡ Some found →
    ((number ≤ length slots) × (slot_of slots number ≡ Some found)) ⊎ ((number ≡ suc (length slots)) × (found ≡ slot))
slot_placed slots slot found zero is = absurd (cc is)
slot_placed slots slot found (suc i) is = at (cases_eq i (length slots))
  where
    at : (i ≡ length slots) ⊎ (i ≡ length slots → ⊥) →
        ((suc i ≤ length slots) × (slot_of slots (suc i) ≡ Some found)) ⊎ ((suc i ≡ suc (length slots)) × (found ≡ slot))
    at (inl e) =
        let there : slice_get (slots ++ slot ∷ []) (length slots) ≡ Some found = ap (slice_get (slots ++ slot ∷ [])) (sym e) ∙ is in
        inr (ap suc e, cc (there, get_behind slots slot))
    at (inr apart) =
        let there = sym (get_append_other slots slot i apart) ∙ is in
        let within = slice_get_within slots i found there in inl (omega (arith, within), there)

-- the tests of the versions in front stay
passes_before : (test : Stored → Bool) (slots : List Slot) (slot : Slot) (m : ℕ) → m ≤ length slots →
    passes test (stored_slots (slots ++ slot ∷ [])) m ≡ passes test (stored_slots slots) m
passes_before test slots slot zero le = refl
passes_before test slots slot (suc i) le =
    ap (λ o. option_map_or test o false)
    (stored_at (slots ++ slot ∷ []) (suc i)
    ∙ (ap (λ o. option_map stored_slot o) (get_append_other slots slot i (λ e. omega (arith, e, le)))
    ∙ sym (stored_at slots (suc i))))

-- a row number is drawn, of which there is no version yet
pub chained_drawn : (slots : List Slot) (newest : List (Option ℕ)) → AreChained slots newest →
    AreChained slots (newest ++ None ∷ [])
chained_drawn slots newest chained = record {
  linked = chained.linked;
  newest_of = λ row within. newest_of row within (cases_eq row (length newest));
  drawn = λ number slot is.
      let d = chained.drawn number slot is in let le = d.1 in
      (d.0, omega (arith, le, length-append newest (None ∷ [])));
  before = chained.before;
  loose = chained.loose;
  behind = chained.behind;
}
  where
    one : List (Option ℕ)
    one = None ∷ []

    no_slot : (m : ℕ) (b : Bool) → passes (is_version_of (length newest + 1)) (stored_slots slots) m ≡ b → b ≡ false
    no_slot m false is = refl
    no_slot m true is =
        let found = version_slot slots (length newest + 1) m is in
        let d = chained.drawn m found.0 found.1.0 in
        let le = d.1 in let e = found.1.1.1 in absurd (omega (arith, le, e))

    newest_of : (row : ℕ) → row < length (newest ++ None ∷ []) → (row ≡ length newest) ⊎ (row ≡ length newest → ⊥) →
        slice_get (newest ++ None ∷ []) row ≡ Some (newest_number (stored_slots slots) (row + 1))
    newest_of row within (inl e) =
        rw (e, last_none (passes (is_version_of (length newest + 1)) (stored_slots slots)) (length (stored_slots slots)) (λ m first le. no_slot m _ refl))
        (get_behind newest None)
    newest_of row within (inr apart) =
        get_before newest (None ∷ []) row (newest_number (stored_slots slots) (row + 1))
        (chained.newest_of row (omega (arith, within, apart, length-append newest one)))

-- a draft is placed for a row that has no other
pub chained_placed : (slots : List Slot) (newest : List (Option ℕ)) (slot : Slot) → AreChained slots newest →
    slot.state ≡ Placed → slot.before ≡ None → slot.after ≡ None → (0 < slot.row) × (slot.row ≤ length newest) →
    HasNoDraft (stored_slots slots) slot.row → AreChained (slots ++ slot ∷ []) newest
chained_placed slots newest slot chained placed no_before no_after drawn free = record {
  linked = linked_placed slots slot no_before no_after chained.linked;
  newest_of = λ row within. chained.newest_of row within ∙ ap Some (sym (same_newest (row + 1)));
  drawn = λ number found is. drawn_at number found (slot_placed slots slot found number is);
  before = λ number found is settled. before_at number found settled (slot_placed slots slot found number is);
  loose = λ number found is other. loose_at number found other (slot_placed slots slot found number is);
  behind = λ draft other one more is waits there same lt.
      behind_at draft other one more waits same lt (slot_placed slots slot one draft is) (slot_placed slots slot more other there);
}
  where
    new : List Slot
    new = slots ++ slot ∷ []

    last_no : (row : ℕ) → passes (is_version_of row) (stored_slots new) (suc (length slots)) ≡ false
    last_no row =
        no_version new row (suc (length slots)) slot (get_behind slots slot) (placed_unsettled slot.state placed)

    same_newest : (row : ℕ) → newest_number (stored_slots new) row ≡ newest_number (stored_slots slots) row
    same_newest row =
        rw (length_stored new, length_stored slots, length_new, last_no row)
        (last_same (passes (is_version_of row) (stored_slots new)) (passes (is_version_of row) (stored_slots slots)) (length slots)
        (λ m first le. passes_before (is_version_of row) slots slot m le))
      where
        length_new : length new ≡ suc (length slots)
        length_new = omega (arith, length-append slots (slot ∷ []))

    drawn_at : (number : ℕ) (found : Slot) →
        ((number ≤ length slots) × (slot_of slots number ≡ Some found)) ⊎ ((number ≡ suc (length slots)) × (found ≡ slot)) →
        (0 < found.row) × (found.row ≤ length newest)
    drawn_at number found (inl old) = chained.drawn number found old.1
    drawn_at number found (inr last) = rw last.1 drawn

    before_at : (number : ℕ) (found : Slot) → found.state ≡ Settled →
        ((number ≤ length slots) × (slot_of slots number ≡ Some found)) ⊎ ((number ≡ suc (length slots)) × (found ≡ slot)) →
        found.before ≡ last_number (passes (is_version_of found.row) (stored_slots new)) (number - 1)
    before_at number found settled (inl old) =
        chained.before number found old.1 settled
        ∙ sym (last_same (passes (is_version_of found.row) (stored_slots new)) (passes (is_version_of found.row) (stored_slots slots)) (number - 1)
        (λ m first le. passes_before (is_version_of found.row) slots slot m (let within = old.0 in omega (arith, le, within))))
    before_at number found settled (inr last) = absurd (cc (settled, last.1, placed))

    loose_at : (number : ℕ) (found : Slot) → found.state ≢ Settled →
        ((number ≤ length slots) × (slot_of slots number ≡ Some found)) ⊎ ((number ≡ suc (length slots)) × (found ≡ slot)) →
        (found.before ≡ None) × (found.after ≡ None)
    loose_at number found other (inl old) = chained.loose number found old.1 other
    loose_at number found other (inr last) = rw last.1 (no_before, no_after)

    behind_at : (draft other : ℕ) (one more : Slot) → one.state ≡ Placed → more.row ≡ one.row → draft < other →
        ((draft ≤ length slots) × (slot_of slots draft ≡ Some one)) ⊎ ((draft ≡ suc (length slots)) × (one ≡ slot)) →
        ((other ≤ length slots) × (slot_of slots other ≡ Some more)) ⊎ ((other ≡ suc (length slots)) × (more ≡ slot)) →
        more.state ≡ Dead
    behind_at draft other one more waits same lt (inl old) (inl there) = chained.behind draft other one more old.1 waits there.1 same lt
    behind_at draft other one more waits same lt (inl old) (inr last) =
        absurd (free draft (stored_slot one) (stored_at slots draft ∙ ap (λ o. option_map stored_slot o) old.1)
        (sym same ∙ ap (λ s. s.row) last.1) waits)
    behind_at draft other one more waits same lt (inr last) (inl there) =
        let e = last.0 in let le = there.0 in absurd (omega (arith, e, le, lt))
    behind_at draft other one more waits same lt (inr last) (inr there) =
        let e = last.0 in let f = there.0 in absurd (omega (arith, e, f, lt))

-- the version of a number, where one is changed
pub change_at : (change : Slot → Slot) (slots : List Slot) (number m : ℕ) (found : Slot) →
    slot_of (with_changed_nth_item change slots number) m ≡ Some found →
    (old : Slot) × ((slot_of slots m ≡ Some old) × (found ≡ cond (nat_eq m number) (change old) old))
change_at change slots number m found is = by_case (cases_eq m number)
  where
    option : (o : Option Slot) → option_map change o ≡ Some found → (old : Slot) × ((o ≡ Some old) × (found ≡ change old))
    option None is = absurd (cc is)
    option (Some old) is = (old, (refl, cc is))

    by_case : (m ≡ number) ⊎ (m ≡ number → ⊥) →
        (old : Slot) × ((slot_of slots m ≡ Some old) × (found ≡ cond (nat_eq m number) (change old) old))
    by_case (inl e) =
        let there : slot_of (with_changed_nth_item change slots number) number ≡ Some found = ap (slot_of (with_changed_nth_item change slots number)) (sym e) ∙ is in
        let o = option (slot_of slots number) (sym (changed_here change slots number) ∙ there) in
        (o.0, (ap (slot_of slots) e ∙ o.1.0, rw (eq-eqb m number e) o.1.1))
    by_case (inr apart) =
        (found, (sym (changed_other change slots number m apart) ∙ is, rw (ne_eqb m number apart) refl))

-- a draft is given up
pub chained_discarded : (slots : List Slot) (newest : List (Option ℕ)) (number : ℕ) (slot : Slot) → AreChained slots newest →
    slot_of slots number ≡ Some slot → slot.state ≡ Placed → AreChained (with_state slots number Dead) newest
chained_discarded slots newest number slot chained is placed = record {
  linked = linked_state slots number Dead chained.linked;
  newest_of = λ row within. chained.newest_of row within ∙ ap Some (sym (same_newest (row + 1)));
  drawn = λ m found there.
      let old = change_at (set_state Dead) slots number m found there in
      rw (row_same m found old.0 old.1.1) (chained.drawn m old.0 old.1.0);
  before = λ m found there settled.
      let old = change_at (set_state Dead) slots number m found there in
      before_at m found old.0 old.1.0 settled (cases_eq m number) old.1.1;
  loose = λ m found there other.
      let old = change_at (set_state Dead) slots number m found there in
      loose_at m found old.0 old.1.0 other (cases_eq m number) old.1.1;
  behind = λ draft other one more there waits after same lt.
      let old = change_at (set_state Dead) slots number draft one there in
      let later = change_at (set_state Dead) slots number other more after in
      behind_at draft other one more old.0 later.0 old.1.0 later.1.0 waits same lt (cases_eq draft number) (cases_eq other number) old.1.1 later.1.1;
}
  where
    new : List Slot
    new = with_state slots number Dead

    row_same : (m : ℕ) (found old : Slot) → found ≡ cond (nat_eq m number) (set_state Dead old) old → found.row ≡ old.row
    row_same m found old is = at (nat_eq m number) is
      where
        at : (b : Bool) → found ≡ cond b (set_state Dead old) old → found.row ≡ old.row
        at true is = ap (λ s. s.row) is
        at false is = ap (λ s. s.row) is

    there_now : slot_of new number ≡ Some (set_state Dead slot)
    there_now = changed_here (set_state Dead) slots number ∙ ap (λ o. option_map (set_state Dead) o) is

    same_passes : (row m : ℕ) → passes (is_version_of row) (stored_slots new) m ≡ passes (is_version_of row) (stored_slots slots) m
    same_passes row m = at (cases_eq m number)
      where
        dead : set_state Dead slot ≡ set_state Dead slot → (set_state Dead slot).state ≢ Settled
        dead same e = absurd (cc e)

        at : (m ≡ number) ⊎ (m ≡ number → ⊥) → passes (is_version_of row) (stored_slots new) m ≡ passes (is_version_of row) (stored_slots slots) m
        at (inl e) =
            rw e
            (no_version new row number (set_state Dead slot) there_now (dead refl)
            ∙ sym (no_version slots row number slot is (placed_unsettled slot.state placed)))
        at (inr apart) =
            ap (λ o. option_map_or (is_version_of row) o false)
            (stored_at new m ∙ (ap (λ o. option_map stored_slot o) (changed_other (set_state Dead) slots number m apart) ∙ sym (stored_at slots m)))

    same_newest : (row : ℕ) → newest_number (stored_slots new) row ≡ newest_number (stored_slots slots) row
    same_newest row =
        rw (length_stored new, length_stored slots, length_changed_from_one (set_state Dead) slots number)
        (last_same (passes (is_version_of row) (stored_slots new)) (passes (is_version_of row) (stored_slots slots)) (length slots)
        (λ m first le. same_passes row m))

    before_at : (m : ℕ) (found old : Slot) → slot_of slots m ≡ Some old → found.state ≡ Settled →
        (m ≡ number) ⊎ (m ≡ number → ⊥) → found ≡ cond (nat_eq m number) (set_state Dead old) old →
        found.before ≡ last_number (passes (is_version_of found.row) (stored_slots new)) (m - 1)
    before_at m found old there settled (inl e) same =
        let dead : found ≡ set_state Dead old = same ∙ rw (eq-eqb m number e) refl in
        absurd (cc (settled, ap (λ s. s.state) dead))
    before_at m found old there settled (inr apart) same =
        let e : found ≡ old = same ∙ rw (ne_eqb m number apart) refl in
        rw e
        (chained.before m old there (ap (λ s. s.state) (sym e) ∙ settled)
        ∙ sym (last_same (passes (is_version_of old.row) (stored_slots new)) (passes (is_version_of old.row) (stored_slots slots)) (m - 1) (λ k first le. same_passes old.row k)))

    loose_at : (m : ℕ) (found old : Slot) → slot_of slots m ≡ Some old → found.state ≢ Settled →
        (m ≡ number) ⊎ (m ≡ number → ⊥) → found ≡ cond (nat_eq m number) (set_state Dead old) old →
        (found.before ≡ None) × (found.after ≡ None)
    loose_at m found old there other (inl e) same =
        let dead : found ≡ set_state Dead old = same ∙ rw (eq-eqb m number e) refl in
        let was : old ≡ slot = cc (there, e, is) in
        rw (dead, was) (chained.loose number slot is (placed_unsettled slot.state placed))
    loose_at m found old there other (inr apart) same =
        let e : found ≡ old = same ∙ rw (ne_eqb m number apart) refl in
        rw e (chained.loose m old there (λ s. other (ap (λ x. x.state) e ∙ s)))

    behind_at : (draft other : ℕ) (one more old later : Slot) → slot_of slots draft ≡ Some old → slot_of slots other ≡ Some later →
        one.state ≡ Placed → more.row ≡ one.row → draft < other → (draft ≡ number) ⊎ (draft ≡ number → ⊥) →
        (other ≡ number) ⊎ (other ≡ number → ⊥) → one ≡ cond (nat_eq draft number) (set_state Dead old) old →
        more ≡ cond (nat_eq other number) (set_state Dead later) later → more.state ≡ Dead
    behind_at draft other one more old later there after waits same lt (inl e) place one_is more_is =
        let dead : one ≡ set_state Dead old = one_is ∙ rw (eq-eqb draft number e) refl in
        absurd (cc (waits, ap (λ s. s.state) dead))
    behind_at draft other one more old later there after waits same lt (inr apart) (inl f) one_is more_is =
        let dead : more ≡ set_state Dead later = more_is ∙ rw (eq-eqb other number f) refl in ap (λ s. s.state) dead
    behind_at draft other one more old later there after waits same lt (inr apart) (inr other_apart) one_is more_is =
        let e : one ≡ old = one_is ∙ rw (ne_eqb draft number apart) refl in
        let f : more ≡ later = more_is ∙ rw (ne_eqb other number other_apart) refl in
        ap (λ s. s.state) f
        ∙ chained.behind draft other old later there (ap (λ s. s.state) (sym e) ∙ waits) after
        (ap (λ s. s.row) (sym f) ∙ (same ∙ ap (λ s. s.row) e)) lt

-- a draft that is shown stands in the heap
pub draft_slot : (slots : List Slot) (number : ℕ) → state_of (stored_slots slots) number ≡ Some Placed →
    (slot : Slot) × ((slot_of slots number ≡ Some slot) × (slot.state ≡ Placed))
draft_slot slots number placed = at (slot_of slots number) refl (sym (ap (λ o. option_map (λ stored. stored.state) o) (stored_at slots number)) ∙ placed)
  where
    at : (o : Option Slot) → slot_of slots number ≡ o → option_map (λ stored. stored.state) (option_map stored_slot o) ≡ Some Placed →
        (slot : Slot) × ((slot_of slots number ≡ Some slot) × (slot.state ≡ Placed))
    at None is placed = absurd (cc placed)
    at (Some slot) is placed = (slot, (is, cc placed))

-- a row that is drawn next has no draft
pub no_draft_yet : (slots : List Slot) (newest : List (Option ℕ)) (row : ℕ) → AreChained slots newest → row ≡ length newest + 1 →
    HasNoDraft (stored_slots slots) row
no_draft_yet slots newest row chained next number stored is mine waits = at (slot_of slots number) refl (sym (stored_at slots number) ∙ is)
  where
    at : (o : Option Slot) → slot_of slots number ≡ o → option_map stored_slot o ≡ Some stored → ⊥
    at None there is = cc is
    at (Some slot) there is =
        let d = chained.drawn number slot there in
        let le = d.1 in
        let same : stored_slot slot ≡ stored = cc is in
        let row_is : slot.row ≡ row = ap (λ s. s.row) same ∙ mine in omega (arith, le, row_is, next)
