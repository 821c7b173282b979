-- A transaction has committed in a store: the drafts that it left are dead.
use Rattle.std.proofs.Common.{◌≡◌, ◌≢◌, ◌<◌, ◌≤◌, ◌-◌, ◌⊎◌, inl, inr, ℕ, zero, suc, Bool, true, false, cond, List, [], ◌∷◌, Option, Some, None, IfSome, length, map, nat_lt, option_map, unwrap_or, slice_get, slice_set, refl, ap, ap₂, subst, sym, ◌∙◌, arith, lt-ltb, le-ltb}
use Rattle.std.specs.Option.{option_map_or}
use Rattle.std.proofs.lemmas.Bool.{cases_eq, cases_lt, cases_order}
use Rattle.std.proofs.lemmas.Option.{slice_get-map, slice_get_within}
use Rattle.pg_lists.specs.Numbered.{with_changed_nth_item}
use Rattle.pg_heap.specs.declared.slot.Slot.{Slot}
use Rattle.pg_heap.specs.declared.slot.State.{State}
use Rattle.pg_heap.specs.declared.slot.State.TheVariants.{Placed, Settled, Dead}
use Rattle.pg_heap.specs.Rows.{is_written_by}
use Rattle.pg_heap.specs.Slots.{is_number_written_by, slot_of, state_of as state_of_slot}
use Rattle.pg_heap.specs.Written.{latest_by}
use Rattle.pg_heap.proofs.Lists.{changed_here, changed_other, same_items}
use Rattle.pg_rows.specs.Stores.{Stored, StoreView, ended_state, ended_version, is_number_of, is_placed, last_number, last_written_by, store_ended, stored_of, with_given_up}
use Rattle.pg_rows.specs.Kept.{stored_slot, stored_slots}
use Rattle.pg_rows.proofs.Numbers.{last_after, last_passes, last_same}
use Rattle.pg_rows.proofs.Stored.{stored_at}

-- who wrote a version is read alike of the heap and of what it shows
pub written_is : (xact : ℕ) (slots : List Slot) (m : ℕ) → is_number_of xact (stored_slots slots) m ≡ is_number_written_by xact slots m
written_is xact slots m =
    ap (λ o. option_map_or (λ stored. is_written_by xact stored.version) o false) (stored_at slots m) ∙ at (slot_of slots m)
  where
    at : (o : Option Slot) → option_map_or (λ stored. is_written_by xact stored.version) (option_map stored_slot o) false
        ≡ option_map_or (λ slot. is_written_by xact slot.version) o false
    at None = refl
    at (Some slot) = refl

pub latest_is : (xact : ℕ) (slots : List Slot) (count : ℕ) → latest_by xact slots count ≡ last_written_by xact (stored_slots slots) count
latest_is xact slots zero = refl
latest_is xact slots (suc before) = rw (written_is xact slots (suc before), latest_is xact slots before) refl

-- behind the last number that passes none does
none_passes : (p : ℕ → Bool) (count m : ℕ) → last_number p count ≡ None → 0 < m → m ≤ count → p m ≡ false
none_passes p zero m is first le = absurd (omega (arith, first, le))
none_passes p (suc before) m is first le = at (λ e less. none_passes p before m e first less) (p (suc before)) refl is
  where
    by_case : (m ≡ suc before) ⊎ (m ≡ suc before → ⊥) → p (suc before) ≡ false → (m ≤ before → p m ≡ false) → p m ≡ false
    by_case (inl e) none behind = rw e none
    by_case (inr apart) none behind = behind (omega (arith, le, apart))

    at : (last_number p before ≡ None → m ≤ before → p m ≡ false) → (b : Bool) → p (suc before) ≡ b →
        cond b (Some (suc before)) (last_number p before) ≡ None → p m ≡ false
    at behind true passed is = absurd (cc is)
    at behind false passed is = by_case (cases_eq m (suc before)) passed (behind is)

pub none_behind_last : (p : ℕ → Bool) (count : ℕ) (next : Option ℕ) (m : ℕ) → next ≡ last_number p count → unwrap_or next 0 < m → m ≤ count → p m ≡ false
none_behind_last p count None m is lt le = none_passes p count m (sym is) lt le
none_behind_last p count (Some n) m is lt le = last_after p count n m (sym is) lt le

-- the last is at most as many as were looked at
last_within : (p : ℕ → Bool) (count : ℕ) (next : Option ℕ) → next ≡ last_number p count → unwrap_or next 0 ≤ count
last_within p count None is = omega arith
last_within p count (Some n) is = (last_passes p count n (sym is)).1.1

written_if : (xact : ℕ) (versions : List Stored) (count : ℕ) (next : Option ℕ) → next ≡ last_written_by xact versions count →
    IfSome next (λ n. is_number_of xact versions n ≡ true)
written_if xact versions count None is = tt
written_if xact versions count (Some n) is = (last_passes (is_number_of xact versions) count n (sym is)).0

-- a version that the transaction did not write stays
ended_other : (xact : ℕ) (stored : Stored) → is_written_by xact stored.version ≡ false → ended_version xact stored ≡ stored
ended_other xact stored other = rw other refl

-- a version that a transaction wrote was drawn
pub number_within : (xact : ℕ) (versions : List Stored) (n : ℕ) → is_number_of xact versions n ≡ true → (0 < n) × (n ≤ length versions)
number_within xact versions zero wrote = absurd (cc wrote)
number_within xact versions (suc before) wrote = at (slice_get versions before) refl wrote
  where
    at : (o : Option Stored) → slice_get versions before ≡ o → option_map_or (λ stored. is_written_by xact stored.version) o false ≡ true →
        (0 < suc before) × (suc before ≤ length versions)
    at None is wrote = absurd (cc wrote)
    at (Some stored) is wrote = let h = slice_get_within versions before stored is in (omega arith, omega (arith, h))

-- a version is as the transaction's end leaves it where its number is above one
abbrev pub ended_above : ℕ → ℕ → ℕ → Stored → Stored
ended_above xact floor m stored = cond (nat_lt floor m) (ended_version xact stored) stored

-- how far the drafts of a transaction are dead, from its last version back
pub record IsEnding (xact : ℕ) (old now : StoreView) (next : Option ℕ) : Type 0 where
  pub drawn : now.drawn ≡ old.drawn
  pub each : (m : ℕ) → stored_of now.versions m ≡ option_map (ended_above xact (unwrap_or next 0) m) (stored_of old.versions m)
  pub written : IfSome next (λ n. is_number_of xact old.versions n ≡ true)

pub ending_first : (xact : ℕ) (store : StoreView) (next : Option ℕ) → next ≡ last_written_by xact store.versions (length store.versions) →
    IsEnding xact store store next
ending_first xact store next is = record {
  drawn = refl;
  each = λ m. at m (stored_of store.versions m) refl;
  written = written_if xact store.versions (length store.versions) next is;
}
  where
    stays : (m : ℕ) (stored : Stored) → stored_of store.versions m ≡ Some stored → (b : Bool) → nat_lt (unwrap_or next 0) m ≡ b →
        stored ≡ cond b (ended_version xact stored) stored
    stays m stored there false above = refl
    stays m stored there true above = sym (ended_other xact stored (other (cases_lt (unwrap_or next 0) m)))
      where
        other : (unwrap_or next 0 < m) ⊎ (m ≤ unwrap_or next 0) → is_written_by xact stored.version ≡ false
        other (inl lt) =
            let le = within m there in
            sym (ap (λ o. option_map_or (λ stored. is_written_by xact stored.version) o false) there)
            ∙ none_behind_last (is_number_of xact store.versions) (length store.versions) next m is lt le
          where
            within : (m : ℕ) → stored_of store.versions m ≡ Some stored → m ≤ length store.versions
            within zero there = omega arith
            within (suc before) there = let h = slice_get_within store.versions before stored there in omega (arith, h)
        other (inr le) = absurd (cc (above, le-ltb (unwrap_or next 0) m le))

    at : (m : ℕ) (o : Option Stored) → stored_of store.versions m ≡ o → stored_of store.versions m ≡ option_map (ended_above xact (unwrap_or next 0) m) o
    at m None there = there
    at m (Some stored) there = there ∙ ap Some (stays m stored there (nat_lt (unwrap_or next 0) m) refl)

-- who wrote a version stays known
kept_writer : (xact number m : ℕ) (o : Option Stored) →
    option_map_or (λ stored. is_written_by xact stored.version) (option_map (ended_above xact number m) o) false
    ≡ option_map_or (λ stored. is_written_by xact stored.version) o false
kept_writer xact number m None = refl
kept_writer xact number m (Some stored) = by_case (nat_lt number m)
  where
    by_case : (b : Bool) → is_written_by xact (cond b (ended_version xact stored) stored).version ≡ is_written_by xact stored.version
    by_case true = refl
    by_case false = refl

writer_same : (xact number : ℕ) (old now : StoreView) → IsEnding xact old now (Some number) → (m : ℕ) →
    is_number_of xact now.versions m ≡ is_number_of xact old.versions m
writer_same xact number old now ending m =
    ap (λ o. option_map_or (λ stored. is_written_by xact stored.version) o false) (ending.each m)
    ∙ kept_writer xact number m (stored_of old.versions m)

-- the version that the loop looks at was drawn
pub ending_within : (xact number : ℕ) (old now : StoreView) (here : Option ℕ) → here ≡ Some number → IsEnding xact old now here →
    number ≤ length now.versions
ending_within xact number old now here at ending =
    let there = subst (λ o. IsEnding xact old now o) at ending in
    (number_within xact now.versions number (writer_same xact number old now there number ∙ there.written)).1

module _ (xact : ℕ) (old now : StoreView) (here next : Option ℕ) (number : ℕ) (at : here ≡ Some number)
    (ending : IsEnding xact old now here)
    (earlier : (by : ℕ) → is_number_of by now.versions number ≡ true → next ≡ last_written_by by now.versions (number - 1)) where
  abbrev ending_at : IsEnding xact old now (Some number)
  ending_at = subst (λ o. IsEnding xact old now o) at ending

  same_writer : (m : ℕ) → is_number_of xact now.versions m ≡ is_number_of xact old.versions m
  same_writer m = writer_same xact number old now ending_at m

  next_is : next ≡ last_written_by xact old.versions (number - 1)
  next_is =
      earlier xact (same_writer number ∙ ending_at.written)
      ∙ last_same (is_number_of xact now.versions) (is_number_of xact old.versions) (number - 1) (λ m first le. same_writer m)

  first : 0 < number
  first = (number_within xact old.versions number ending_at.written).0

  less : unwrap_or next 0 < number
  less =
      let within = last_within (is_number_of xact old.versions) (number - 1) next next_is in
      let f = first in omega (arith, within, f)

  pub ending_less : unwrap_or next 0 < unwrap_or here 0
  ending_less = rw at less

  abbrev given_up : Stored → Stored
  given_up stored = record stored { state = ended_state true stored.state }

  own : (o : Option Stored) → stored_of old.versions number ≡ o →
      option_map given_up (option_map (ended_above xact number number) o) ≡ option_map (ended_above xact (unwrap_or next 0) number) o
  own None there = refl
  own (Some stored) there =
      let wrote : is_written_by xact stored.version ≡ true =
      sym (ap (λ o. option_map_or (λ stored. is_written_by xact stored.version) o false) there) ∙ ending_at.written in
      rw (le-ltb number number (omega arith), lt-ltb (unwrap_or next 0) number less, wrote) refl

  others : (m : ℕ) → m ≢ number → (o : Option Stored) → stored_of old.versions m ≡ o →
      option_map (ended_above xact number m) o ≡ option_map (ended_above xact (unwrap_or next 0) m) o
  others m apart None there = refl
  others m apart (Some stored) there = by_case (cases_order m number)
    where
      below : m < number → (unwrap_or next 0 < m) ⊎ (m ≤ unwrap_or next 0) →
          stored ≡ cond (nat_lt (unwrap_or next 0) m) (ended_version xact stored) stored
      below lt (inr le) = rw (le-ltb (unwrap_or next 0) m le) refl
      below lt (inl above) =
          let other : is_written_by xact stored.version ≡ false =
          sym (ap (λ o. option_map_or (λ stored. is_written_by xact stored.version) o false) there)
          ∙ none_behind_last (is_number_of xact old.versions) (number - 1) next m next_is above (omega (arith, lt)) in
          rw (lt-ltb (unwrap_or next 0) m above) (sym (ended_other xact stored other))

      by_case : (m ≡ number) ⊎ ((m < number) ⊎ (number < m)) →
          option_map (ended_above xact number m) (Some stored) ≡ option_map (ended_above xact (unwrap_or next 0) m) (Some stored)
      by_case (inl e) = absurd (apart e)
      by_case (inr (inl lt)) =
          rw (le-ltb number m (omega (arith, lt))) (ap Some (below lt (cases_lt (unwrap_or next 0) m)))
      by_case (inr (inr gt)) =
          rw (lt-ltb number m gt, lt-ltb (unwrap_or next 0) m (let l = less in omega (arith, l, gt))) refl

  pub ending_more : IsEnding xact old (with_given_up now number) next
  ending_more = record {
    drawn = ending_at.drawn;
    each = λ m. each m (cases_eq m number);
    written = written_if xact old.versions (number - 1) next next_is;
  }
    where
      each : (m : ℕ) → (m ≡ number) ⊎ (m ≡ number → ⊥) →
          stored_of (with_changed_nth_item given_up now.versions number) m ≡ option_map (ended_above xact (unwrap_or next 0) m) (stored_of old.versions m)
      each m (inl e) =
          rw e
          (changed_here given_up now.versions number
          ∙ (ap (λ o. option_map given_up o) (ending_at.each number) ∙ own (stored_of old.versions number) refl))
      each m (inr apart) =
          changed_other given_up now.versions number m apart
          ∙ (ending_at.each m ∙ others m apart (stored_of old.versions m) refl)

-- what is shown with other versions
abbrev shown : ℕ → List Stored → StoreView
shown drawn versions = record { drawn = drawn; versions = versions }

pub ending_last : (xact : ℕ) (old now : StoreView) → IsEnding xact old now None → now ≡ store_ended old xact
ending_last xact old now ending = ap₂ shown ending.drawn (same_items _ _ (λ i. at i))
  where
    at : (i : ℕ) → slice_get now.versions i ≡ slice_get (map (ended_version xact) old.versions) i
    at i =
        ending.each (suc i)
        ∙ (ap (λ b. option_map (λ stored. cond b (ended_version xact stored) stored) (slice_get old.versions i)) (lt-ltb 0 (suc i) (omega arith))
        ∙ sym (slice_get-map (ended_version xact) old.versions i))

-- an item that is set to itself
set_same : {X : Type 0} (xs : List X) (i : ℕ) (x : X) → slice_get xs i ≡ Some x → slice_set xs i x ≡ xs
set_same [] i x is = absurd (cc is)
set_same (y ∷ ys) zero x is = let e : y ≡ x = cc is in rw e refl
set_same (y ∷ ys) (suc i) x is = ap (λ zs. y ∷ zs) (set_same ys i x is)

-- what is no draft is not given up
pub given_up_none : (store : StoreView) (number : ℕ) (state : State) → option_map (λ stored. stored.state) (stored_of store.versions number) ≡ Some state →
    is_placed state ≡ false → store ≡ with_given_up store number
given_up_none store zero state is none = refl
given_up_none store (suc before) state is none = ap (shown store.drawn) (at (slice_get store.versions before) refl is)
  where
    given : Stored → Stored
    given stored = record stored { state = ended_state true stored.state }

    state_same : (state : State) → is_placed state ≡ false → ended_state true state ≡ state
    state_same Placed none = absurd (cc none)
    state_same Settled none = refl
    state_same Dead none = refl

    at : (o : Option Stored) → slice_get store.versions before ≡ o → option_map (λ stored. stored.state) o ≡ Some state →
        store.versions ≡ option_map_or (λ stored. slice_set store.versions before (record stored { state = ended_state true stored.state })) o store.versions
    at None there is = refl
    at (Some stored) there is =
        let e : stored.state ≡ state = cc is in
        sym
        (ap (λ s. slice_set store.versions before (record stored { state = s })) (ap (ended_state true) e ∙ (state_same state none ∙ sym e))
        ∙ set_same store.versions before stored there)

-- the state that the heap tells is the one that is shown
pub shown_state : (slots : List Slot) (number : ℕ) (state : State) → state_of_slot slots number ≡ Some state →
    option_map (λ stored. stored.state) (stored_of (stored_slots slots) number) ≡ Some state
shown_state slots number state is = ap (λ o. option_map (λ s. s.state) o) (stored_at slots number) ∙ at (slot_of slots number) is
  where
    at : (o : Option Slot) → option_map (λ s. s.state) o ≡ Some state → option_map (λ s. s.state) (option_map stored_slot o) ≡ Some state
    at None is = absurd (cc is)
    at (Some slot) is = is
