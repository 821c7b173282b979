-- A transaction is rolled back in a store: the newest versions leave out what it wrote, from its last
-- version back.
use Rattle.std.proofs.Common.{◌≡◌, ◌≢◌, ◌<◌, ◌≤◌, ◌+◌, ◌-◌, ◌⊎◌, inl, inr, ◌&&◌, ℕ, Bool, true, false, List, Option, Some, None, IfSome, length, not, nat_lt, option_and_then, option_map, unwrap_or, slice_get, slice_set, refl, ap, subst, sym, ◌∙◌, arith, length-set, eq-eqb, ne_eqb, lt-ltb, le-ltb}
use Rattle.std.proofs.Math.Bool.{and-false, and-true}
use Rattle.std.specs.Option.{option_map_or}
use Rattle.std.proofs.lemmas.Bool.{cases_eq, cases_order}
use Rattle.pg_xacts.proofs.Lists.{get_set, get_set_other}
use Rattle.pg_heap.specs.declared.slot.Slot.{Slot}
use Rattle.pg_heap.specs.declared.slot.State.{State}
use Rattle.pg_heap.specs.declared.slot.State.TheVariants.{Settled}
use Rattle.pg_heap.specs.Rows.{is_written_by}
use Rattle.pg_heap.specs.Slots.{is_number_written_by, predecessor_of, row_of_version, slot_of, state_of}
use Rattle.pg_heap.specs.Written.{latest_by}
use Rattle.pg_heap.proofs.Latest.{latest_most, latest_within, latest_written, written_slot, written_within}
use Rattle.pg_rows.specs.Stores.{StandBehind, is_settled, is_version_of, last_number, passes}
use Rattle.pg_rows.specs.Kept.{AreChained, AreUnwound, is_left, stored_slot, stored_slots}
use Rattle.pg_rows.proofs.Numbers.{last_more, last_same}
use Rattle.pg_rows.proofs.Stored.{passes_at, stored_at}
use Rattle.pg_rows.proofs.Chains.{length_stored, no_version, version_slot}

-- what the transaction wrote behind `next` is left out, and it wrote that
pub record IsUnwinding (slots : List Slot) (xact : ℕ) (old newest : List (Option ℕ)) (next : Option ℕ) : Type 0 where
  pub unwound : AreUnwound slots xact (unwrap_or next 0) old newest
  pub written : IfSome next (λ n. is_number_written_by xact slots n ≡ true)

written_if : (xact : ℕ) (slots : List Slot) (count : ℕ) (next : Option ℕ) → next ≡ latest_by xact slots count →
    IfSome next (λ n. is_number_written_by xact slots n ≡ true)
written_if xact slots count None is = tt
written_if xact slots count (Some n) is = latest_written xact slots count n (sym is)

-- no version of the transaction stands behind the last of so many
none_above : (xact : ℕ) (slots : List Slot) (count : ℕ) (next : Option ℕ) (m : ℕ) → next ≡ latest_by xact slots count →
    m ≤ count → (is_number_written_by xact slots m && nat_lt (unwrap_or next 0) m) ≡ false
none_above xact slots count next m is le = at (is_number_written_by xact slots m) refl
  where
    at : (b : Bool) → is_number_written_by xact slots m ≡ b → (b && nat_lt (unwrap_or next 0) m) ≡ false
    at false there = refl
    at true there = le-ltb (unwrap_or next 0) m (rw is (latest_most xact slots m count there le))

-- among so many numbers none is left out
all_left : (xact : ℕ) (slots : List Slot) (count : ℕ) (next : Option ℕ) (row m : ℕ) → next ≡ latest_by xact slots count →
    m ≤ count → is_left slots xact (unwrap_or next 0) row m ≡ passes (is_version_of row) (stored_slots slots) m
all_left xact slots count next row m is le =
    rw (none_above xact slots count next m is le) (and-true (passes (is_version_of row) (stored_slots slots) m))

-- at first none is left out
pub unwinding_first : (slots : List Slot) (xact : ℕ) (newest : List (Option ℕ)) (next : Option ℕ) → AreChained slots newest →
    next ≡ latest_by xact slots (length slots) → IsUnwinding slots xact newest newest next
unwinding_first slots xact newest next chained is = record {
  unwound = record {
    count = refl;
    newest_of = λ row within.
        chained.newest_of row within
        ∙ ap Some
        (ap (last_number (passes (is_version_of (row + 1)) (stored_slots slots))) (length_stored slots)
        ∙ sym (last_same (is_left slots xact (unwrap_or next 0) (row + 1)) (passes (is_version_of (row + 1)) (stored_slots slots)) (length slots)
        (λ m first le. all_left xact slots (length slots) next (row + 1) m is le)));
  };
  written = written_if xact slots (length slots) next is;
}

module _ (slots : List Slot) (xact n : ℕ) (next : Option ℕ) (wrote : is_number_written_by xact slots n ≡ true)
    (is : next ≡ latest_by xact slots (n - 1)) where
  less : unwrap_or next 0 < n
  less =
      let most = latest_within xact slots (n - 1) in
      let within = (written_within xact slots n wrote).0 in rw is (omega (arith, most, within))

  -- a version is left out alike before and after, but the one between
  left_beside : (row m : ℕ) → m ≢ n → is_left slots xact (unwrap_or next 0) row m ≡ is_left slots xact n row m
  left_beside row m apart =
      ap (λ b. passes (is_version_of row) (stored_slots slots) m && not b) (at (cases_order m n))
    where
      right : (b : Bool) → m < n → is_number_written_by xact slots m ≡ b → (b && nat_lt n m) ≡ false
      right false lt there = refl
      right true lt there = le-ltb n m (omega (arith, lt))

      at : (m ≡ n) ⊎ ((m < n) ⊎ (n < m)) →
          (is_number_written_by xact slots m && nat_lt (unwrap_or next 0) m) ≡ (is_number_written_by xact slots m && nat_lt n m)
      at (inl e) = absurd (apart e)
      at (inr (inl lt)) =
          none_above xact slots (n - 1) next m is (omega (arith, lt)) ∙ sym (right (is_number_written_by xact slots m) lt refl)
      at (inr (inr gt)) =
          rw (lt-ltb n m gt, lt-ltb (unwrap_or next 0) m (let l = less in omega (arith, l, gt))) refl

  -- so nothing changes for a row of which the one between is no version
  left_same : (row : ℕ) → passes (is_version_of row) (stored_slots slots) n ≡ false →
      last_number (is_left slots xact (unwrap_or next 0) row) (length slots) ≡ last_number (is_left slots xact n row) (length slots)
  left_same row none =
      last_same (is_left slots xact (unwrap_or next 0) row) (is_left slots xact n row) (length slots)
      (λ m first le. at m (cases_eq m n))
    where
      at : (m : ℕ) → (m ≡ n) ⊎ (m ≡ n → ⊥) → is_left slots xact (unwrap_or next 0) row m ≡ is_left slots xact n row m
      at m (inl e) = rw (e, none) refl
      at m (inr apart) = left_beside row m apart

  -- and for its own row the version before it is the newest that is left
  left_before : (slot : Slot) → slot_of slots n ≡ Some slot → slot.state ≡ Settled → StandBehind xact (stored_slots slots) →
      last_number (is_left slots xact (unwrap_or next 0) slot.row) (length slots)
      ≡ last_number (passes (is_version_of slot.row) (stored_slots slots)) (n - 1)
  left_before slot there settled behind =
      last_more (is_left slots xact (unwrap_or next 0) slot.row) (n - 1) (length slots) (omega (arith, within))
      (λ m lt le. out m (omega (arith, lt)) (passes (is_version_of slot.row) (stored_slots slots) m) refl)
      ∙ last_same (is_left slots xact (unwrap_or next 0) slot.row) (passes (is_version_of slot.row) (stored_slots slots)) (n - 1)
      (λ m first le. all_left xact slots (n - 1) next slot.row m is le)
    where
      within : n ≤ length slots
      within = (written_within xact slots n wrote).1

      one_is : is_version_of slot.row (stored_slot slot) ≡ true
      one_is = rw (settled, eq-eqb slot.row slot.row refl) refl

      written_one : is_written_by xact slot.version ≡ true
      written_one = sym (ap (λ o. option_map_or (λ s. is_written_by xact s.version) o false) there) ∙ wrote

      own : (m : ℕ) → n ≤ m → passes (is_version_of slot.row) (stored_slots slots) m ≡ true → (b : Bool) →
          is_number_written_by xact slots m ≡ b → b ≡ true
      own m le passed true by = refl
      own m le passed false by =
          let found = version_slot slots slot.row m passed in
          let other : is_written_by xact found.0.version ≡ false =
          sym (ap (λ o. option_map_or (λ s. is_written_by xact s.version) o false) found.1.0) ∙ by in
          let lt = behind n m (stored_slot slot) (stored_slot found.0)
          (stored_at slots n ∙ ap (λ o. option_map stored_slot o) there)
          (stored_at slots m ∙ ap (λ o. option_map stored_slot o) found.1.0) one_is
          (rw (found.1.1.0, found.1.1.1, eq-eqb slot.row slot.row refl) refl) written_one other in
          absurd (omega (arith, lt, le))

      out : (m : ℕ) → n ≤ m → (b : Bool) → passes (is_version_of slot.row) (stored_slots slots) m ≡ b →
          (b && not (is_number_written_by xact slots m && nat_lt (unwrap_or next 0) m)) ≡ false
      out m le false passed = refl
      out m le true passed =
          rw (own m le passed (is_number_written_by xact slots m) refl, lt-ltb (unwrap_or next 0) m (let l = less in omega (arith, l, le))) refl

  -- where the version between is settled, the one before it is its row's newest
  pub unwinding_settled : (old newest : List (Option ℕ)) (slot : Slot) (before : Option ℕ) → AreChained slots old →
      StandBehind xact (stored_slots slots) → slot_of slots n ≡ Some slot → slot.state ≡ Settled → before ≡ slot.before →
      IsUnwinding slots xact old newest (Some n) →
      IsUnwinding slots xact old (slice_set newest (slot.row - 1) before) next
  unwinding_settled old newest slot before chained behind there settled link unwinding = record {
    unwound = record {
      count = length-set newest (slot.row - 1) before ∙ unwinding.unwound.count;
      newest_of = λ row within. newest_of row (rw (← length-set newest (slot.row - 1) before) within) (cases_eq row (slot.row - 1));
    };
    written = written_if xact slots (n - 1) next is;
  }
    where
      drawn : (0 < slot.row) × (slot.row ≤ length old)
      drawn = chained.drawn n slot there

      other_row : (row : ℕ) → (slot.row ≡ row → ⊥) → passes (is_version_of row) (stored_slots slots) n ≡ false
      other_row row apart =
          passes_at (is_version_of row) slots n slot there ∙ rw (ne_eqb slot.row row apart) (and-false (is_settled slot.state))

      newest_of : (row : ℕ) → row < length newest → (row ≡ slot.row - 1) ⊎ (row ≡ slot.row - 1 → ⊥) →
          slice_get (slice_set newest (slot.row - 1) before) row
          ≡ Some (last_number (is_left slots xact (unwrap_or next 0) (row + 1)) (length slots))
      newest_of row lt (inl e) =
          let first = drawn.0 in
          let same : slot.row - 1 + 1 ≡ slot.row = omega (arith, first) in
          let was = unwinding.unwound.newest_of row lt in
          rw (e, same)
          (get_set newest (slot.row - 1) (last_number (is_left slots xact n (slot.row - 1 + 1)) (length slots)) before
          (unwinding.unwound.newest_of (slot.row - 1) (rw (← e) lt))
          ∙ ap Some (link ∙ (chained.before n slot there settled ∙ sym (left_before slot there settled behind))))
      newest_of row lt (inr apart) =
          let first = drawn.0 in
          get_set_other newest (slot.row - 1) row before apart
          ∙ (unwinding.unwound.newest_of row lt
          ∙ ap Some (sym (left_same (row + 1) (other_row (row + 1) (λ e. apart (omega (arith, e, first)))))))

  -- and where it is not settled, nothing changes
  pub unwinding_unsettled : (old newest : List (Option ℕ)) (slot : Slot) → slot_of slots n ≡ Some slot → slot.state ≢ Settled →
      IsUnwinding slots xact old newest (Some n) → IsUnwinding slots xact old newest next
  unwinding_unsettled old newest slot there other unwinding = record {
    unwound = record {
      count = unwinding.unwound.count;
      newest_of = λ row within.
          unwinding.unwound.newest_of row within
          ∙ ap Some (sym (left_same (row + 1) (no_version slots (row + 1) n slot there other)));
    };
    written = written_if xact slots (n - 1) next is;
  }

-- the version that the loop looks at
module _ (slots : List Slot) (xact number : ℕ) (old newest : List (Option ℕ)) (here next : Option ℕ) (state : State)
    (at : here ≡ Some number) (unwinding : IsUnwinding slots xact old newest here)
    (earlier : (by : ℕ) → is_number_written_by by slots number ≡ true → next ≡ latest_by by slots (number - 1))
    (state_is : state_of slots number ≡ Some state) where
  abbrev unwinding_at : IsUnwinding slots xact old newest (Some number)
  unwinding_at = subst (λ o. IsUnwinding slots xact old newest o) at unwinding

  slot_at : (slot : Slot) × (slot_of slots number ≡ Some slot)
  slot_at = written_slot xact slots number unwinding_at.written

  state_at : slot_at.0.state ≡ state
  state_at = cc (state_is, ap (λ o. option_map (λ s. s.state) o) slot_at.1)

  pub unwound_settled : (row : ℕ) (before : Option ℕ) → AreChained slots old → StandBehind xact (stored_slots slots) →
      row_of_version slots number ≡ Some row → before ≡ predecessor_of slots number → state ≡ Settled →
      IsUnwinding slots xact old (slice_set newest (row - 1) before) next
  unwound_settled row before chained behind row_is link settled =
      let mine : slot_at.0.row ≡ row = cc (row_is, ap (λ o. option_map (λ s. s.row) o) slot_at.1) in
      rw (← mine)
      (unwinding_settled slots xact number next unwinding_at.written (earlier xact unwinding_at.written) old newest slot_at.0 before
      chained behind slot_at.1 (state_at ∙ settled) (link ∙ ap (λ o. option_and_then (λ s. s.before) o) slot_at.1) unwinding_at)

  pub unwound_unsettled : state ≢ Settled → IsUnwinding slots xact old newest next
  unwound_unsettled other =
      unwinding_unsettled slots xact number next unwinding_at.written (earlier xact unwinding_at.written) old newest slot_at.0
      slot_at.1 (λ e. other (sym state_at ∙ e)) unwinding_at

  pub unwound_less : unwrap_or next 0 < unwrap_or here 0
  unwound_less =
      let most = latest_within xact slots (number - 1) in
      let within = (written_within xact slots number unwinding_at.written).0 in
      rw (at, earlier xact unwinding_at.written) (omega (arith, most, within))

-- it was drawn
pub unwinding_within : (slots : List Slot) (xact number : ℕ) (old newest : List (Option ℕ)) (here : Option ℕ) → here ≡ Some number →
    IsUnwinding slots xact old newest here → number ≤ length slots
unwinding_within slots xact number old newest here at unwinding =
    (written_within xact slots number (subst (λ o. IsUnwinding slots xact old newest o) at unwinding).written).1
