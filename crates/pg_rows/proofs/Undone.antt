-- A transaction was rolled back in a store: all that it wrote is dead, and the chains are whole without it.
use Rattle.std.proofs.Common.{◌≡◌, ◌≢◌, ◌<◌, ◌+◌, ◌-◌, ◌&&◌, ℕ, zero, suc, Bool, true, false, cond, List, Option, Some, None, IfSome, length, map, not, nat_eq, nat_lt, option_map, slice_get, refl, ap, sym, ◌∙◌, arith, eq-eqb, lt-ltb}
use Rattle.std.proofs.Math.Bool.{and-false, and-true}
use Rattle.std.specs.Option.{option_map_or}
use Rattle.std.proofs.lemmas.Option.{slice_get-map}
use Rattle.pg_heap.specs.declared.slot.Slot.{Slot}
use Rattle.pg_heap.specs.declared.slot.State.{State}
use Rattle.pg_heap.specs.declared.slot.State.TheVariants.{Placed, Settled, Dead}
use Rattle.pg_heap.specs.Rows.{is_written_by}
use Rattle.pg_heap.specs.Slots.{dead_slot, is_number_written_by, link_outside, slot_of, slot_without, versions_undone}
use Rattle.pg_heap.proofs.Lists.{same_items}
use Rattle.pg_heap.proofs.Undone.{length_without, linked_without, slot_of_without}
use Rattle.pg_rows.specs.Stores.{StandBehind, is_settled, is_version_of, last_number, passes, stored_of, undone_state, undone_version}
use Rattle.pg_rows.specs.Kept.{AreChained, AreUnwound, is_left, stored_slot, stored_slots}
use Rattle.pg_rows.proofs.Numbers.{last_passes, last_same}
use Rattle.pg_rows.proofs.Stored.{stored_at}
use Rattle.pg_rows.proofs.Chains.{length_stored, version_slot}

-- the version of a number once a transaction was rolled back
module _ (slots : List Slot) (xact : ℕ) where
  abbrev left : List Slot
  left = versions_undone slots xact

  undone_slot : (b : Bool) (slot : Slot) → stored_slot (cond b (dead_slot slot) (record slot { before = link_outside (is_number_written_by xact slots) slot.before; after = link_outside (is_number_written_by xact slots) slot.after }))
      ≡ record (stored_slot slot) { state = undone_state b slot.state }
  undone_slot true slot = refl
  undone_slot false slot = refl

  stored_left : (m : ℕ) (o : Option Slot) → slot_of slots m ≡ o →
      option_map stored_slot (option_map (slot_without (is_number_written_by xact slots) m) o)
      ≡ option_map (undone_version xact) (option_map stored_slot o)
  stored_left m None there = refl
  stored_left m (Some slot) there =
      let by : is_number_written_by xact slots m ≡ is_written_by xact slot.version =
      ap (λ o. option_map_or (λ s. is_written_by xact s.version) o false) there in
      ap Some
      (undone_slot (is_number_written_by xact slots m) slot
      ∙ ap (λ b. record (stored_slot slot) { state = undone_state b slot.state }) by)

  -- what is shown of the heap then
  pub stored_undone : stored_slots left ≡ map (undone_version xact) (stored_slots slots)
  stored_undone = same_items _ _ (λ i. at i)
    where
      at : (i : ℕ) → slice_get (stored_slots left) i ≡ slice_get (map (undone_version xact) (stored_slots slots)) i
      at i =
          stored_at left (suc i)
          ∙ (ap (λ o. option_map stored_slot o) (slot_of_without (is_number_written_by xact slots) slots (suc i))
          ∙ (stored_left (suc i) (slot_of slots (suc i)) refl
          ∙ (ap (λ o. option_map (undone_version xact) o) (sym (stored_at slots (suc i)))
          ∙ sym (slice_get-map (undone_version xact) (stored_slots slots) i))))

  passes_slot : (row m : ℕ) (o : Option Slot) → slot_of slots m ≡ o →
      option_map_or (is_version_of row) (option_map (undone_version xact) (option_map stored_slot o)) false
      ≡ (option_map_or (is_version_of row) (option_map stored_slot o) false && not (is_number_written_by xact slots m && nat_lt 0 m))
  passes_slot row m None there = refl
  passes_slot row zero (Some slot) there = absurd (cc there)
  passes_slot row (suc before) (Some slot) there =
      let by : is_number_written_by xact slots (suc before) ≡ is_written_by xact slot.version =
      ap (λ o. option_map_or (λ s. is_written_by xact s.version) o false) there in
      rw (by, lt-ltb 0 (suc before) (omega arith)) (at (is_written_by xact slot.version) slot.state)
    where
      at : (b : Bool) (state : State) →
          (is_settled (undone_state b state) && nat_eq slot.row row) ≡ ((is_settled state && nat_eq slot.row row) && not (b && true))
      at true state = sym (and-false (is_settled state && nat_eq slot.row row))
      at false state = sym (and-true (is_settled state && nat_eq slot.row row))

  -- a version of a row is left where the transaction did not write it
  passes_left : (row m : ℕ) → passes (is_version_of row) (stored_slots left) m ≡ is_left slots xact 0 row m
  passes_left row m =
      ap (λ versions. passes (is_version_of row) versions m) stored_undone
      ∙ (ap (λ o. option_map_or (is_version_of row) o false) (at m)
      ∙ (passes_slot row m (slot_of slots m) refl
      ∙ ap (λ o. option_map_or (is_version_of row) o false && not (is_number_written_by xact slots m && nat_lt 0 m)) (sym (stored_at slots m))))
    where
      at : (m : ℕ) → stored_of (map (undone_version xact) (stored_slots slots)) m ≡ option_map (undone_version xact) (option_map stored_slot (slot_of slots m))
      at zero = refl
      at (suc before) =
          slice_get-map (undone_version xact) (stored_slots slots) before
          ∙ ap (λ o. option_map (undone_version xact) o) (stored_at slots (suc before))

  -- a version that stands in the heap then
  pub record IsLeft (m : ℕ) (found old : Slot) : Type 0 where
    pub was : slot_of slots m ≡ Some old
    pub row : found.row ≡ old.row
    pub dead : is_number_written_by xact slots m ≡ true → (found.state ≡ Dead) × ((found.before ≡ None) × (found.after ≡ None))
    pub kept : is_number_written_by xact slots m ≡ false → found.state ≡ old.state
    pub before : is_number_written_by xact slots m ≡ false → found.before ≡ link_outside (is_number_written_by xact slots) old.before
    pub after : is_number_written_by xact slots m ≡ false → found.after ≡ link_outside (is_number_written_by xact slots) old.after

  left_at : (m : ℕ) (found : Slot) → slot_of left m ≡ Some found → (old : Slot) × IsLeft m found old
  left_at m found there =
      at (slot_of slots m) refl (sym (slot_of_without (is_number_written_by xact slots) slots m) ∙ there)
    where
      from : (old : Slot) → slot_of slots m ≡ Some old → slot_without (is_number_written_by xact slots) m old ≡ found → IsLeft m found old
      from old was is = record {
        was = was;
        row = ap (λ s. s.row) (sym is) ∙ row_of (is_number_written_by xact slots m);
        dead = λ by. let e : found ≡ dead_slot old = sym is ∙ rw by refl in (ap (λ s. s.state) e, (ap (λ s. s.before) e, ap (λ s. s.after) e));
        kept = λ by. ap (λ s. s.state) (sym is) ∙ rw by refl;
        before = λ by. ap (λ s. s.before) (sym is) ∙ rw by refl;
        after = λ by. ap (λ s. s.after) (sym is) ∙ rw by refl;
      }
        where
          row_of : (b : Bool) → (cond b (dead_slot old) (record old { before = link_outside (is_number_written_by xact slots) old.before; after = link_outside (is_number_written_by xact slots) old.after })).row ≡ old.row
          row_of true = refl
          row_of false = refl

      at : (o : Option Slot) → slot_of slots m ≡ o → option_map (slot_without (is_number_written_by xact slots) m) o ≡ Some found →
          (old : Slot) × IsLeft m found old
      at None was is = absurd (cc is)
      at (Some old) was is = (old, from old was (cc is))

  -- a link that leads to no version of the transaction stays
  link_kept : (link : Option ℕ) → IfSome link (λ n. is_number_written_by xact slots n ≡ false) →
      link_outside (is_number_written_by xact slots) link ≡ link
  link_kept None none = refl
  link_kept (Some n) none = rw none refl

  -- the chains are whole then
  pub chained_undone : (old newest : List (Option ℕ)) → AreChained slots old → StandBehind xact (stored_slots slots) →
      AreUnwound slots xact 0 old newest → AreChained left newest
  chained_undone old newest chained behind unwound = record {
    linked = linked_without (is_number_written_by xact slots) slots chained.linked;
    newest_of = λ row within.
        unwound.newest_of row within
        ∙ ap Some
        (sym (last_same (passes (is_version_of (row + 1)) (stored_slots left)) (is_left slots xact 0 (row + 1)) (length slots) (λ m first le. passes_left (row + 1) m))
        ∙ ap (last_number (passes (is_version_of (row + 1)) (stored_slots left))) (sym (length_stored left ∙ length_without (is_number_written_by xact slots) 1 slots)));
    drawn = λ m found there.
        let is = left_at m found there in
        let d = chained.drawn m is.0 is.1.was in rw (is.1.row, unwound.count) d;
    before = λ m found there settled. let is = left_at m found there in before_at m found is.0 is.1 settled (is_number_written_by xact slots m) refl;
    loose = λ m found there other. let is = left_at m found there in loose_at m found is.0 is.1 other (is_number_written_by xact slots m) refl;
    behind = λ draft other one more there waits after same lt.
        let is = left_at draft one there in
        let later = left_at other more after in
        behind_at draft other one more is.0 later.0 is.1 later.1 waits same lt (is_number_written_by xact slots draft) (is_number_written_by xact slots other) refl refl;
  }
    where
      before_at : (m : ℕ) (found old : Slot) → IsLeft m found old → found.state ≡ Settled → (b : Bool) → is_number_written_by xact slots m ≡ b →
          found.before ≡ last_number (passes (is_version_of found.row) (stored_slots left)) (m - 1)
      before_at m found old is settled true by = absurd (cc (settled, (is.dead by).0))
      before_at m found old is settled false by =
          let was : old.state ≡ Settled = sym (is.kept by) ∙ settled in
          let link = chained.before m old is.was was in
          rw is.row
          (is.before by
          ∙ (link_kept old.before (outside old.before link)
          ∙ (link
          ∙ sym (last_same (passes (is_version_of old.row) (stored_slots left)) (passes (is_version_of old.row) (stored_slots slots)) (m - 1)
          (λ k first le. passes_left old.row k ∙ same k (omega (arith, le, first)) (passes (is_version_of old.row) (stored_slots slots) k) refl)))))
        where
          was : old.state ≡ Settled
          was = sym (is.kept by) ∙ settled

          -- a version before it is not the transaction's
          not_own : (k : ℕ) → k < m → passes (is_version_of old.row) (stored_slots slots) k ≡ true → (b : Bool) →
              is_number_written_by xact slots k ≡ b → b ≡ false
          not_own k lt passed false mine = refl
          not_own k lt passed true mine =
              let found_k = version_slot slots old.row k passed in
              let own : is_written_by xact found_k.0.version ≡ true =
              sym (ap (λ o. option_map_or (λ s. is_written_by xact s.version) o false) found_k.1.0) ∙ mine in
              let other : is_written_by xact old.version ≡ false =
              sym (ap (λ o. option_map_or (λ s. is_written_by xact s.version) o false) is.was) ∙ by in
              let after = behind k m (stored_slot found_k.0) (stored_slot old)
              (stored_at slots k ∙ ap (λ o. option_map stored_slot o) found_k.1.0)
              (stored_at slots m ∙ ap (λ o. option_map stored_slot o) is.was)
              (rw (found_k.1.1.0, eq-eqb found_k.0.row found_k.0.row refl) refl)
              (rw (was, found_k.1.1.1, eq-eqb old.row old.row refl) refl) own other in
              absurd (omega (arith, after, lt))

          same : (k : ℕ) → k < m → (b : Bool) → passes (is_version_of old.row) (stored_slots slots) k ≡ b →
              (b && not (is_number_written_by xact slots k && nat_lt 0 k)) ≡ b
          same k lt false passed = refl
          same k lt true passed = rw (not_own k lt passed (is_number_written_by xact slots k) refl) refl

          outside : (link : Option ℕ) → link ≡ last_number (passes (is_version_of old.row) (stored_slots slots)) (m - 1) →
              IfSome link (λ n. is_number_written_by xact slots n ≡ false)
          outside None from = tt
          outside (Some n) from =
              let last = last_passes (passes (is_version_of old.row) (stored_slots slots)) (m - 1) n (sym from) in
              let first = last.1.0 in
              let le = last.1.1 in
              not_own n (omega (arith, first, le)) last.0 (is_number_written_by xact slots n) refl

      loose_at : (m : ℕ) (found old : Slot) → IsLeft m found old → found.state ≢ Settled → (b : Bool) → is_number_written_by xact slots m ≡ b →
          (found.before ≡ None) × (found.after ≡ None)
      loose_at m found old is other true by = (is.dead by).1
      loose_at m found old is other false by =
          let loose = chained.loose m old is.was (λ s. other (is.kept by ∙ s)) in
          (is.before by ∙ ap (link_outside (is_number_written_by xact slots)) loose.0, is.after by ∙ ap (link_outside (is_number_written_by xact slots)) loose.1)

      behind_at : (draft other : ℕ) (one more old later : Slot) → IsLeft draft one old → IsLeft other more later → one.state ≡ Placed →
          more.row ≡ one.row → draft < other → (b c : Bool) → is_number_written_by xact slots draft ≡ b → is_number_written_by xact slots other ≡ c →
          more.state ≡ Dead
      behind_at draft other one more old later is after waits same lt true c by also = absurd (cc (waits, (is.dead by).0))
      behind_at draft other one more old later is after waits same lt false true by also = (after.dead also).0
      behind_at draft other one more old later is after waits same lt false false by also =
          after.kept also
          ∙ chained.behind draft other old later is.was (sym (is.kept by) ∙ waits) after.was
          (sym after.row ∙ (same ∙ is.row)) lt
