-- A draft becomes the newest version of its row.
use Rattle.std.proofs.Common.{◌≡◌, ◌≢◌, ◌<◌, ◌≤◌, ◌+◌, ◌-◌, ◌⊎◌, inl, inr, ℕ, Bool, true, false, cond, List, Option, Some, None, IfSome, length, nat_eq, option_map, option_and_then, get_or, slice_get, slice_set, refl, ap, sym, ◌∙◌, arith, length-set, eq-eqb, ne_eqb}
use Rattle.std.specs.Option.{option_map_or}
use Rattle.std.proofs.lemmas.Bool.{cases_eq}
use Rattle.std.proofs.lemmas.Option.{get_or_from_slice_get}
use Rattle.pg_xacts.proofs.Lists.{get_set, get_set_other, length_changed_from_one}
use Rattle.pg_heap.proofs.Lists.{changed_here, changed_other}
use Rattle.pg_heap.proofs.Slots.{linked_linked, linked_state, set_after, set_before, set_state}
use Rattle.pg_heap.specs.declared.slot.Slot.{Slot}
use Rattle.pg_heap.specs.declared.slot.State.TheVariants.{Placed, Settled, Dead}
use Rattle.pg_heap.specs.Slots.{AreLinked, CanLink, is_living, is_living_state, predecessor_of, row_of_version, slot_of, successor_of, versions_linked, with_successor}
use Rattle.pg_rows.specs.Stores.{is_settled, is_version_of, last_number, newest_number, passes, state_of, stored_of}
use Rattle.pg_rows.specs.Kept.{AreChained, attached_slots, stored_slot, stored_slots}
use Rattle.pg_rows.proofs.Numbers.{last_after, last_is as last_of, last_more, last_passes, last_same}
use Rattle.pg_rows.proofs.Stored.{in_state, passes_at, stored_at, stored_attached}
use Rattle.pg_rows.proofs.Chains.{change_at, draft_slot, length_stored, no_version, placed_unsettled, settled_state, slot_within, version_slot}

-- a version of the heap before a draft was attached, and behind it
pub record IsFrom (last : Option ℕ) (number m : ℕ) (old found : Slot) : Type 0 where
  pub row : found.row ≡ old.row
  pub here : m ≡ number → (found.state ≡ Settled) × (found.before ≡ last)
  pub there : (m ≡ number → ⊥) → (found.state ≡ old.state) × (found.before ≡ old.before)
  pub after : (m ≡ number → ⊥) → last ≢ Some m → found.after ≡ old.after

attached_at : (slots : List Slot) (last : Option ℕ) (number : ℕ) (slot : Slot) → slot_of slots number ≡ Some slot →
    slot.before ≡ None → (m : ℕ) (found : Slot) → slot_of (attached_slots slots last number) m ≡ Some found →
    (old : Slot) × ((slot_of slots m ≡ Some old) × IsFrom last number m old found)
attached_at slots None number slot is loose m found there =
    let old = change_at (set_state Settled) slots number m found there in
    (old.0, (old.1.0, from old.0 old.1.0 old.1.1 (cases_eq m number)))
  where
    from : (old : Slot) → slot_of slots m ≡ Some old → found ≡ cond (nat_eq m number) (set_state Settled old) old →
        (m ≡ number) ⊎ (m ≡ number → ⊥) → IsFrom None number m old found
    from old was same (inl e) =
        let f : found ≡ set_state Settled old = same ∙ rw (eq-eqb m number e) refl in
        let s : old ≡ slot = cc (was, e, is) in
        record {
          row = ap (λ x. x.row) f;
          here = λ _. (ap (λ x. x.state) f, ap (λ x. x.before) f ∙ (ap (λ x. x.before) s ∙ loose));
          there = λ apart. absurd (apart e);
          after = λ apart other. absurd (apart e);
        }
    from old was same (inr apart) =
        let f : found ≡ old = same ∙ rw (ne_eqb m number apart) refl in
        record {
          row = ap (λ x. x.row) f;
          here = λ e. absurd (apart e);
          there = λ _. (ap (λ x. x.state) f, ap (λ x. x.before) f);
          after = λ _ other. ap (λ x. x.after) f;
        }
attached_at slots (Some last) number slot is loose m found there =
    let first = change_at (set_state Settled) (versions_linked slots last number) number m found there in
    let second = change_at (set_before (Some last)) (with_successor slots last (Some number)) number m first.0 first.1.0 in
    let third = change_at (set_after (Some number)) slots last m second.0 second.1.0 in
    (third.0, (third.1.0, from third.0 second.0 first.0 third.1.1 second.1.1 first.1.1 (cases_eq m number) (cases_eq m last)))
  where
    kept : (old one : Slot) (b : Bool) → one ≡ cond b (set_after (Some number) old) old →
        (one.row ≡ old.row) × ((one.state ≡ old.state) × (one.before ≡ old.before))
    kept old one true is = (ap (λ x. x.row) is, (ap (λ x. x.state) is, ap (λ x. x.before) is))
    kept old one false is = (ap (λ x. x.row) is, (ap (λ x. x.state) is, ap (λ x. x.before) is))

    from : (old one two : Slot) → one ≡ cond (nat_eq m last) (set_after (Some number) old) old →
        two ≡ cond (nat_eq m number) (set_before (Some last) one) one →
        found ≡ cond (nat_eq m number) (set_state Settled two) two →
        (m ≡ number) ⊎ (m ≡ number → ⊥) → (m ≡ last) ⊎ (m ≡ last → ⊥) → IsFrom (Some last) number m old found
    from old one two a b c (inl e) place =
        let c1 : found ≡ set_state Settled two = c ∙ rw (eq-eqb m number e) refl in
        let b1 : two ≡ set_before (Some last) one = b ∙ rw (eq-eqb m number e) refl in
        let k = kept old one (nat_eq m last) a in
        record {
          row = ap (λ x. x.row) c1 ∙ (ap (λ x. x.row) b1 ∙ k.0);
          here = λ _. (ap (λ x. x.state) c1, ap (λ x. x.before) c1 ∙ ap (λ x. x.before) b1);
          there = λ apart. absurd (apart e);
          after = λ apart other. absurd (apart e);
        }
    from old one two a b c (inr apart) place =
        let c1 : found ≡ two = c ∙ rw (ne_eqb m number apart) refl in
        let b1 : two ≡ one = b ∙ rw (ne_eqb m number apart) refl in
        let k = kept old one (nat_eq m last) a in
        record {
          row = ap (λ x. x.row) c1 ∙ (ap (λ x. x.row) b1 ∙ k.0);
          here = λ e. absurd (apart e);
          there = λ _. (ap (λ x. x.state) c1 ∙ (ap (λ x. x.state) b1 ∙ k.1.0), ap (λ x. x.before) c1 ∙ (ap (λ x. x.before) b1 ∙ k.1.1));
          after = λ _ other. ap (λ x. x.after) c1 ∙ (ap (λ x. x.after) b1 ∙ after_of place other);
        }
      where
        after_of : (m ≡ last) ⊎ (m ≡ last → ⊥) → Some last ≢ Some m → one.after ≡ old.after
        after_of (inl e) other = absurd (other (ap Some (sym e)))
        after_of (inr away) other =
            let same : one ≡ old = a ∙ rw (ne_eqb m last away) refl in ap (λ x. x.after) same

-- what stands behind a draft in its row is dead, so it is no version
none_behind : (slots : List Slot) (newest : List (Option ℕ)) (number : ℕ) (slot : Slot) → AreChained slots newest →
    slot_of slots number ≡ Some slot → slot.state ≡ Placed → (m : ℕ) → number < m →
    passes (is_version_of slot.row) (stored_slots slots) m ≡ false
none_behind slots newest number slot chained is placed m lt = at (passes (is_version_of slot.row) (stored_slots slots) m) refl
  where
    at : (b : Bool) → passes (is_version_of slot.row) (stored_slots slots) m ≡ b → b ≡ false
    at false passed = refl
    at true passed =
        let found = version_slot slots slot.row m passed in
        let dead = chained.behind number m slot found.0 is placed found.1.0 found.1.1.1 lt in
        absurd (cc (dead, found.1.1.0))

-- the newest version of a draft's row may be linked to the draft
pub can_attach : (slots : List Slot) (newest : List (Option ℕ)) (number : ℕ) (slot : Slot) (last : ℕ) → AreChained slots newest →
    slot_of slots number ≡ Some slot → slot.state ≡ Placed → newest_number (stored_slots slots) slot.row ≡ Some last →
    CanLink slots last number
can_attach slots newest number slot last chained is placed last_is = record {
  living_first = living last found.0 found.1.0 (rw found.1.1.0 refl);
  living_second = living number slot is (rw placed refl);
  last = at (successor_of slots last) refl;
  unlinked_before = ap (λ o. option_and_then (λ s. s.before) o) is ∙ (chained.loose number slot is (placed_unsettled slot.state placed)).0;
  unlinked_after = ap (λ o. option_and_then (λ s. s.after) o) is ∙ (chained.loose number slot is (placed_unsettled slot.state placed)).1;
}
  where
    passed : (passes (is_version_of slot.row) (stored_slots slots) last ≡ true) × ((0 < last) × (last ≤ length (stored_slots slots)))
    passed = last_passes (passes (is_version_of slot.row) (stored_slots slots)) (length (stored_slots slots)) last last_is

    found : (found : Slot) × ((slot_of slots last ≡ Some found) × ((found.state ≡ Settled) × (found.row ≡ slot.row)))
    found = version_slot slots slot.row last passed.0

    living : (m : ℕ) (one : Slot) → slot_of slots m ≡ Some one → is_living_state one.state ≡ true → is_living slots m ≡ true
    living m one there lives =
        ap (λ o. option_map_or is_living_state (option_map (λ s. s.state) o) false) there ∙ lives

    next_slot : (k : ℕ) → predecessor_of slots k ≡ Some last → (next : Slot) × ((slot_of slots k ≡ Some next) × (next.before ≡ Some last))
    next_slot k back = look (slot_of slots k) refl back
      where
        look : (o : Option Slot) → slot_of slots k ≡ o → option_and_then (λ s. s.before) o ≡ Some last →
            (next : Slot) × ((slot_of slots k ≡ Some next) × (next.before ≡ Some last))
        look None there back = absurd (cc back)
        look (Some next) there back = (next, (there, back))

    none_after : (k : ℕ) (next : Slot) → slot_of slots k ≡ Some next → next.before ≡ Some last → (b : Bool) → is_settled next.state ≡ b → ⊥
    none_after k next there back false unsettled_is =
        cc (back, (chained.loose k next there (λ e. cc (unsettled_is, ap is_settled e))).0)
    none_after k next there back true settled_is =
        let settled = settled_state next.state settled_is in
        let before = sym (chained.before k next there settled) ∙ back in
        let passes_last = last_passes (passes (is_version_of next.row) (stored_slots slots)) (k - 1) last before in
        let mine = version_slot slots next.row last passes_last.0 in
        let same_slot : mine.0 ≡ found.0 = cc (mine.1.0, found.1.0) in
        let row : next.row ≡ slot.row = sym mine.1.1.1 ∙ (ap (λ s. s.row) same_slot ∙ found.1.1.1) in
        let within = slot_within slots k next there in
        let le = passes_last.1.1 in
        let less : last < k = omega (arith, le, within.0) in
        let le_k = within.1 in
        let none = last_after (passes (is_version_of slot.row) (stored_slots slots)) (length (stored_slots slots)) last k last_is less (omega (arith, le_k, length_stored slots)) in
        let is_one : passes (is_version_of slot.row) (stored_slots slots) k ≡ true =
        passes_at (is_version_of slot.row) slots k next there ∙ rw (settled, row, eq-eqb slot.row slot.row refl) refl in
        cc (none, is_one)

    at : (o : Option ℕ) → successor_of slots last ≡ o → o ≡ None
    at None next = refl
    at (Some k) next =
        let back = next_slot k (chained.linked.back last k next) in
        absurd (none_after k back.0 back.1.0 back.1.1 (is_settled back.0.state) refl)

-- a draft becomes the newest version of its row
pub chained_attached : (slots : List Slot) (newest : List (Option ℕ)) (number : ℕ) (slot : Slot) (last : Option ℕ) →
    AreChained slots newest → slot_of slots number ≡ Some slot → slot.state ≡ Placed →
    last ≡ newest_number (stored_slots slots) slot.row →
    AreChained (attached_slots slots last number) (slice_set newest (slot.row - 1) (Some number))
chained_attached slots newest number slot last chained is placed last_is = record {
  linked = linked last refl;
  newest_of = λ row within. newest_of row (rw (← length-set newest (slot.row - 1) (Some number)) within) (cases_eq row (slot.row - 1));
  drawn = λ m found there.
      let old = from m found there in
      let d = chained.drawn m old.0 old.1.0 in
      rw (old.1.1.row, length-set newest (slot.row - 1) (Some number)) d;
  before = λ m found there settled.
      let old = from m found there in before_at m found old.0 old.1.0 settled old.1.1 (cases_eq m number);
  loose = λ m found there other.
      let old = from m found there in loose_at m found old.0 old.1.0 other old.1.1 (cases_eq m number);
  behind = λ draft other one more there waits after same lt.
      let old = from draft one there in
      let later = from other more after in
      behind_at draft other one more old.0 later.0 old.1.0 later.1.0 waits same lt old.1.1 later.1.1 (cases_eq draft number) (cases_eq other number);
}
  where
    new : List Slot
    new = attached_slots slots last number

    no_before : slot.before ≡ None
    no_before = (chained.loose number slot is (placed_unsettled slot.state placed)).0

    from : (m : ℕ) (found : Slot) → slot_of new m ≡ Some found → (old : Slot) × ((slot_of slots m ≡ Some old) × IsFrom last number m old found)
    from m found there = attached_at slots last number slot is no_before m found there

    linked : (o : Option ℕ) → last ≡ o → AreLinked (attached_slots slots o number)
    linked None is_none = linked_state slots number Settled chained.linked
    linked (Some l) is_some =
        let can = can_attach slots newest number slot l chained is placed (sym last_is ∙ is_some) in
        linked_state (versions_linked slots l number) number Settled (linked_linked slots l number can chained.linked)

    stored_here : stored_of (stored_slots new) number ≡ Some (stored_slot (set_state Settled slot))
    stored_here =
        ap (λ versions. stored_of versions number) (stored_attached slots last number)
        ∙ (changed_here (in_state Settled) (stored_slots slots) number
        ∙ ap (λ o. option_map (in_state Settled) o) (stored_at slots number ∙ ap (λ o. option_map stored_slot o) is))

    passes_here : (row : ℕ) → passes (is_version_of row) (stored_slots new) number ≡ nat_eq slot.row row
    passes_here row = ap (λ o. option_map_or (is_version_of row) o false) stored_here

    passes_there : (row m : ℕ) → (m ≡ number → ⊥) →
        passes (is_version_of row) (stored_slots new) m ≡ passes (is_version_of row) (stored_slots slots) m
    passes_there row m apart =
        ap (λ o. option_map_or (is_version_of row) o false)
        (ap (λ versions. stored_of versions m) (stored_attached slots last number)
        ∙ changed_other (in_state Settled) (stored_slots slots) number m apart)

    passes_other_row : (row m : ℕ) → (slot.row ≡ row → ⊥) →
        passes (is_version_of row) (stored_slots new) m ≡ passes (is_version_of row) (stored_slots slots) m
    passes_other_row row m apart = at (cases_eq m number)
      where
        at : (m ≡ number) ⊎ (m ≡ number → ⊥) →
            passes (is_version_of row) (stored_slots new) m ≡ passes (is_version_of row) (stored_slots slots) m
        at (inl e) =
            rw e (passes_here row ∙ (ne_eqb slot.row row apart ∙ sym (no_version slots row number slot is (placed_unsettled slot.state placed))))
        at (inr away) = passes_there row m away

    length_same : length (stored_slots new) ≡ length (stored_slots slots)
    length_same =
        ap length (stored_attached slots last number) ∙ length_changed_from_one (in_state Settled) (stored_slots slots) number

    within : (0 < number) × (number ≤ length (stored_slots slots))
    within = let w = slot_within slots number slot is in let le = w.1 in (w.0, omega (arith, le, length_stored slots))

    newest_here : newest_number (stored_slots new) slot.row ≡ Some number
    newest_here =
        rw length_same
        (last_of (passes (is_version_of slot.row) (stored_slots new)) (length (stored_slots slots)) number
        (passes_here slot.row ∙ eq-eqb slot.row slot.row refl) within.0 within.1
        (λ m lt le. passes_there slot.row m (λ e. omega (arith, e, lt)) ∙ none_behind slots newest number slot chained is placed m lt))

    newest_there : (row : ℕ) → (slot.row ≡ row → ⊥) → newest_number (stored_slots new) row ≡ newest_number (stored_slots slots) row
    newest_there row apart =
        rw length_same
        (last_same (passes (is_version_of row) (stored_slots new)) (passes (is_version_of row) (stored_slots slots)) (length (stored_slots slots))
        (λ m first le. passes_other_row row m apart))

    newest_of : (row : ℕ) → row < length newest → (row ≡ slot.row - 1) ⊎ (row ≡ slot.row - 1 → ⊥) →
        slice_get (slice_set newest (slot.row - 1) (Some number)) row ≡ Some (newest_number (stored_slots new) (row + 1))
    newest_of row lt (inl e) =
        let d = chained.drawn number slot is in
        let first = d.0 in
        let same : slot.row - 1 + 1 ≡ slot.row = omega (arith, first) in
        rw (e, same, newest_here)
        (get_set newest (slot.row - 1) (newest_number (stored_slots slots) (slot.row - 1 + 1)) (Some number)
        (chained.newest_of (slot.row - 1) (omega (arith, lt, e))))
    newest_of row lt (inr apart) =
        let d = chained.drawn number slot is in
        let first = d.0 in
        get_set_other newest (slot.row - 1) row (Some number) apart
        ∙ (chained.newest_of row lt ∙ ap Some (sym (newest_there (row + 1) (λ e. apart (omega (arith, e, first))))))

    before_at : (m : ℕ) (found old : Slot) → slot_of slots m ≡ Some old → found.state ≡ Settled → IsFrom last number m old found →
        (m ≡ number) ⊎ (m ≡ number → ⊥) →
        found.before ≡ last_number (passes (is_version_of found.row) (stored_slots new)) (m - 1)
    before_at m found old was settled step (inl e) =
        let same : old ≡ slot = cc (was, e, is) in
        let row : found.row ≡ slot.row = step.row ∙ ap (λ s. s.row) same in
        rw (row, e)
        ((step.here e).1 ∙ (last_is
        ∙ (last_more (passes (is_version_of slot.row) (stored_slots slots)) (number - 1) (length (stored_slots slots))
        (let le = within.1 in omega (arith, le))
        (λ k lt le. none_from k lt (cases_eq k number))
        ∙ sym (last_same (passes (is_version_of slot.row) (stored_slots new)) (passes (is_version_of slot.row) (stored_slots slots)) (number - 1)
        (λ k first le. passes_there slot.row k (λ f. let w = within.0 in omega (arith, f, le, w)))))))
      where
        none_from : (k : ℕ) → number - 1 < k → (k ≡ number) ⊎ (k ≡ number → ⊥) → passes (is_version_of slot.row) (stored_slots slots) k ≡ false
        none_from k lt (inl f) = rw f (no_version slots slot.row number slot is (placed_unsettled slot.state placed))
        none_from k lt (inr away) = none_behind slots newest number slot chained is placed k (omega (arith, lt, away))
    before_at m found old was settled step (inr apart) =
        let kept = step.there apart in
        let settled_old : old.state ≡ Settled = sym kept.0 ∙ settled in
        rw step.row
        (kept.1 ∙ (chained.before m old was settled_old
        ∙ sym (last_same (passes (is_version_of old.row) (stored_slots new)) (passes (is_version_of old.row) (stored_slots slots)) (m - 1)
        (λ k first le. same_at k le (cases_eq k number)))))
      where
        settled_row : found.state ≡ Settled → old.row ≡ slot.row → number < m → ⊥
        settled_row now row lt =
            let dead = chained.behind number m slot old is placed was row lt in
            cc (now, (step.there apart).0, dead)

        same_at : (k : ℕ) → k ≤ m - 1 → (k ≡ number) ⊎ (k ≡ number → ⊥) →
            passes (is_version_of old.row) (stored_slots new) k ≡ passes (is_version_of old.row) (stored_slots slots) k
        same_at k le (inl e) =
            passes_other_row old.row k
            (λ row. settled_row settled (sym row) (let w = slot_within slots m old was in let f = w.0 in omega (arith, e, le, f)))
        same_at k le (inr away) = passes_there old.row k away

    loose_at : (m : ℕ) (found old : Slot) → slot_of slots m ≡ Some old → found.state ≢ Settled → IsFrom last number m old found →
        (m ≡ number) ⊎ (m ≡ number → ⊥) → (found.before ≡ None) × (found.after ≡ None)
    loose_at m found old was other step (inl e) = absurd (other (step.here e).0)
    loose_at m found old was other step (inr apart) =
        let kept = step.there apart in
        let unsettled_old : old.state ≢ Settled = λ s. other (kept.0 ∙ s) in
        let loose = chained.loose m old was unsettled_old in
        (kept.1 ∙ loose.0, step.after apart (λ l. not_last l unsettled_old) ∙ loose.1)
      where
        not_last : last ≡ Some m → old.state ≢ Settled → ⊥
        not_last l unsettled_old =
            let passed = last_passes (passes (is_version_of slot.row) (stored_slots slots)) (length (stored_slots slots)) m (sym last_is ∙ l) in
            let there = version_slot slots slot.row m passed.0 in
            let same : old ≡ there.0 = cc (was, there.1.0) in
            unsettled_old (ap (λ s. s.state) same ∙ there.1.1.0)

    behind_at : (draft other : ℕ) (one more old later : Slot) → slot_of slots draft ≡ Some old → slot_of slots other ≡ Some later →
        one.state ≡ Placed → more.row ≡ one.row → draft < other → IsFrom last number draft old one → IsFrom last number other later more →
        (draft ≡ number) ⊎ (draft ≡ number → ⊥) → (other ≡ number) ⊎ (other ≡ number → ⊥) → more.state ≡ Dead
    behind_at draft other one more old later was after waits same lt first second (inl e) place =
        absurd (cc (waits, (first.here e).0))
    behind_at draft other one more old later was after waits same lt first second (inr apart) (inl f) =
        let kept = first.there apart in
        let mine : later ≡ slot = cc (after, f, is) in
        let row : later.row ≡ old.row = sym second.row ∙ (same ∙ first.row) in
        let dead = chained.behind draft other old later was (sym kept.0 ∙ waits) after row lt in
        absurd (cc (dead, ap (λ s. s.state) mine, placed))
    behind_at draft other one more old later was after waits same lt first second (inr apart) (inr away) =
        let kept = first.there apart in
        let row : later.row ≡ old.row = sym second.row ∙ (same ∙ first.row) in
        (second.there away).0 ∙ chained.behind draft other old later was (sym kept.0 ∙ waits) after row lt

-- the newest version that is kept for a row
pub last_known : (slots : List Slot) (newest : List (Option ℕ)) (number : ℕ) (slot : Slot) (last : Option ℕ) →
    AreChained slots newest → slot_of slots number ≡ Some slot → last ≡ get_or newest (slot.row - 1) last →
    last ≡ newest_number (stored_slots slots) slot.row
last_known slots newest number slot last chained is read =
    let d = chained.drawn number slot is in
    let first = d.0 in
    let le = d.1 in
    let same : slot.row - 1 + 1 ≡ slot.row = omega (arith, first) in
    let kept = chained.newest_of (slot.row - 1) (omega (arith, first, le)) in
    read
    ∙ (get_or_from_slice_get newest (slot.row - 1) (newest_number (stored_slots slots) (slot.row - 1 + 1)) last kept
    ∙ ap (newest_number (stored_slots slots)) same)

-- the newest version of a draft's row, if there is one, may be linked to the draft
pub may_attach : (slots : List Slot) (newest : List (Option ℕ)) (number : ℕ) (slot : Slot) (last : Option ℕ) → AreChained slots newest →
    slot_of slots number ≡ Some slot → slot.state ≡ Placed → last ≡ newest_number (stored_slots slots) slot.row →
    IfSome last (λ newest. CanLink slots newest number)
may_attach slots newest number slot None chained is placed last_is = tt
may_attach slots newest number slot (Some last) chained is placed last_is =
    can_attach slots newest number slot last chained is placed (sym last_is)

-- what is known of a draft that is attached: its slot, and the newest version of its row
pub record IsDraftAt (slots : List Slot) (newest : List (Option ℕ)) (number row : ℕ) (last : Option ℕ) : Type 0 where
  pub slot : Slot
  pub is : slot_of slots number ≡ Some slot
  pub placed : slot.state ≡ Placed
  pub row_is : slot.row ≡ row
  pub last_is : last ≡ newest_number (stored_slots slots) slot.row

pub draft_at : (slots : List Slot) (newest : List (Option ℕ)) (number row : ℕ) (last : Option ℕ) → AreChained slots newest →
    state_of (stored_slots slots) number ≡ Some Placed → row_of_version slots number ≡ Some row →
    last ≡ get_or newest (row - 1) last → IsDraftAt slots newest number row last
draft_at slots newest number row last chained placed row_of read = record {
  slot = draft.0;
  is = draft.1.0;
  placed = draft.1.1;
  row_is = row_is;
  last_is = last_known slots newest number draft.0 last chained draft.1.0 (rw row_is read);
}
  where
    draft : (slot : Slot) × ((slot_of slots number ≡ Some slot) × (slot.state ≡ Placed))
    draft = draft_slot slots number placed

    row_is : draft.0.row ≡ row
    row_is = cc (row_of, ap (λ o. option_map (λ s. s.row) o) draft.1.0)
