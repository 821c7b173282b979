-- Reading a row from its newest version back.
use Rattle.std.proofs.Common.{◌≡◌, ◌<◌, ◌≤◌, ◌-◌, ◌&&◌, ℕ, zero, suc, Bool, true, false, cond, List, Option, Some, None, IfSome, length, option_map, option_and_then, unwrap_or, refl, ap, subst₂, sym, ◌∙◌, arith}
use Rattle.std.specs.Option.{option_map_or}
use Rattle.std.proofs.lemmas.Bool.{and_left}
use Rattle.pg_heap.specs.declared.version.Version.{Version}
use Rattle.pg_heap.specs.declared.slot.Slot.{Slot}
use Rattle.pg_heap.specs.Slots.{predecessor_of, version_of as version_of_slot}
use Rattle.pg_rows.specs.Stores.{Stored, is_version_of, last_accepted, last_number, newest_number, passes, stored_of}
use Rattle.pg_rows.specs.Kept.{AreChained, stored_slots}
use Rattle.pg_rows.proofs.Numbers.{last_passes}
use Rattle.pg_rows.proofs.Stored.{passes_at}
use Rattle.pg_rows.proofs.Chains.{slot_within, version_slot}

-- where each number that passes one test passes another, the last of the one is looked for from the last of the other
gap : (p q : ℕ → Bool) → ((m : ℕ) → p m ≡ false → q m ≡ false) → (count : ℕ) (next : Option ℕ) → last_number p count ≡ next →
    last_number q count ≡ last_number q (unwrap_or next 0)
gap p q less zero next is = rw (← is) refl
gap p q less (suc before) next is = at (λ e. gap p q less before next e) (p (suc before)) refl is
  where
    at : (last_number p before ≡ next → last_number q before ≡ last_number q (unwrap_or next 0)) → (b : Bool) → p (suc before) ≡ b →
        cond b (Some (suc before)) (last_number p before) ≡ next →
        last_number q (suc before) ≡ last_number q (unwrap_or next 0)
    at behind true passed is = rw (← is) refl
    at behind false passed is = rw (less (suc before) passed) (behind is)

-- the test of the versions of a row that are accepted
abbrev accepted : (Version → Bool) → List Stored → ℕ → ℕ → Bool
accepted accepts versions row number = passes (λ stored. is_version_of row stored && accepts stored.version) versions number

fewer : (accepts : Version → Bool) (versions : List Stored) (row m : ℕ) → passes (is_version_of row) versions m ≡ false →
    accepted accepts versions row m ≡ false
fewer accepts versions row m none = at (stored_of versions m) none
  where
    at : (o : Option Stored) → option_map_or (is_version_of row) o false ≡ false →
        option_map_or (λ stored. is_version_of row stored && accepts stored.version) o false ≡ false
    at None none = refl
    at (Some stored) none = and_left (is_version_of row stored) (accepts stored.version) none

-- what was read so far: no later version than `next` is accepted, which is one of the row
pub record IsReading (accepts : Version → Bool) (versions : List Stored) (row : ℕ) (next : Option ℕ) : Type 0 where
  pub found : last_accepted accepts versions row ≡ last_number (accepted accepts versions row) (unwrap_or next 0)
  pub mine : IfSome next (λ number. passes (is_version_of row) versions number ≡ true)

mine_of : (versions : List Stored) (row count : ℕ) (next : Option ℕ) → next ≡ last_number (passes (is_version_of row) versions) count →
    IfSome next (λ number. passes (is_version_of row) versions number ≡ true)
mine_of versions row count None is = tt
mine_of versions row count (Some n) is = (last_passes (passes (is_version_of row) versions) count n (sym is)).0

pub reading_first : (accepts : Version → Bool) (versions : List Stored) (row : ℕ) (next : Option ℕ) →
    next ≡ newest_number versions row → IsReading accepts versions row next
reading_first accepts versions row next is = record {
  found = gap (passes (is_version_of row) versions) (accepted accepts versions row) (fewer accepts versions row) (length versions) next (sym is);
  mine = mine_of versions row (length versions) next is;
}

-- the version that the heap lends
pub version_there : (accepts : Version → Bool) (slots : List Slot) (row number : ℕ) (version : Version) →
    passes (is_version_of row) (stored_slots slots) number ≡ true → version_of_slot slots number ≡ Some version →
    accepted accepts (stored_slots slots) row number ≡ accepts version
version_there accepts slots row number version mine is =
    let found = version_slot slots row number mine in
    let same : found.0.version ≡ version = cc (is, ap (λ o. option_map (λ s. s.version) o) found.1.0) in
    passes_at (λ stored. is_version_of row stored && accepts stored.version) slots number found.0 found.1.0
    ∙ (ap (λ b. b && accepts found.0.version) (sym (passes_at (is_version_of row) slots number found.0 found.1.0) ∙ mine)
    ∙ ap accepts same)

pub reading_found : (accepts : Version → Bool) (slots : List Slot) (row number : ℕ) (version : Version) →
    IsReading accepts (stored_slots slots) row (Some number) → version_of_slot slots number ≡ Some version → accepts version ≡ true →
    last_accepted accepts (stored_slots slots) row ≡ Some number
reading_found accepts slots row number version reading is yes_it =
    reading.found ∙ at number (version_there accepts slots row number version reading.mine is ∙ yes_it)
  where
    at : (number : ℕ) → accepted accepts (stored_slots slots) row number ≡ true →
        last_number (accepted accepts (stored_slots slots) row) number ≡ Some number
    at zero passed = absurd (cc passed)
    at (suc before) passed = rw passed refl

-- the link of a version of a row leads to the one before it
pub before_is : (slots : List Slot) (newest : List (Option ℕ)) (row number : ℕ) → AreChained slots newest →
    passes (is_version_of row) (stored_slots slots) number ≡ true →
    predecessor_of slots number ≡ last_number (passes (is_version_of row) (stored_slots slots)) (number - 1)
before_is slots newest row number chained mine =
    let found = version_slot slots row number mine in
    ap (λ o. option_and_then (λ s. s.before) o) found.1.0
    ∙ (chained.before number found.0 found.1.0 found.1.1.0
    ∙ ap (λ r. last_number (passes (is_version_of r) (stored_slots slots)) (number - 1)) found.1.1.1)

-- the version before it, where it is not accepted
pub reading_more : (accepts : Version → Bool) (slots : List Slot) (newest : List (Option ℕ)) (row number : ℕ) (version : Version) (next : Option ℕ) →
    AreChained slots newest → IsReading accepts (stored_slots slots) row (Some number) → version_of_slot slots number ≡ Some version →
    accepts version ≡ false → next ≡ predecessor_of slots number → IsReading accepts (stored_slots slots) row next
reading_more accepts slots newest row number version next chained reading is other next_is = record {
  found = reading.found ∙ (step number (version_there accepts slots row number version reading.mine is ∙ other)
      ∙ gap (passes (is_version_of row) (stored_slots slots)) (accepted accepts (stored_slots slots) row) (fewer accepts (stored_slots slots) row) (number - 1) next (sym next_last));
  mine = mine_of (stored_slots slots) row (number - 1) next next_last;
}
  where
    next_last : next ≡ last_number (passes (is_version_of row) (stored_slots slots)) (number - 1)
    next_last = next_is ∙ before_is slots newest row number chained reading.mine

    step : (number : ℕ) → accepted accepts (stored_slots slots) row number ≡ false →
        last_number (accepted accepts (stored_slots slots) row) number ≡ last_number (accepted accepts (stored_slots slots) row) (number - 1)
    step zero passed = refl
    step (suc before) passed =
        let e : suc before - 1 ≡ before = omega arith in rw (passed, e) refl

pub reading_none : (accepts : Version → Bool) (versions : List Stored) (row : ℕ) → IsReading accepts versions row None →
    last_accepted accepts versions row ≡ None
reading_none accepts versions row reading = reading.found

-- so the numbers fall
pub reading_less : (slots : List Slot) (newest : List (Option ℕ)) (row number : ℕ) (next : Option ℕ) → AreChained slots newest →
    passes (is_version_of row) (stored_slots slots) number ≡ true → next ≡ predecessor_of slots number → unwrap_or next 0 < number
reading_less slots newest row number next chained mine next_is =
    at next (next_is ∙ before_is slots newest row number chained mine)
  where
    first : 0 < number
    first = at number mine
      where
        at : (n : ℕ) → passes (is_version_of row) (stored_slots slots) n ≡ true → 0 < n
        at zero mine = absurd (cc mine)
        at (suc n) mine = omega arith

    at : (next : Option ℕ) → next ≡ last_number (passes (is_version_of row) (stored_slots slots)) (number - 1) → unwrap_or next 0 < number
    at None is = first
    at (Some n) is =
        let h = last_passes (passes (is_version_of row) (stored_slots slots)) (number - 1) n (sym is) in
        let le = h.1.1 in let f = first in omega (arith, le, f)

-- a version of a row was drawn
pub reading_within : (slots : List Slot) (row number : ℕ) → passes (is_version_of row) (stored_slots slots) number ≡ true →
    (0 < number) × (number ≤ length slots)
reading_within slots row number mine =
    let found = version_slot slots row number mine in slot_within slots number found.0 found.1.0

-- where the loop stands
pub reading_here : (accepts : Version → Bool) (slots : List Slot) (versions : List Stored) (row : ℕ) (next : Option ℕ) (number : ℕ) →
    stored_slots slots ≡ versions → next ≡ Some number → IsReading accepts versions row next →
    IsReading accepts (stored_slots slots) row (Some number)
reading_here accepts slots versions row next number same is reading =
    subst₂ (λ v n. IsReading accepts v row n) (sym same) is reading

-- the last version that is accepted was drawn
pub accepted_within : (accepts : Version → Bool) (versions : List Stored) (row : ℕ) (next : Option ℕ) →
    next ≡ last_accepted accepts versions row → IfSome next (λ number. (0 < number) × (number ≤ length versions))
accepted_within accepts versions row None is = tt
accepted_within accepts versions row (Some number) is =
    (last_passes (accepted accepts versions row) (length versions) number (sym is)).1
