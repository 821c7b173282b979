-- Which of its versions a row shows to a statement, and what a scan collects of them.
use Rattle.std.proofs.Common.{◌≡◌, ◌≢◌, ◌<◌, ◌≤◌, ◌+◌, ◌-◌, ◌++◌, ◌⊎◌, inl, inr, ◌&&◌, ℕ, zero, suc, Bool, true, false, cond, List, [], ◌∷◌, Option, Some, None, length, option_map, option_and_then, is_some, refl, ap, ap₂, sym, ◌∙◌, arith, eq-eqb, ne_eqb, le-leb}
use Rattle.std.specs.Prelude.{filter_map, max, min, nat_le}
use Rattle.std.specs.Option.{option_map_or}
use Rattle.std.proofs.lemmas.Bool.{and_parts, cases_lt, lt-leb}
use Rattle.std.proofs.lemmas.List.Elements.{filter_map-append}
use Rattle.pg_xacts.specs.declared.me.Me.{Me}
use Rattle.pg_xacts.specs.Transactions.{Transactions}
use Rattle.pg_heap.specs.declared.version.Version.{Version}
use Rattle.pg_heap.specs.declared.slot.Slot.{Slot}
use Rattle.pg_heap.specs.declared.slot.State.TheVariants.{Settled}
use Rattle.pg_heap.specs.Rows.{values_of}
use Rattle.pg_heap.specs.Slots.{predecessor_of, row_of_version, slot_of, successor_of, version_of as version_of_slot}
use Rattle.pg_heap.specs.Pieces.{piece_count, piece_from}
use Rattle.pg_rows.specs.declared.scan.SeenVersion.{SeenVersion}
use Rattle.pg_rows.specs.Stores.{Stored, is_settled, is_version_of, last_accepted, passes, seen_number, stored_of, version_of, with_values}
use Rattle.pg_rows.specs.Scans.{found_items, is_number, number_behind, numbers_from, seen_among, seen_at, seen_below, seen_in_piece, seen_stored}
use Rattle.pg_rows.specs.Kept.{AreChained, stored_slot, stored_slots}
use Rattle.pg_rows.proofs.Numbers.{last_after, last_passes}
use Rattle.pg_rows.proofs.Stored.{passes_at, stored_at}
use Rattle.pg_rows.proofs.Chains.{length_stored, settled_state, slot_within, version_slot}

-- a number is the last that is accepted only where it is accepted and no later one is
module _ (accepts : Version → Bool) (versions : List Stored) (row : ℕ) where
  abbrev accepted : ℕ → Bool
  accepted = passes (λ stored. is_version_of row stored && accepts stored.version) versions

  other_number : (number : ℕ) → ((k : ℕ) → last_accepted accepts versions row ≡ Some k → k ≢ number) →
      is_number (with_values versions (last_accepted accepts versions row)) number ≡ false
  other_number number apart = at (last_accepted accepts versions row) refl
    where
      some : (b : Bool) (k : ℕ) → k ≢ number → is_number (cond b (Some k) None) number ≡ false
      some true k other = ne_eqb k number other
      some false k other = refl

      at : (o : Option ℕ) → last_accepted accepts versions row ≡ o → is_number (with_values versions o) number ≡ false
      at None is = refl
      at (Some k) is = some (is_some (values_of (version_of versions k))) k (apart k is)

  pub not_accepted : (number : ℕ) (version : Version) → version_of versions number ≡ Some version → accepts version ≡ false →
      is_number (with_values versions (last_accepted accepts versions row)) number ≡ false
  not_accepted number version there other =
      other_number number
      (λ k is e.
      let passed : accepted number ≡ true = ap accepted (sym e) ∙ (last_passes accepted (length versions) k is).0 in
      cc (other, accepted_at (stored_of versions number) there passed))
    where
      accepted_at : (o : Option Stored) → option_map (λ stored. stored.version) o ≡ Some version →
          option_map_or (λ stored. is_version_of row stored && accepts stored.version) o false ≡ true → accepts version ≡ true
      accepted_at None there passed = absurd (cc there)
      accepted_at (Some stored) there passed =
          let same : stored.version ≡ version = cc there in
          ap accepts (sym same) ∙ (and_parts (is_version_of row stored) (accepts stored.version) passed).1

  pub not_last : (number later : ℕ) → number < later → later ≤ length versions → accepted later ≡ true →
      is_number (with_values versions (last_accepted accepts versions row)) number ≡ false
  not_last number later lt le passed =
      other_number number
      (λ k is e. cc (passed, last_after accepted (length versions) k later is (omega (arith, e, lt)) le))

-- the version after another stands behind it in its row
pub record IsNext (slots : List Slot) (number next : ℕ) (slot : Slot) : Type 0 where
  pub found : Slot
  pub is : slot_of slots next ≡ Some found
  pub settled : found.state ≡ Settled
  pub row : found.row ≡ slot.row
  pub later : number < next

pub next_version : (slots : List Slot) (newest : List (Option ℕ)) (number next : ℕ) (slot : Slot) → AreChained slots newest →
    slot_of slots number ≡ Some slot → successor_of slots number ≡ Some next → IsNext slots number next slot
next_version slots newest number next slot chained there link = at (slot_of slots next) refl back
  where
    back : predecessor_of slots next ≡ Some number
    back = chained.linked.back number next link

    from : (found : Slot) → slot_of slots next ≡ Some found → found.before ≡ Some number → (b : Bool) → is_settled found.state ≡ b → IsNext slots number next slot
    from found is before false unsettled = absurd (cc (before, (chained.loose next found is (λ e. cc (unsettled, ap is_settled e))).0))
    from found is before true settled =
        let stands = settled_state found.state settled in
        let passed = last_passes (passes (is_version_of found.row) (stored_slots slots)) (next - 1) number (sym (chained.before next found is stands) ∙ before) in
        let mine = version_slot slots found.row number passed.0 in
        let same : mine.0 ≡ slot = cc (mine.1.0, there) in
        let le = passed.1.1 in
        let first = passed.1.0 in
        record {
          found = found;
          is = is;
          settled = stands;
          row = sym mine.1.1.1 ∙ ap (λ s. s.row) same;
          later = omega (arith, le, first);
        }

    at : (o : Option Slot) → slot_of slots next ≡ o → option_and_then (λ s. s.before) o ≡ Some number → IsNext slots number next slot
    at None is before = absurd (cc before)
    at (Some found) is before = from found is before (is_settled found.state) refl

-- the slot of a version of which the row is shown
pub shown_slot : (slots : List Slot) (versions : List Stored) (number row : ℕ) → stored_slots slots ≡ versions →
    option_map (λ stored. stored.row) (stored_of versions number) ≡ Some row →
    (slot : Slot) × ((slot_of slots number ≡ Some slot) × (slot.row ≡ row))
shown_slot slots versions number row same is =
    at (slot_of slots number) refl
    (sym (ap (λ o. option_map (λ stored. stored.row) o) (stored_at slots number)) ∙ (ap (λ v. option_map (λ stored. stored.row) (stored_of v number)) same ∙ is))
  where
    at : (o : Option Slot) → slot_of slots number ≡ o → option_map (λ stored. stored.row) (option_map stored_slot o) ≡ Some row →
        (slot : Slot) × ((slot_of slots number ≡ Some slot) × (slot.row ≡ row))
    at None there is = absurd (cc is)
    at (Some slot) there is = (slot, (there, cc is))

-- the version that the heap lends is the one that is shown
pub shown_version : (slots : List Slot) (versions : List Stored) (number : ℕ) (version : Version) → stored_slots slots ≡ versions →
    version_of_slot slots number ≡ Some version → version_of versions number ≡ Some version
shown_version slots versions number version same is =
    rw (← same) (ap (λ o. option_map (λ s. s.version) o) (stored_at slots number) ∙ at (slot_of slots number) is)
  where
    at : (o : Option Slot) → option_map (λ s. s.version) o ≡ Some version → option_map (λ s. s.version) (option_map stored_slot o) ≡ Some version
    at None is = absurd (cc is)
    at (Some slot) is = is

-- a row does not show a version behind which it has one that is accepted
pub not_newest : (accepts : Version → Bool) (slots : List Slot) (newest : List (Option ℕ)) (versions : List Stored) (number next row : ℕ) (version : Version) →
    AreChained slots newest → stored_slots slots ≡ versions → option_map (λ stored. stored.row) (stored_of versions number) ≡ Some row →
    successor_of slots number ≡ Some next → version_of_slot slots next ≡ Some version → accepts version ≡ true →
    is_number (with_values versions (last_accepted accepts versions row)) number ≡ false
not_newest accepts slots newest versions number next row version chained same row_is link there accepted =
    let slot = shown_slot slots versions number row same row_is in
    let is = next_version slots newest number next slot.0 chained slot.1.0 link in
    let within = (slot_within slots next is.found is.is).1 in
    let its : is.found.version ≡ version = cc (there, ap (λ o. option_map (λ s. s.version) o) is.is) in
    rw (← same)
    (not_last accepts (stored_slots slots) row number next is.later (omega (arith, within, length_stored slots))
    (passes_at (λ stored. is_version_of row stored && accepts stored.version) slots next is.found is.is
    ∙ rw (is.settled, is.row, slot.1.1, eq-eqb row row refl, its) accepted))

-- and the version after another was drawn
pub next_within : (slots : List Slot) (newest : List (Option ℕ)) (versions : List Stored) (number next row : ℕ) → AreChained slots newest →
    stored_slots slots ≡ versions → option_map (λ stored. stored.row) (stored_of versions number) ≡ Some row →
    successor_of slots number ≡ Some next → (0 < next) × (next ≤ length slots)
next_within slots newest versions number next row chained same row_is link =
    let slot = shown_slot slots versions number row same row_is in
    let is = next_version slots newest number next slot.0 chained slot.1.0 link in
    slot_within slots next is.found is.is

-- its row was drawn
pub row_within : (slots : List Slot) (newest : List (Option ℕ)) (versions : List Stored) (number row : ℕ) → AreChained slots newest →
    stored_slots slots ≡ versions → option_map (λ stored. stored.row) (stored_of versions number) ≡ Some row →
    (0 < row) × (row ≤ length newest)
row_within slots newest versions number row chained same row_is =
    let slot = shown_slot slots versions number row same row_is in
    rw (← slot.1.1) (chained.drawn number slot.0 slot.1.0)

-- what a scan finds at a number
module _ (transactions : Transactions) (commits : ℕ) (me : Me) (versions : List Stored) (number row : ℕ)
    (row_is : option_map (λ stored. stored.row) (stored_of versions number) ≡ Some row) where
  pub nothing_seen : is_number (seen_number transactions commits me versions row) number ≡ false → seen_at transactions commits me versions number ≡ None
  nothing_seen none = at (stored_of versions number) row_is
    where
      at : (o : Option Stored) → option_map (λ stored. stored.row) o ≡ Some row →
          option_and_then (seen_stored transactions commits me versions number) o ≡ None
      at None is = refl
      at (Some stored) is = let e : stored.row ≡ row = cc is in rw (e, none) refl

  pub something_seen : (version : Version) → version_of versions number ≡ Some version → is_number (seen_number transactions commits me versions row) number ≡ true →
      seen_at transactions commits me versions number ≡ Some (record { row = row; number = number; version = version })
  something_seen version there passed = at (stored_of versions number) row_is there
    where
      at : (o : Option Stored) → option_map (λ stored. stored.row) o ≡ Some row → option_map (λ stored. stored.version) o ≡ Some version →
          option_and_then (seen_stored transactions commits me versions number) o ≡ Some (record { row = row; number = number; version = version })
      at None is there = absurd (cc is)
      at (Some stored) is there =
          let e : stored.row ≡ row = cc is in
          let f : stored.version ≡ version = cc there in rw (e, f, passed) refl

-- the numbers end with the last
pub numbers_behind : (first count : ℕ) → numbers_from first (suc count) ≡ numbers_from first count ++ (first + count) ∷ []
numbers_behind first zero = let e : first + zero ≡ first = omega arith in rw e refl
numbers_behind first (suc count) =
    let e : first + 1 + count ≡ first + suc count = omega arith in
    ap (λ numbers. first ∷ numbers) (numbers_behind (first + 1) count ∙ ap (λ n. numbers_from (first + 1) count ++ n ∷ []) e)

-- one number more
pub among_more : (transactions : Transactions) (commits : ℕ) (me : Me) (versions : List Stored) (first count : ℕ) →
    seen_among transactions commits me versions first (suc count)
    ≡ seen_among transactions commits me versions first count ++ filter_map (seen_at transactions commits me versions) ((first + count) ∷ [])
among_more transactions commits me versions first count =
    ap (λ numbers. filter_map (seen_at transactions commits me versions) numbers) (numbers_behind first count)
    ∙ filter_map-append (seen_at transactions commits me versions) (numbers_from first count) ((first + count) ∷ [])

pub scan_more : (transactions : Transactions) (commits : ℕ) (me : Me) (versions : List Stored) (first count number : ℕ) (seen more : List SeenVersion) (found : Option SeenVersion) →
    seen ≡ seen_among transactions commits me versions first count → number ≡ first + count → found ≡ seen_at transactions commits me versions number →
    more ≡ seen ++ found_items found → more ≡ seen_among transactions commits me versions first (count + 1)
scan_more transactions commits me versions first count number seen more found is place there grown =
    let one : suc count ≡ count + 1 = omega arith in
    grown
    ∙ (ap₂ (λ xs ys. xs ++ ys) is (ap found_items (there ∙ ap (seen_at transactions commits me versions) place))
    ∙ (sym (among_more transactions commits me versions first count)
    ∙ ap (λ n. seen_among transactions commits me versions first n) one))

-- the row that the heap tells is the one that is shown
pub shown_row : (slots : List Slot) (versions : List Stored) (number row : ℕ) → stored_slots slots ≡ versions →
    row_of_version slots number ≡ Some row → option_map (λ stored. stored.row) (stored_of versions number) ≡ Some row
shown_row slots versions number row same is =
    rw (← same) (ap (λ o. option_map (λ s. s.row) o) (stored_at slots number) ∙ at (slot_of slots number) is)
  where
    at : (o : Option Slot) → option_map (λ s. s.row) o ≡ Some row → option_map (λ s. s.row) (option_map stored_slot o) ≡ Some row
    at None is = absurd (cc is)
    at (Some slot) is = is

-- a number of a piece, which was drawn
pub number_drawn : (first offset from sum last count number : ℕ) → number ≡ min sum last → sum ≡ min (first + from) 18446744073709551615 →
    from ≡ offset → last ≡ count → last < 18446744073709551616 → first + offset ≤ count → number ≡ first + offset
number_drawn first offset from sum last count number is sum_is from_is last_is fits within =
    let small : first + offset ≤ 18446744073709551615 = omega (arith, last_is, fits, within) in
    let sum_at : sum ≡ first + offset = sum_is ∙ (ap (λ n. min (first + n) 18446744073709551615) from_is ∙ min_left small) in
    let most : first + offset ≤ last = omega (arith, last_is, within) in
    is ∙ (ap (λ n. min n last) sum_at ∙ min_left most)
  where
    min_left : {a b : ℕ} → a ≤ b → min a b ≡ a
    min_left le = omega (arith, le)

-- the numbers of two stretches
numbers_both : (first count more : ℕ) → numbers_from first (count + more) ≡ numbers_from first count ++ numbers_from (first + count) more
numbers_both first zero more =
    let e : first + zero ≡ first = omega arith in
    let f : zero + more ≡ more = omega arith in rw (e, f) refl
numbers_both first (suc count) more =
    let e : first + 1 + count ≡ first + suc count = omega arith in
    let f : suc count + more ≡ suc (count + more) = omega arith in
    rw f (ap (λ numbers. first ∷ numbers) (numbers_both (first + 1) count more ∙ ap (λ n. numbers_from (first + 1) count ++ numbers_from n more) e))

-- what is seen among them
pub among_both : (transactions : Transactions) (commits : ℕ) (me : Me) (versions : List Stored) (first count more : ℕ) →
    seen_among transactions commits me versions first (count + more)
    ≡ seen_among transactions commits me versions first count ++ seen_among transactions commits me versions (first + count) more
among_both transactions commits me versions first count more =
    ap (λ numbers. filter_map (seen_at transactions commits me versions) numbers) (numbers_both first count more)
    ∙ filter_map-append (seen_at transactions commits me versions) (numbers_from first count) (numbers_from (first + count) more)

-- a piece and the number behind it
piece_ends : (versions : List Stored) (from : ℕ) → 0 < from → from ≤ length versions + 1 →
    number_behind versions (piece_from (length versions) from).next - 1 ≡ from - 1 + piece_count (length versions) from
piece_ends versions from first within =
    rw most (at (cases_lt (length versions) (from + piece_count (length versions) from)))
  where
    most : max 1 from ≡ from
    most = omega (arith, first)

    bound : piece_count (length versions) from ≤ length versions + 1 - from
    bound = omega arith

    at : (length versions < from + piece_count (length versions) from) ⊎ (from + piece_count (length versions) from ≤ length versions) →
        number_behind versions (cond (nat_le (from + piece_count (length versions) from) (length versions)) (Some (from + piece_count (length versions) from)) None) - 1
        ≡ from - 1 + piece_count (length versions) from
    at (inr le) = rw (le-leb (from + piece_count (length versions) from) (length versions) le) (omega (arith, first))
    at (inl lt) =
        let b = bound in
        rw (lt-leb (from + piece_count (length versions) from) (length versions) lt) (omega (arith, first, within, lt, b))

pub piece_follows : (transactions : Transactions) (commits : ℕ) (me : Me) (versions : List Stored) (from : ℕ) → 0 < from → from ≤ length versions + 1 →
    seen_below transactions commits me versions from ++ seen_in_piece transactions commits me versions from
    ≡ seen_below transactions commits me versions (number_behind versions (piece_from (length versions) from).next)
piece_follows transactions commits me versions from first within =
    let most : max 1 from ≡ from = omega (arith, first) in
    let begins : 1 + (from - 1) ≡ from = omega (arith, first) in
    ap (λ n. seen_below transactions commits me versions from ++ seen_among transactions commits me versions n (piece_count (length versions) n)) most
    ∙ (ap (λ n. seen_below transactions commits me versions from ++ seen_among transactions commits me versions n (piece_count (length versions) from)) (sym begins)
    ∙ (sym (among_both transactions commits me versions 1 (from - 1) (piece_count (length versions) from))
    ∙ ap (λ n. seen_among transactions commits me versions 1 n) (sym (piece_ends versions from first within))))
