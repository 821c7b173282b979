-- Rows that a stable sort by row number leaves stand in order of row number.
use Rattle.std.proofs.Common.{◌≡◌, ◌<◌, ◌≤◌, ◌+◌, ◌++◌, ◌⊎◌, inl, inr, ◌&&◌, ℕ, zero, suc, not, cond, List, [], ◌∷◌, None, length, get_or, nat_eq, refl, ap, ap₂, sym, ◌∙◌, arith, eq-eqb, ne_eqb, subst}
use Rattle.std.specs.Prelude.{flat_map}
use Rattle.std.specs.List.{AllByRecursion}
use Rattle.std.specs.List.Sorted.{IsNonDecreasingBy, IsPermutation, IsStableByKey, ties}
use Rattle.std.specs.Ordering.{is_lt, nat_cmp}
use Rattle.std.proofs.lemmas.Bool.{cases_eq}
use Rattle.std.proofs.lemmas.List.Elements.{filter_agree, recursion_from_All}
use Rattle.std.proofs.lemmas.List.Sorted.{All-permutation}
use Rattle.pg_rows.specs.Scans.{numbers_from}
use Rattle.pg_world.specs.declared.candidate.SeenRow.{SeenRow}
use Rattle.pg_table.specs.Scanned.{in_row_order, of_row}
use Rattle.pg_scans.specs.Readings.{AreDrawn}

-- row numbers that do not fall, from one on
abbrev IsRisingFrom : ℕ → List SeenRow → Type 0
IsRisingFrom low [] = Unit {0}
IsRisingFrom low (seen ∷ rows) = (low ≤ seen.row) × IsRisingFrom seen.row rows

-- row numbers below one
abbrev AreBelow : ℕ → List SeenRow → Type 0
AreBelow limit rows = AllByRecursion (λ seen. seen.row < limit) rows

weaker : (low other : ℕ) (rows : List SeenRow) → other ≤ low → IsRisingFrom low rows → IsRisingFrom other rows
weaker low other [] le rising = tt
weaker low other (seen ∷ rows) le rising = let h = rising.0 in (omega (arith, le, h), rising.1)

-- rows behind a number are not of it
none_of : (row low : ℕ) (rows : List SeenRow) → row < low → IsRisingFrom low rows → of_row row rows ≡ []
none_of row low [] lt rising = refl
none_of row low (seen ∷ rows) lt rising =
    let h = rising.0 in
    ap (λ b. cond b (seen ∷ of_row row rows) (of_row row rows)) (ne_eqb seen.row row (λ e. omega (arith, e, h, lt)))
    ∙ none_of row seen.row rows (omega (arith, h, lt)) rising.1

-- a row in front is not one of greater numbers
behind_it : (seen : SeenRow) (rows : List SeenRow) (low count : ℕ) → seen.row < low →
    flat_map (λ row. of_row row (seen ∷ rows)) (numbers_from low count) ≡ flat_map (λ row. of_row row rows) (numbers_from low count)
behind_it seen rows low zero lt = refl
behind_it seen rows low (suc count) lt =
    ap₂ (λ xs ys. xs ++ ys)
    (ap (λ b. cond b (seen ∷ of_row low rows) (of_row low rows)) (ne_eqb seen.row low (λ e. omega (arith, e, lt))))
    (behind_it seen rows (low + 1) count (omega (arith, lt)))

none_at_all : (low count : ℕ) → flat_map (λ row. of_row row []) (numbers_from low count) ≡ []
none_at_all low zero = refl
none_at_all low (suc count) = none_at_all (low + 1) count

-- one number in turn, and then the others
module _ (first count : ℕ) (others : (rows : List SeenRow) → IsRisingFrom (first + 1) rows → AreBelow (first + 1 + count) rows →
    flat_map (λ row. of_row row rows) (numbers_from (first + 1) count) ≡ rows) where
  one_more : (seen : SeenRow) (rows : List SeenRow) → (seen.row ≡ first) ⊎ (seen.row ≡ first → ⊥) →
      IsRisingFrom first (seen ∷ rows) → AreBelow (first + suc count) (seen ∷ rows) →
      flat_map (λ row. of_row row rows) (numbers_from first (suc count)) ≡ rows →
      flat_map (λ row. of_row row (seen ∷ rows)) (numbers_from first (suc count)) ≡ seen ∷ rows
  one_more seen rows (inl e) rising below behind =
      ap₂ (λ xs ys. xs ++ ys)
      (ap (λ b. cond b (seen ∷ of_row first rows) (of_row first rows)) (eq-eqb seen.row first e))
      (behind_it seen rows (first + 1) count (omega (arith, e)))
      ∙ ap (λ xs. seen ∷ xs) behind
  one_more seen rows (inr apart) rising below behind =
      let h = rising.0 in
      let sum : first + suc count ≡ first + 1 + count = omega arith in
      ap₂ (λ xs ys. xs ++ ys)
      (none_of first seen.row (seen ∷ rows) (omega (arith, h, apart)) (omega arith, rising.1))
      (others (seen ∷ rows) (omega (arith, h, apart), rising.1) (subst (λ n. AreBelow n (seen ∷ rows)) sum below))

  in_front : (rows : List SeenRow) → IsRisingFrom first rows → AreBelow (first + suc count) rows →
      flat_map (λ row. of_row row rows) (numbers_from first (suc count)) ≡ rows
  in_front [] rising below = none_at_all (first + 1) count
  in_front (seen ∷ rows) rising below =
      one_more seen rows (cases_eq seen.row first) rising below
      (in_front rows (weaker seen.row first rows rising.0 rising.1) below.1)

-- rows that rise are those of each number in turn
in_turn : (count first : ℕ) (rows : List SeenRow) → IsRisingFrom first rows → AreBelow (first + count) rows →
    flat_map (λ row. of_row row rows) (numbers_from first count) ≡ rows
in_turn zero first [] rising below = refl
in_turn zero first (seen ∷ rows) rising below =
    let h = rising.0 in let k = below.0 in absurd (omega (arith, h, k))
in_turn (suc count) first rows rising below =
    in_front first count (λ others up under. in_turn count (first + 1) others up under) rows rising below

-- numbers that do not fall, by place
rising_from : (low : ℕ) (rows : List SeenRow) → IsNonDecreasingBy (λ seen. seen.row) rows →
    ((d : SeenRow) → 0 < length rows → low ≤ (get_or rows 0 d).row) → IsRisingFrom low rows
rising_from low [] up first = tt
rising_from low (seen ∷ rows) up first = (
  first seen (omega arith),
  rising_from seen.row rows (λ i j d le lt. up (suc i) (suc j) d (omega (arith, le)) (omega (arith, lt)))
      (λ d some. up 0 1 d (omega arith) (omega (arith, some))),
)

-- rows tie where they are of one number
tie_is : (one other : SeenRow) → ties (λ x y. is_lt (nat_cmp x.row y.row)) one other ≡ nat_eq other.row one.row
tie_is one other = at one.row other.row
  where
    at : (m n : ℕ) → (not (is_lt (nat_cmp m n)) && not (is_lt (nat_cmp n m))) ≡ nat_eq n m
    at m n = grind (arith)

-- what a stable sort leaves of one number
kept_of : (rows sorted : List SeenRow) → IsStableByKey (λ seen. seen.row) nat_cmp rows sorted → (row : ℕ) →
    of_row row sorted ≡ of_row row rows
kept_of rows sorted stable row =
    sym (filter_agree (ties (λ x y. is_lt (nat_cmp x.row y.row)) one) (λ seen. nat_eq seen.row row) (tie_is one) sorted)
    ∙ (stable one
    ∙ filter_agree (ties (λ x y. is_lt (nat_cmp x.row y.row)) one) (λ seen. nat_eq seen.row row) (tie_is one) rows)
  where
    one : SeenRow
    one = record { row = row; version = record { values = None; writer = 0; command = 0 } }

same_in_turn : (rows sorted : List SeenRow) → ((row : ℕ) → of_row row sorted ≡ of_row row rows) → (first count : ℕ) →
    flat_map (λ row. of_row row sorted) (numbers_from first count) ≡ flat_map (λ row. of_row row rows) (numbers_from first count)
same_in_turn rows sorted same first zero = refl
same_in_turn rows sorted same first (suc count) =
    ap₂ (λ xs ys. xs ++ ys) (same first) (same_in_turn rows sorted same (first + 1) count)

-- rows that a stable sort by row number leaves
pub sorted_is : (rows sorted : List SeenRow) (drawn : ℕ) → IsPermutation rows sorted →
    IsNonDecreasingBy (λ seen. seen.row) sorted → IsStableByKey (λ seen. seen.row) nat_cmp rows sorted →
    AreDrawn drawn rows → sorted ≡ in_row_order drawn rows
sorted_is rows sorted drawn moved up stable within =
    sym (in_turn drawn 1 sorted (rising_from 1 sorted up (λ d some. (all 0 d some).0))
    (below sorted (recursion_from_All (λ seen. (0 < seen.row) × (seen.row ≤ drawn)) sorted all)))
    ∙ same_in_turn rows sorted (kept_of rows sorted stable) 1 drawn
  where
    all : AreDrawn drawn sorted
    all = All-permutation (λ seen. (0 < seen.row) × (seen.row ≤ drawn)) rows sorted moved within

    below : (xs : List SeenRow) → AllByRecursion (λ seen. (0 < seen.row) × (seen.row ≤ drawn)) xs → AreBelow (1 + drawn) xs
    below [] all = tt
    below (x ∷ xs) all = let h = all.0.1 in (omega (arith, h), below xs all.1)
