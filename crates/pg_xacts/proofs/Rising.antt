-- Rising numbers: where a search finds one, and what is left without it.
use Rattle.std.proofs.Common.{◌≡◌, ◌≢◌, ◌<◌, ◌≤◌, ◌+◌, ℕ, zero, suc, true, false, not, List, [], ◌∷◌, length, get_or, filter, nat_eq, Result, Ok, Err, is_ok, remove, refl, ap, subst₂, sym, arith, ne_eqb, eq-eqb, MatchResult, nat_cmp, ◌⊎◌, inl, inr}
use Rattle.std.specs.List.{list_any}
use Rattle.std.specs.List.Sorted.{IsBinarySearchResult}
use Rattle.std.proofs.lemmas.List.Sorted.{searched}
use Rattle.std.proofs.lemmas.Bool.{cases_eq, cases_lt, or_right}
use Rattle.std.proofs.lemmas.List.Sums.{length-filter, count_by-le-length}
use Rattle.pg_xacts.specs.Rising.{IsRising}

-- a list that rises from a number on rises from each lower one
pub rising_lower : (low lower : ℕ) (numbers : List ℕ) → lower ≤ low → IsRising low numbers → IsRising lower numbers
rising_lower low lower [] below rising = tt
rising_lower low lower (n ∷ ns) below rising = (let h = rising.0 in omega (arith, below, h), rising.1)

-- no number is below the bound
pub above : (low : ℕ) (numbers : List ℕ) (i : ℕ) → IsRising low numbers → i < length numbers → low ≤ get_or numbers i 0
above low [] i rising within = absurd (omega (arith, within))
above low (n ∷ ns) zero rising within = rising.0
above low (n ∷ ns) (suc i) rising within =
    let h = above (n + 1) ns i rising.1 (omega (arith, within)) in
    let first = rising.0 in omega (arith, h, first)

-- a later number is no less than an earlier one
in_order : (low : ℕ) (numbers : List ℕ) → IsRising low numbers → (i j : ℕ) → i ≤ j → j < length numbers →
    get_or numbers i 0 ≤ get_or numbers j 0
in_order low [] rising i j le within = absurd (omega (arith, within))
in_order low (n ∷ ns) rising zero zero le within = omega arith
in_order low (n ∷ ns) rising zero (suc j) le within =
    let h = above (n + 1) ns j rising.1 (omega (arith, within)) in omega (arith, h)
in_order low (n ∷ ns) rising (suc i) zero le within = absurd (omega (arith, le))
in_order low (n ∷ ns) rising (suc i) (suc j) le within =
    in_order (n + 1) ns rising.1 i j (omega (arith, le)) (omega (arith, within))

-- the number at a place is among them
any_at : (numbers : List ℕ) (i x : ℕ) → i < length numbers → get_or numbers i 0 ≡ x → list_any (nat_eq x) numbers ≡ true
any_at [] i x within is = absurd (omega (arith, within))
any_at (n ∷ ns) zero x within is = rw (eq-eqb x n (sym is)) refl
any_at (n ∷ ns) (suc i) x within is = or_right (nat_eq x n) (list_any (nat_eq x) ns) (any_at ns i x (omega (arith, within)) is)

-- a number that stands at no place is not among them
pub any_none : (numbers : List ℕ) (x : ℕ) → ((k : ℕ) → k < length numbers → get_or numbers k 0 ≢ x) →
    list_any (nat_eq x) numbers ≡ false
any_none [] x none = refl
any_none (n ∷ ns) x none =
    rw (ne_eqb x n (λ e. none 0 (omega arith) (sym e)))
    (any_none ns x (λ k within. none (suc k) (omega (arith, within))))

-- nothing is left out of numbers without it
pub kept_all : (numbers : List ℕ) (x : ℕ) → ((k : ℕ) → k < length numbers → get_or numbers k 0 ≢ x) →
    filter (λ other. not (nat_eq other x)) numbers ≡ numbers
kept_all [] x none = refl
kept_all (n ∷ ns) x none =
    rw (ne_eqb n x (none 0 (omega arith)))
    (ap (λ rest. n ∷ rest) (kept_all ns x (λ k within. none (suc k) (omega (arith, within)))))

-- a rising list without the number at a place
kept_others : (low : ℕ) (numbers : List ℕ) (i x : ℕ) → IsRising low numbers → i < length numbers →
    get_or numbers i 0 ≡ x → remove numbers i ≡ filter (λ other. not (nat_eq other x)) numbers
kept_others low [] i x rising within is = absurd (omega (arith, within))
kept_others low (n ∷ ns) zero x rising within is =
    rw (eq-eqb n x is) (sym (kept_all ns x (λ k there e. let h = above (n + 1) ns k rising.1 there in omega (arith, h, e, is))))
kept_others low (n ∷ ns) (suc i) x rising within is =
    rw (ne_eqb n x (λ e. let h = above (n + 1) ns i rising.1 (omega (arith, within)) in omega (arith, h, e, is)))
    (ap (λ rest. n ∷ rest) (kept_others (n + 1) ns i x rising.1 (omega (arith, within)) is))

-- a number between those before a place and those from it on stands at none
apart : (numbers : List ℕ) (x place : ℕ) → ((k : ℕ) → k < place → get_or numbers k 0 < x) →
    ((k : ℕ) → place ≤ k → k < length numbers → x < get_or numbers k 0) →
    (k : ℕ) → k < length numbers → get_or numbers k 0 ≢ x
apart numbers x place before behind k within e = by_side (cases_lt k place)
  where
    by_side : (k < place) ⊎ (place ≤ k) → ⊥
    by_side (inl lt) = let h = before k lt in omega (arith, h, e)
    by_side (inr le) = let h = behind k le within in omega (arith, h, e)

-- a search tells whether the number is among them
pub is_found : (numbers : List ℕ) (x : ℕ) (answer : Result ℕ ℕ) → IsRising 0 numbers →
    IsBinarySearchResult (λ y. nat_cmp y x) numbers answer → is_ok answer ≡ list_any (nat_eq x) numbers
is_found numbers x answer rising result =
    by_answer answer (searched numbers x answer result (in_order 0 numbers rising))
  where
    by_answer : (r : Result ℕ ℕ) → MatchResult r (λ i. (i < length numbers) × (get_or numbers i 0 ≡ x))
        (λ i. (i ≤ length numbers) × ((k : ℕ) → k < i → get_or numbers k 0 < x) × ((k : ℕ) → i ≤ k → k < length numbers → x < get_or numbers k 0)) →
        is_ok r ≡ list_any (nat_eq x) numbers
    by_answer (Ok i) found = sym (any_at numbers i x found.0 found.1)
    by_answer (Err i) missing = sym (any_none numbers x (apart numbers x i missing.1 missing.2))

-- what a search finds is taken out
pub is_taken_out : (numbers searched_in : List ℕ) (x : ℕ) (answer : Result ℕ ℕ) (i : ℕ) → IsRising 0 numbers →
    searched_in ≡ numbers → IsBinarySearchResult (λ y. nat_cmp y x) searched_in answer → answer ≡ Ok i →
    remove numbers i ≡ filter (λ other. not (nat_eq other x)) numbers
is_taken_out numbers searched_in x answer i rising same result is =
    let here = subst₂ (λ xs r. IsBinarySearchResult (λ y. nat_cmp y x) xs r) same is result in
    let found = searched numbers x (Ok i) here (in_order 0 numbers rising) in
    kept_others 0 numbers i x rising found.0 found.1

-- where it finds nothing there is nothing to take out
pub is_not_there : (numbers searched_in : List ℕ) (x : ℕ) (answer : Result ℕ ℕ) (i : ℕ) → IsRising 0 numbers →
    searched_in ≡ numbers → IsBinarySearchResult (λ y. nat_cmp y x) searched_in answer → answer ≡ Err i →
    numbers ≡ filter (λ other. not (nat_eq other x)) numbers
is_not_there numbers searched_in x answer i rising same result is =
    let here = subst₂ (λ xs r. IsBinarySearchResult (λ y. nat_cmp y x) xs r) same is result in
    let missing = searched numbers x (Err i) here (in_order 0 numbers rising) in
    sym (kept_all numbers x (apart numbers x i missing.1 missing.2))

-- no more numbers than there are
no_more : (numbers : List ℕ) (x : ℕ) → length (filter (λ other. not (nat_eq other x)) numbers) ≤ length numbers
no_more numbers x =
    let counted = length-filter (λ other. not (nat_eq other x)) numbers in
    let most = count_by-le-length (λ other. not (nat_eq other x)) numbers in omega (arith, counted, most)

-- one number less, where it was among them
pub fewer : (numbers : List ℕ) (x : ℕ) → list_any (nat_eq x) numbers ≡ true →
    length (filter (λ other. not (nat_eq other x)) numbers) < length numbers
fewer [] x there = absurd (cc there)
fewer (n ∷ ns) x there = by_cases (λ behind. fewer ns x behind) (cases_eq x n)
  where
    by_cases : (list_any (nat_eq x) ns ≡ true → length (filter (λ other. not (nat_eq other x)) ns) < length ns) →
        (x ≡ n) ⊎ (x ≡ n → ⊥) → length (filter (λ other. not (nat_eq other x)) (n ∷ ns)) < suc (length ns)
    by_cases less (inl e) = rw (eq-eqb n x (sym e)) (let h = no_more ns x in omega (arith, h))
    by_cases less (inr apart) =
        let behind : list_any (nat_eq x) ns ≡ true = rw (ne_eqb x n apart) at there in
        rw (ne_eqb n x (λ e. apart (sym e))) (let h = less behind in omega (arith, h))
