-- The last number that passes a test.
use Rattle.std.proofs.Common.{◌≡◌, ◌<◌, ◌≤◌, ◌⊎◌, inl, inr, ℕ, zero, suc, Bool, true, false, cond, Some, None, refl, arith}
use Rattle.std.proofs.lemmas.Bool.{cases_eq}
use Rattle.pg_rows.specs.Stores.{last_number}

-- tests that agree on all numbers have the same last one
pub last_same : (p q : ℕ → Bool) (count : ℕ) → ((m : ℕ) → 0 < m → m ≤ count → p m ≡ q m) →
    last_number p count ≡ last_number q count
last_same p q zero same = refl
last_same p q (suc before) same =
    rw (same (suc before) (omega arith) (omega arith), last_same p q before (λ m first le. same m first (omega (arith, le)))) refl

-- none where none passes
pub last_none : (p : ℕ → Bool) (count : ℕ) → ((m : ℕ) → 0 < m → m ≤ count → p m ≡ false) → last_number p count ≡ None
last_none p zero none = refl
last_none p (suc before) none =
    rw (none (suc before) (omega arith) (omega arith)) (last_none p before (λ m first le. none m first (omega (arith, le))))

-- the last number passes, and is one of those that were looked at
pub last_passes : (p : ℕ → Bool) (count n : ℕ) → last_number p count ≡ Some n → (p n ≡ true) × ((0 < n) × (n ≤ count))
last_passes p zero n is = absurd (cc is)
last_passes p (suc before) n is = at (λ e. last_passes p before n e) (p (suc before)) refl is
  where
    at : (last_number p before ≡ Some n → (p n ≡ true) × ((0 < n) × (n ≤ before))) → (b : Bool) → p (suc before) ≡ b →
        cond b (Some (suc before)) (last_number p before) ≡ Some n → (p n ≡ true) × ((0 < n) × (n ≤ suc before))
    at behind true passes is =
        let e : suc before ≡ n = cc is in (rw (← e) passes, (omega (arith, e), omega (arith, e)))
    at behind false passes is =
        let h = behind is in let le = h.1.1 in (h.0, (h.1.0, omega (arith, le)))

-- no later number passes
pub last_after : (p : ℕ → Bool) (count n m : ℕ) → last_number p count ≡ Some n → n < m → m ≤ count → p m ≡ false
last_after p zero n m is lt le = absurd (cc is)
last_after p (suc before) n m is lt le = at (λ e less. last_after p before n m e lt less) (p (suc before)) refl is
  where
    by_case : (m ≡ suc before) ⊎ (m ≡ suc before → ⊥) → (b : Bool) → p (suc before) ≡ false → (m ≤ before → p m ≡ false) → p m ≡ false
    by_case (inl e) b passes behind = rw e passes
    by_case (inr apart) b passes behind = behind (omega (arith, le, apart))

    at : (last_number p before ≡ Some n → m ≤ before → p m ≡ false) → (b : Bool) → p (suc before) ≡ b →
        cond b (Some (suc before)) (last_number p before) ≡ Some n → p m ≡ false
    at behind true passes is = let e : suc before ≡ n = cc is in absurd (omega (arith, e, lt, le))
    at behind false passes is = by_case (cases_eq m (suc before)) false passes (behind is)

-- a number that passes is the last where no later one does
pub last_is : (p : ℕ → Bool) (count n : ℕ) → p n ≡ true → 0 < n → n ≤ count → ((m : ℕ) → n < m → m ≤ count → p m ≡ false) →
    last_number p count ≡ Some n
last_is p zero n passes first le none = absurd (omega (arith, first, le))
last_is p (suc before) n passes first le none = by_case (λ less. last_is p before n passes first less (λ m lt le. none m lt (omega (arith, le)))) (cases_eq n (suc before))
  where
    by_case : (n ≤ before → last_number p before ≡ Some n) → (n ≡ suc before) ⊎ (n ≡ suc before → ⊥) →
        cond (p (suc before)) (Some (suc before)) (last_number p before) ≡ Some n
    by_case behind (inl e) = rw (← e, passes) refl
    by_case behind (inr apart) = rw (none (suc before) (omega (arith, le, apart)) (omega arith)) (behind (omega (arith, le, apart)))

-- and so it is among more numbers of which no more passes
pub last_more : (p : ℕ → Bool) (count more : ℕ) → count ≤ more → ((m : ℕ) → count < m → m ≤ more → p m ≡ false) →
    last_number p more ≡ last_number p count
last_more p count zero le none = let e : count ≡ zero = omega (arith, le) in rw e refl
last_more p count (suc before) le none = by_case (λ less. last_more p count before less (λ m lt le. none m lt (omega (arith, le)))) (cases_eq count (suc before))
  where
    by_case : (count ≤ before → last_number p before ≡ last_number p count) → (count ≡ suc before) ⊎ (count ≡ suc before → ⊥) →
        last_number p (suc before) ≡ last_number p count
    by_case behind (inl e) = rw e refl
    by_case behind (inr apart) = rw (none (suc before) (omega (arith, le, apart)) (omega arith)) (behind (omega (arith, le, apart)))
