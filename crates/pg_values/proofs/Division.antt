-- A quotient and a remainder go together.
use Rattle.std.proofs.Common.{◌≡◌, ◌≢◌, ◌<◌, ℤ, pos, negsuc, zero, suc, neg_ℤ, Bool, true, false, refl, arith}
use Rattle.std.proofs.Math.Nat.{zero-mod}
use Rattle.std.specs.Prelude.{◌≤ℤ◌, unsigned_abs, int_div, int_rem, Some, None, if◌then◌else◌, ◌%◌, ℕ}
use Rattle.std.specs.Ordering.{int_eq}
use Rattle.std.proofs.lemmas.Bool.Decides.{Decides-int_eq, not_from_Decides}
use Rattle.std.proofs.lemmas.Int.{quot-rem, rem_below, ints}
use Rattle.pg_values.specs.Number.{quotient, rest}
use Rattle.pg_values.specs.Laws.{IsRemainder}

unsigned_abs-above : (b : ℤ) → b ≢ pos 0 → 0 < unsigned_abs b
unsigned_abs-above (pos zero) nonzero = absurd (nonzero refl)
unsigned_abs-above (pos (suc n)) nonzero = omega arith
unsigned_abs-above (negsuc n) nonzero = omega arith

not_negative : (a b : ℤ) → pos 0 ≤ℤ a → pos 0 ≤ℤ int_rem a b
not_negative (pos n) b up = omega (arith, ints)
not_negative (negsuc n) b up = absurd (omega (arith, ints))

opposite : (m : ℕ) → neg_ℤ (pos m) ≤ℤ pos 0
opposite zero = omega (arith, ints)
opposite (suc m) = omega (arith, ints)

not_positive : (a b : ℤ) → a ≤ℤ pos 0 → int_rem a b ≤ℤ pos 0
not_positive (pos zero) b down = rw zero-mod (omega (arith, ints))
not_positive (pos (suc n)) b down = absurd (omega (arith, ints))
not_positive (negsuc n) b down = opposite (suc n % unsigned_abs b)

divided : (a b : ℤ) → b ≢ pos 0 → IsRemainder a b (int_div a b) (int_rem a b)
divided a b nonzero = record {
  leaves = quot-rem a b;
  less = rem_below a b (unsigned_abs-above b nonzero);
  not_negative = not_negative a b;
  not_positive = not_positive a b;
}

-- a result under a test that leaves none where it passes
tested : (test : Bool) (z q : ℤ) → (if test then None else Some z) ≡ Some q → (test ≡ false) × (z ≡ q)
tested true z q e = absurd (cc)
tested false z q e = (refl, cc)

pub division_leaves_remainder : (a b q r : ℤ) → quotient a b ≡ Some q → rest a b ≡ Some r → IsRemainder a b q r
division_leaves_remainder a b q r divides leaves =
    let for_q = tested (int_eq b (pos 0)) (int_div a b) q divides in
    let for_r = tested (int_eq b (pos 0)) (int_rem a b) r leaves in
    let nonzero : b ≢ pos 0 = not_from_Decides (int_eq b (pos 0)) (Decides-int_eq b (pos 0)) for_q.0 in
    rw (← for_q.1, ← for_r.1) (divided a b nonzero)
