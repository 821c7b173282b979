-- Sums over a list of parties.
use Rattle.std.proofs.Common.{◌≡◌, ◌<◌, ◌+◌, ◌≤◌, ℕ, zero, suc, List, [], ◌∷◌, ◌++◌, length, get_or, set, map, refl, ap, subst, inl, inr, arith}
use Rattle.std.specs.Prelude.{Some, slice_get}
use Rattle.std.proofs.Math.Nat.{suc_inj}
use Rattle.std.proofs.lemmas.Option.{get_or_from_slice_get, slice_get_within}
use Rattle.pg_ending.specs.Weight.{IsLess}
use Rattle.pg_ending.specs.Totals.{numbers_at, total, totals, EachParty}

module _ {X : Type 0} where
  -- where one record besides is replaced
  pub each_set : (R : ℕ → X → X → Type 0) (party : ℕ) (xs ys : List X) (i q : ℕ) (z d : X) →
      EachParty R party xs ys → q ≡ party + i → R q (get_or xs i d) z → EachParty R party xs (set ys i z)
  each_set R party [] [] i q z d h e r = tt
  each_set R party [] (y ∷ ys) i q z d h e r = absurd h
  each_set R party (x ∷ xs) [] i q z d h e r = absurd h
  each_set R party (x ∷ xs) (y ∷ ys) zero q z d h e r =
      let s : q ≡ party = omega (arith, e) in (subst (λ p. R p x z) s r, h.1)
  each_set R party (x ∷ xs) (y ∷ ys) (suc i) q z d h e r = (h.0, each_set R (suc party) xs ys i q z d h.1 (omega (arith, e)) r)

  -- one party's record is replaced: the sum without its number stays
  pub total_set : (f : ℕ → X → ℕ) (party : ℕ) (xs : List X) (i q : ℕ) (y d : X) → i < length xs → q ≡ party + i →
      total f party (set xs i y) + f q (get_or xs i d) ≡ total f party xs + f q y
  total_set f party [] i q y d h e = absurd (omega (arith, h))
  total_set f party (x ∷ xs) zero q y d h e =
      let s : q ≡ party = omega (arith, e) in
      rw s (omega arith)
  total_set f party (x ∷ xs) (suc i) q y d h e =
      let t = total_set f (suc party) xs i q y d (omega (arith, h)) (omega (arith, e)) in omega (arith, t)

  numbers_length : (fs : List (ℕ → X → ℕ)) (xs ys : List X) → length (totals fs xs) ≡ length (totals fs ys)
  numbers_length [] xs ys = refl
  numbers_length (f ∷ fs) xs ys = ap suc (numbers_length fs xs ys)

  -- where the numbers of one party fall, and the others stay, the totals fall
  pub totals_fall : (fs : List (ℕ → X → ℕ)) (xs : List X) (i : ℕ) (y d : X) → i < length xs →
      IsLess (numbers_at fs i y) (numbers_at fs i (get_or xs i d)) → IsLess (totals fs (set xs i y)) (totals fs xs)
  totals_fall [] xs i y d h less = absurd less
  totals_fall (f ∷ fs) xs i y d h (inl less) =
      let t = total_set f 0 xs i i y d h (omega arith) in
      inl (omega (arith, t, less.0), numbers_length fs (set xs i y) xs)
  totals_fall (f ∷ fs) xs i y d h (inr less) =
      let t = total_set f 0 xs i i y d h (omega arith) in
      inr (omega (arith, t, less.0), totals_fall fs xs i y d h less.1)

  -- the same two, at the record that a party has
  pub totals_fall_at : (fs : List (ℕ → X → ℕ)) (xs : List X) (i : ℕ) (x y : X) → slice_get xs i ≡ Some x →
      IsLess (numbers_at fs i y) (numbers_at fs i x) → IsLess (totals fs (set xs i y)) (totals fs xs)
  totals_fall_at fs xs i x y e less =
      totals_fall fs xs i y x (slice_get_within xs i x e) (rw (get_or_from_slice_get xs i x x e) less)
