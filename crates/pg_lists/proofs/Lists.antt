-- Lemmas on lists that crates above share.
use Rattle.std.proofs.Common.{◌≡◌, ◌≢◌, ◌<◌, ℕ, zero, suc, List, [], ◌∷◌, arith, length, slice_get, slice_set, ap, refl, Some, None}

-- an item written back at its place changes nothing
pub slice_set_same : {X : Type 0} (xs : List X) (i : ℕ) (x : X) → slice_get xs i ≡ Some x → slice_set xs i x ≡ xs
slice_set_same [] i x is = refl
slice_set_same (y ∷ ys) zero x is = cc
slice_set_same (y ∷ ys) (suc i) x is = ap (λ zs. y ∷ zs) (slice_set_same ys i x is)

-- what each item is stays so with one item replaced
pub replaced_each : {X : Type 0} (f : ℕ → X) (xs : List X) (place : ℕ) (x : X) →
    ((i : ℕ) → i < length xs → i ≢ place → slice_get xs i ≡ Some (f i)) → x ≡ f place →
    (i : ℕ) → i < length (slice_set xs place x) → slice_get (slice_set xs place x) i ≡ Some (f i)
replaced_each f [] place x each is i within = absurd (omega (arith, within))
replaced_each f (y ∷ ys) zero x each is zero within = cc
replaced_each f (y ∷ ys) zero x each is (suc i) within =
    each (suc i) (omega (arith, within)) (λ e. absurd (omega (arith, e)))
replaced_each f (y ∷ ys) (suc place) x each is zero within = each zero (omega arith) (λ e. absurd (omega (arith, e)))
replaced_each f (y ∷ ys) (suc place) x each is (suc i) within =
    replaced_each (λ n. f (suc n)) ys place x
    (λ n lt other. each (suc n) (omega (arith, lt)) (λ e. other (omega (arith, e)))) is i (omega (arith, within))
