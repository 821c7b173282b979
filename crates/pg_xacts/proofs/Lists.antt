-- Lists that are read and written at a place.
use Rattle.std.proofs.Common.{◌≡◌, ◌++◌, ℕ, zero, suc, List, [], ◌∷◌, Option, Some, None, length, slice_get, slice_set, refl, ap, length-set}
use Rattle.std.specs.Option.{option_map_or}
use Rattle.pg_lists.specs.Numbered.{with_changed_item, with_changed_nth_item}

-- an item that was written is found at its place
pub get_set : {X : Type 0} (xs : List X) (i : ℕ) (x y : X) → slice_get xs i ≡ Some x →
    slice_get (slice_set xs i y) i ≡ Some y
get_set [] i x y is = absurd (cc is)
get_set (z ∷ zs) zero x y is = refl
get_set (z ∷ zs) (suc i) x y is = get_set zs i x y is

-- and the others stay
pub get_set_other : {X : Type 0} (xs : List X) (i j : ℕ) (y : X) → (j ≡ i → ⊥) →
    slice_get (slice_set xs i y) j ≡ slice_get xs j
get_set_other [] i j y other = refl
get_set_other (z ∷ zs) zero zero y other = absurd (other refl)
get_set_other (z ∷ zs) zero (suc j) y other = refl
get_set_other (z ∷ zs) (suc i) zero y other = refl
get_set_other (z ∷ zs) (suc i) (suc j) y other = get_set_other zs i j y (λ e. other (ap suc e))

-- what stands in front of an item put behind a list
pub get_append_other : {X : Type 0} (xs : List X) (x : X) (i : ℕ) → (i ≡ length xs → ⊥) →
    slice_get (xs ++ x ∷ []) i ≡ slice_get xs i
get_append_other [] x zero other = absurd (other refl)
get_append_other [] x (suc i) other = refl
get_append_other (y ∷ ys) x zero other = refl
get_append_other (y ∷ ys) x (suc i) other = get_append_other ys x i (λ e. other (ap suc e))

-- no item more or less by a change
pub length_changed : {X : Type 0} (change : X → X) (xs : List X) (i : ℕ) → length (with_changed_item change xs i) ≡ length xs
length_changed {X = X} change xs i = at (slice_get xs i)
  where
    at : (o : Option X) → length (option_map_or (λ x. slice_set xs i (change x)) o xs) ≡ length xs
    at None = refl
    at (Some x) = length-set xs i (change x)

-- wherever the numbers begin
pub length_changed_from_one : {X : Type 0} (change : X → X) (xs : List X) (number : ℕ) →
    length (with_changed_nth_item change xs number) ≡ length xs
length_changed_from_one change xs zero = refl
length_changed_from_one change xs (suc before) = length_changed change xs before
