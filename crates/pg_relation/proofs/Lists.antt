-- Lists that are read and written at a place.
use Rattle.std.proofs.Common.{◌≡◌, ◌<◌, ◌≤◌, ◌+◌, ℕ, zero, suc, List, [], ◌∷◌, length, get_or, map, drop, Contains, All, Some, None, slice_get, slice_set, refl, sym, ap, subst, arith}
use Rattle.std.specs.Prelude.{sum_by}
use Rattle.std.proofs.lemmas.Option.{slice_get_within, slice_get-get_or, get_or_from_slice_get}
use Rattle.std.proofs.lemmas.List.Sums.{sum_by-set, sum_by-cons}

-- nothing is in the empty list
pub contains_none : {X : Type 0} (x : X) → Contains [] x → ⊥
contains_none x h = omega (arith, h.1)

-- a list of one item has that item alone
pub contains_one : {X : Type 0} (x y : X) → Contains (x ∷ []) y → x ≡ y
contains_one x y h = at h.0 h.1 h.2
  where
    at : (k : ℕ) → k < 1 → get_or (x ∷ []) k y ≡ y → x ≡ y
    at zero within is = is
    at (suc k) within is = absurd (omega (arith, within))

-- an item that was written is found at its place
pub get_set : {X : Type 0} (xs : List X) (i : ℕ) (x y : X) → slice_get xs i ≡ Some x →
    slice_get (slice_set xs i y) i ≡ Some y
get_set [] i x y is = absurd (cc is)
get_set (z ∷ zs) zero x y is = refl
get_set (z ∷ zs) (suc i) x y is = get_set zs i x y is

-- and the others stay
pub get_set_other : {X : Type 0} (xs : List X) (i j : ℕ) (y : X) → (j ≡ i → ⊥) →
    slice_get (slice_set xs i y) j ≡ slice_get xs j
get_set_other [] i j y other = refl
get_set_other (z ∷ zs) zero zero y other = absurd (other refl)
get_set_other (z ∷ zs) zero (suc j) y other = refl
get_set_other (z ∷ zs) (suc i) zero y other = refl
get_set_other (z ∷ zs) (suc i) (suc j) y other = get_set_other zs i j y (λ e. other (ap suc e))

-- an item that is written over itself leaves the list
pub set_same : {X : Type 0} (xs : List X) (i : ℕ) (x : X) → slice_get xs i ≡ Some x → slice_set xs i x ≡ xs
set_same [] i x is = absurd (cc is)
set_same (z ∷ zs) zero x is = let e : z ≡ x = cc is in ap (λ y. y ∷ zs) (sym e)
set_same (z ∷ zs) (suc i) x is = ap (λ ys. z ∷ ys) (set_same zs i x is)

-- what holds of each item and of the one that is written holds of each behind it
pub each_set : {X : Type 0} (P : ℕ → X → Type 0) (xs : List X) (i : ℕ) (y : X) →
    ((j : ℕ) (z : X) → slice_get xs j ≡ Some z → P j z) → P i y →
    (j : ℕ) (z : X) → slice_get (slice_set xs i y) j ≡ Some z → P j z
each_set P [] i y each here j z is = absurd (cc is)
each_set P (x ∷ xs) zero y each here zero z is = let e : y ≡ z = cc is in subst (λ w. P zero w) e here
each_set P (x ∷ xs) zero y each here (suc j) z is = each (suc j) z is
each_set P (x ∷ xs) (suc i) y each here zero z is = each zero z is
each_set P (x ∷ xs) (suc i) y each here (suc j) z is =
    each_set (λ k w. P (suc k) w) xs i y (λ k w e. each (suc k) w e) here j z is

-- what holds at each place holds of all items
pub all_each : {X : Type 0} (P : X → Type 0) (xs : List X) →
    ((j : ℕ) (z : X) → slice_get xs j ≡ Some z → P z) → All P xs
all_each P xs each = λ k d within. each k (get_or xs k d) (slice_get-get_or xs k d within)

-- where one item is replaced, its number leaves the sum, and the new one's comes in
pub sum_set : {X : Type 0} (f : X → ℕ) (xs : List X) (i : ℕ) (x y : X) → slice_get xs i ≡ Some x →
    sum_by f (slice_set xs i y) + f x ≡ sum_by f xs + f y
sum_set f xs i x y is =
    rw (get_or_from_slice_get xs i x x is) at (sum_by-set f xs i y x (slice_get_within xs i x is))

-- the sum is nothing where each number is
pub sum_none : {X Y : Type 0} (f : X → ℕ) (x : X) (ys : List Y) → f x ≡ 0 → sum_by f (map (λ y. x) ys) ≡ 0
sum_none f x [] none = refl
sum_none f x (y ∷ ys) none =
    let behind = sum_none f x ys none in omega (arith, sum_by-cons f x (map (λ y. x) ys))

-- past the end there is no item
pub slice_get_none : {X : Type 0} (xs : List X) (i : ℕ) → slice_get xs i ≡ None → length xs ≤ i
slice_get_none [] i is = omega arith
slice_get_none (x ∷ xs) zero is = absurd (cc is)
slice_get_none (x ∷ xs) (suc i) is = let h = slice_get_none xs i is in omega (arith, h)

-- within the list there is one
pub slice_get_some : {X : Type 0} (xs : List X) (i : ℕ) → i < length xs → (x : X) × (slice_get xs i ≡ Some x)
slice_get_some [] i within = absurd (omega (arith, within))
slice_get_some (x ∷ xs) zero within = (x, refl)
slice_get_some (x ∷ xs) (suc i) within = slice_get_some xs i (omega (arith, within))

-- what stands behind the first of the rest
pub drop_behind : {X : Type 0} (xs : List X) (n : ℕ) (y : X) (ys : List X) → y ∷ ys ≡ drop n xs →
    ys ≡ drop (suc n) xs
drop_behind [] zero y ys is = absurd (cc is)
drop_behind [] (suc n) y ys is = absurd (cc is)
drop_behind (x ∷ xs) zero y ys is = let e : ys ≡ xs = cc is in e
drop_behind (x ∷ xs) (suc n) y ys is = drop_behind xs n y ys is
