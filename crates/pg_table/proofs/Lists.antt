-- Lists of which each item is changed.
use Rattle.std.proofs.Common.{◌≡◌, ◌+◌, ◌++◌, ℕ, zero, suc, List, [], ◌∷◌, Some, arith, drop, map, slice_get, slice_set, take, refl, ap, sym, ◌∙◌}

-- one more item is as `f` makes it
pub each_changed : {X : Type 0} (f : X → X) (xs : List X) (i : ℕ) (x : X) →
    slice_get xs i ≡ Some x →
    take (i + 1) (slice_set xs i (f x)) ++ map f (drop (i + 1) (slice_set xs i (f x)))
    ≡ take i xs ++ map f (drop i xs)
each_changed f [] i x is = absurd (cc is)
each_changed f (y ∷ ys) zero x is = cc is
each_changed f (y ∷ ys) (suc i) x is =
    let next : suc i + 1 ≡ suc (i + 1) = omega arith in
    rw next (ap (λ zs. y ∷ zs) (each_changed f ys i x is))

-- the item at a place is the first of those from there on
drop_get : {X : Type 0} (i : ℕ) (xs : List X) → slice_get (drop i xs) 0 ≡ slice_get xs i
drop_get zero xs = refl
drop_get (suc i) [] = refl
drop_get (suc i) (x ∷ xs) = drop_get i xs

-- lists that are the same from a place on have the same item there
pub same_there : {X : Type 0} (i : ℕ) (xs ys : List X) → drop i xs ≡ drop i ys → slice_get xs i ≡ slice_get ys i
same_there i xs ys same = sym (drop_get i xs) ∙ (ap (λ zs. slice_get zs 0) same ∙ drop_get i ys)

-- and so they are behind it, whatever is written there
drop_behind : {X : Type 0} (i : ℕ) (xs : List X) → drop (suc i) xs ≡ drop 1 (drop i xs)
drop_behind zero xs = refl
drop_behind (suc i) [] = refl
drop_behind (suc i) (x ∷ xs) = drop_behind i xs

drop_set : {X : Type 0} (i : ℕ) (xs : List X) (x : X) → drop (suc i) (slice_set xs i x) ≡ drop (suc i) xs
drop_set i [] x = refl
drop_set zero (y ∷ ys) x = refl
drop_set (suc i) (y ∷ ys) x = drop_set i ys x

pub same_behind : {X : Type 0} (i : ℕ) (xs ys : List X) (x : X) → drop i xs ≡ drop i ys → drop (i + 1) (slice_set xs i x) ≡ drop (i + 1) ys
same_behind i xs ys x same =
    let next : i + 1 ≡ suc i = omega arith in
    rw next (drop_set i xs x ∙ (drop_behind i xs ∙ (ap (drop 1) same ∙ sym (drop_behind i ys))))
