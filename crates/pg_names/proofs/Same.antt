-- Lists that are mapped to the same.
use Rattle.std.proofs.Common.{◌≡◌, ◌<◌, ◌+◌, arith, ℕ, zero, suc, List, [], ◌∷◌, map, ap, length, take, get_or}

-- what stands at a place is mapped to the same
pub same_at : {X Y : Type 0} (f : X → Y) (xs ys : List X) (i : ℕ) (d e : X) → map f xs ≡ map f ys → i < length xs →
    i < length ys → f (get_or xs i d) ≡ f (get_or ys i e)
same_at f [] ys i d e same lx ly = absurd (omega (arith, lx))
same_at f (x ∷ xs) [] i d e same lx ly = absurd (omega (arith, ly))
same_at f (x ∷ xs) (y ∷ ys) zero d e same lx ly = cc
same_at f (x ∷ xs) (y ∷ ys) (suc i) d e same lx ly =
    same_at f xs ys i d e (cc) (omega (arith, lx)) (omega (arith, ly))

front_more : {X Y : Type 0} (f : X → Y) (xs ys : List X) (i : ℕ) (d e : X) → i < length xs → i < length ys →
    map f (take i xs) ≡ map f (take i ys) → f (get_or xs i d) ≡ f (get_or ys i e) →
    map f (take (suc i) xs) ≡ map f (take (suc i) ys)
front_more f [] ys i d e lx ly front next = absurd (omega (arith, lx))
front_more f (x ∷ xs) [] i d e lx ly front next = absurd (omega (arith, ly))
front_more f (x ∷ xs) (y ∷ ys) zero d e lx ly front next = ap (λ z. z ∷ []) next
front_more f (x ∷ xs) (y ∷ ys) (suc i) d e lx ly front next =
    let first : f x ≡ f y = cc in
    let rest = front_more f xs ys i d e (omega (arith, lx)) (omega (arith, ly)) (cc) next in
    cc

-- one place more
pub same_more : {X Y : Type 0} (f : X → Y) (xs ys : List X) (i : ℕ) (d e : X) → i < length xs → i < length ys →
    map f (take i xs) ≡ map f (take i ys) → f (get_or xs i d) ≡ f (get_or ys i e) →
    map f (take (i + 1) xs) ≡ map f (take (i + 1) ys)
same_more f xs ys i d e lx ly front next =
    let one : i + 1 ≡ suc i = omega arith in rw one (front_more f xs ys i d e lx ly front next)
