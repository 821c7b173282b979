-- What is found among names that are kept as vectors of bytes.
use Rattle.std.proofs.Common.{arith, length, ◌||◌, ◌≡◌, refl, suc, Bool, false, List, [], ◌∷◌, ◌++◌, map, ap, if◌then◌else◌, position}
use Rattle.std.proofs.lemmas.Grind.{common_steps}
use Rattle.std.proofs.lemmas.List.{map-append}
use Rattle.std.specs.List.{list_any, position_or_len}

-- the place of the first that passes a test of what it is mapped to
pub place_map : {X Y : Type 0} (f : X → Y) (p : Y → Bool) (xs : List X) →
    position_or_len p (map f xs) ≡ position_or_len (λ x. p (f x)) xs
place_map f p [] = refl
place_map f p (x ∷ xs) = grind (arith, common_steps, place_map f p xs)

pub length_map : {X Y : Type 0} (f : X → Y) (xs : List X) → length (map f xs) ≡ length xs
length_map f [] = refl
length_map f (x ∷ xs) = ap suc (length_map f xs)

pub position_map : {X Y : Type 0} (f : X → Y) (p : Y → Bool) (xs : List X) →
    position p (map f xs) ≡ position (λ x. p (f x)) xs
position_map f p xs = grind (arith, common_steps, place_map f p xs, length_map f xs)

-- with no item that passes the test, the test of what they are mapped to fails
pub any_map : {X Y : Type 0} (f : X → Y) (p : Y → Bool) (xs : List X) →
    list_any p (map f xs) ≡ list_any (λ x. p (f x)) xs
any_map f p [] = refl
any_map f p (x ∷ xs) = ap (λ b. p (f x) || b) (any_map f p xs)

-- what is inserted, and is not there yet, goes last
pub inserted_map : {X Y : Type 0} (f : X → Y) (eq : Y → Y → Bool) (xs new : List X) (x : X) (ys : List Y) (y : Y) →
    new ≡ (if list_any (λ z. eq (f x) (f z)) xs then xs else xs ++ x ∷ []) →
    map f xs ≡ ys → f x ≡ y → list_any (eq y) ys ≡ false → map f new ≡ ys ++ y ∷ []
inserted_map f eq xs new x ys y inserted is key absent =
    grind (arith, common_steps, inserted, is, key, any_map f (eq (f x)) xs, absent, map-append f xs (x ∷ []))
