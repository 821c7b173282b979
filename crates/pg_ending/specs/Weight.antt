-- The order of weights: lists of numbers, compared from the front.
use Rattle.std.specs.Prelude.{◌≡◌, ◌<◌, ◌==◌, ◌&&◌, ◌⊎◌, ℕ, Bool, false, List, [], ◌∷◌, length, nat_lt, if◌then◌else◌}

-- xs is less than ys: they have one length, and the first number that differs is smaller in xs
abbrev pub IsLess : List ℕ → List ℕ → Type 0
IsLess [] ys = ⊥
IsLess (x ∷ xs) [] = ⊥
IsLess (x ∷ xs) (y ∷ ys) = ((x < y) × (length xs ≡ length ys)) ⊎ ((x ≡ y) × IsLess xs ys)

-- the test of it
abbrev pub is_less : List ℕ → List ℕ → Bool
is_less [] ys = false
is_less (x ∷ xs) [] = false
is_less (x ∷ xs) (y ∷ ys) = if nat_lt x y then length xs == length ys else (x == y && is_less xs ys)
