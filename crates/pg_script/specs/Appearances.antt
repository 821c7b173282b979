-- Names in the order in which they first appear.
use Rattle.std.specs.Prelude.{ℕ, not, List, [], ◌∷◌, filter}
use Rattle.std.specs.Str.{bytes_eq}

-- each name once, in order of first appearance
abbrev pub first_appearances : List (List ℕ) → List (List ℕ)
first_appearances [] = []
first_appearances (name ∷ names) = name ∷ filter (λ other. not (bytes_eq name other)) (first_appearances names)
