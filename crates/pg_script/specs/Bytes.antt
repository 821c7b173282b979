-- The lines of a script.
use Rattle.std.specs.Prelude.{ℕ, ◌+◌, ◌==◌, Bool, if◌then◌else◌, List, [], ◌∷◌, length, map, Option, None, Some}

-- the list without its last item, where that passes a test
abbrev pub without_last : {X : Type 0} → (X → Bool) → List X → List X
without_last test [] = []
without_last test (x ∷ []) = if test x then [] else x ∷ []
without_last test (x ∷ y ∷ xs) = x ∷ without_last test (y ∷ xs)

-- the lines with a byte in front of the first
abbrev pub with_first_byte : ℕ → List (List ℕ) → List (List ℕ)
with_first_byte b [] = (b ∷ []) ∷ []
with_first_byte b (line ∷ lines) = (b ∷ line) ∷ lines

-- bytes are cut at LF
abbrev pub cut_at_line_feeds : List ℕ → List (List ℕ)
cut_at_line_feeds [] = [] ∷ []
cut_at_line_feeds (b ∷ bytes) = if b == 10 then [] ∷ cut_at_line_feeds bytes else with_first_byte b (cut_at_line_feeds bytes)

-- a CR at the end of a line is dropped
abbrev pub without_return : List ℕ → List ℕ
without_return line = without_last (λ b. b == 13) line

-- the lines of a script
abbrev pub lines_in : List ℕ → List (List ℕ)
lines_in bytes = map without_return (cut_at_line_feeds bytes)

-- the lines of what stands behind an LF, if one does
abbrev pub lines_behind : Option (List ℕ) → List (List ℕ)
lines_behind None = []
lines_behind (Some bytes) = lines_in bytes

-- the bytes to come behind an LF, with that LF
abbrev pub bytes_behind : Option (List ℕ) → ℕ
bytes_behind None = 0
bytes_behind (Some bytes) = length bytes + 1
