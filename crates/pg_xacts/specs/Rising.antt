-- Lists of numbers that rise.
use Rattle.std.specs.Prelude.{ℕ, ◌+◌, ◌≤◌, List, [], ◌∷◌}

-- each number is greater than the one before it, and the first is at least `low`
abbrev pub IsRising : ℕ → List ℕ → Type 0
IsRising low [] = Unit {0}
IsRising low (number ∷ numbers) = (low ≤ number) × IsRising (number + 1) numbers
