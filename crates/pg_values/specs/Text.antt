-- Text values.
use Rattle.std.specs.Prelude.{ℕ, ◌≤◌, List, length}

-- a text value has at most 4,096 bytes
abbrev pub IsText : List ℕ → Type 0
IsText bytes = length bytes ≤ 4096
