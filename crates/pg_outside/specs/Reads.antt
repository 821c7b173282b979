-- What reading a source to its end has found.
use Rattle.std.specs.Prelude.{◌≡◌, ℕ, ◌≤◌, List, [], length, ⊤, None, Some}
use Rattle.std.specs.declared.option.Option.{Option}
use Rattle.std.specs.Io.KnownBytes.{Consumes}
use Rattle.pg_outside.specs.declared.reads.ReadAll.{ReadAll}
use Rattle.pg_outside.specs.declared.reads.ReadAll.TheVariants.{All, TooLong}

-- these bytes are all that was left, and nothing is left, where the source tells
abbrev pub ReadsWhole : Option (List ℕ) → Option (List ℕ) → List ℕ → Type 0
ReadsWhole None now bytes = ⊤
ReadsWhole (Some left) now bytes = (left ≡ bytes) × (now ≡ Some [])

-- some front of what was left was read, of at most so many bytes
abbrev pub ReadsFront : Option (List ℕ) → Option (List ℕ) → ℕ → Type 0
ReadsFront before now most = (bytes : List ℕ) × (length bytes ≤ most) × Consumes before now bytes

-- a fact of the bytes, where the whole input was read
abbrev pub IfAll : ReadAll → (List ℕ → Type 0) → Type 0
IfAll (All bytes) P = P bytes
IfAll _ P = ⊤

-- a fact of the bytes, where the input is too long
abbrev pub IfTooLong : ReadAll → (List ℕ → Type 0) → Type 0
IfTooLong (TooLong bytes) P = P bytes
IfTooLong _ P = ⊤

-- a fact, where no bytes are handed out
abbrev pub OnLost : ReadAll → Type 0 → Type 0
OnLost (All _) P = ⊤
OnLost (TooLong _) P = ⊤
OnLost _ P = P
