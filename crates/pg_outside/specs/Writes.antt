-- What a sink has taken of a piece, and of a whole text.
use Rattle.std.specs.Prelude.{ℕ, ◌<◌, List, length, take, Result, IfOk}
use Rattle.std.specs.declared.option.Option.{Option}
use Rattle.std.specs.Io.KnownBytes.{Appends}

-- of a piece that is not empty at least one byte is taken
abbrev pub TakesSome : {E : Type 0} → Result ℕ E → List ℕ → Type 0
TakesSome result piece = IfOk result (λ count. 0 < length piece → 0 < count)

-- what a sink tells of has grown by a front of the text, and not by all of it
abbrev pub AppendsFront : Option (List ℕ) → Option (List ℕ) → List ℕ → Type 0
AppendsFront before now text = (count : ℕ) × (count < length text) × Appends before now (take count text)
