-- The first line of a script.
use Rattle.std.specs.Prelude.{ℕ, ◌&&◌, List, [], ◌∷◌, codes, Option, Some, None, if◌then◌else◌}
use Rattle.std.specs.Option.{option_map}
use Rattle.pg_model.specs.declared.script.Mode.{Mode}
use Rattle.pg_model.specs.declared.script.Mode.TheVariants as mode
use Rattle.pg_line.specs.Words.{Word, is_the, words_of}

-- the version of the language, and the mode
pub record Heading : Type 0 where
  pub version : ℕ
  pub mode : Mode

-- the mode that a word names
abbrev pub mode_of : Word → Option Mode
mode_of word =
    if is_the (codes "stepped") word then Some mode.Stepped
    else (if is_the (codes "free") word then Some mode.Free else None)

-- `rc 1 stepped` or `rc 1 free`, in lower case
abbrev pub heading_in : List Word → Option Heading
heading_in (rc ∷ version ∷ word ∷ []) =
    if is_the (codes "rc") rc && is_the (codes "1") version
    then option_map (λ mode. record { version = 1; mode = mode }) (mode_of word) else None
heading_in _ = None

-- what the first line says, if it is a header
abbrev pub heading_of : List ℕ → Option Heading
heading_of line = heading_in (words_of line)

-- the mode that the first line names, if it is a header
abbrev pub mode_in : List ℕ → Option Mode
mode_in line = option_map (λ heading. heading.mode) (heading_of line)
