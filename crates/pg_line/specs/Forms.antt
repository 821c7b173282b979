-- The forms of a line.
use Rattle.std.specs.Prelude.{◌≡◌, ℕ, ◌+◌, ◌&&◌, if◌then◌else◌, List, [], ◌∷◌, codes, Option, None, Some, Result}
use Rattle.std.specs.Map.{lookup}
use Rattle.std.specs.Str.{bytes_eq}
use Rattle.pg_line.specs.declared.form.Label.{Label}
use Rattle.pg_line.specs.declared.form.Label.TheVariants as label
use Rattle.pg_line.specs.declared.form.LineForm.{LineForm}
use Rattle.pg_line.specs.declared.form.LineForm.TheVariants as form
use Rattle.pg_line.specs.declared.form.PlaceFault.{PlaceFault}
use Rattle.pg_line.specs.declared.form.SessionName.{SessionName}
use Rattle.pg_parse_stmt.specs.declared.tree.StmtTree.{StmtTree}
use Rattle.pg_line.specs.Words.{Word, is_the, words_of}
use Rattle.pg_line.specs.Sessions.{session_named}
use Rattle.pg_line.specs.Statements.{IsStatementAt}

-- each label with its spelling
unfoldable pub labels : List (List ℕ × Label)
labels =
    (codes "snapped", label.Snapped) ∷ (codes "found", label.Found) ∷ (codes "locked", label.Locked)
    ∷ (codes "placed", label.Placed) ∷ (codes "claimed", label.Claimed) ∷ (codes "acted", label.Acted) ∷ []

-- the label that is spelled so, if one is
unfoldable pub label_of : List ℕ → Option Label
label_of text = lookup (bytes_eq text) labels

-- the form of a line, and the place from which on its statement is written
pub data Outline : Type 0 where
  comment : Outline
  setup : ℕ → Outline
  given : SessionName → ℕ → Outline
  pause : SessionName → Label → Outline
  go : SessionName → Outline
  cut : SessionName → Outline
  unknown : Outline

-- a form with its session, where a word names one
abbrev pub form_named : (SessionName → Outline) → Option SessionName → Outline
form_named form None = unknown
form_named form (Some session) = form session

-- `setup: STATEMENT` or `SESSION: STATEMENT`, by the word before the colon and the place behind the colon
abbrev pub statement : Word → ℕ → Outline
statement word from =
    if is_the (codes "setup") word then setup from else form_named (λ session. given session from) (session_named word)

-- the pause of a session at a label
abbrev pub pause_at : Word → Option Label → Outline
pause_at word None = unknown
pause_at word (Some label) = form_named (λ session. pause session label) (session_named word)

-- `go SESSION`, `cut SESSION` or `pause SESSION at LABEL`
abbrev pub command : List Word → Outline
command (verb ∷ word ∷ []) =
    if is_the (codes "go") verb then form_named go (session_named word)
    else (if is_the (codes "cut") verb then form_named cut (session_named word) else unknown)
command (verb ∷ word ∷ link ∷ label ∷ []) =
    if is_the (codes "pause") verb && is_the (codes "at") link then pause_at word (label_of label.text) else unknown
command _ = unknown

-- behind the first word a colon begins a statement
abbrev pub behind_first : Word → List Word → Outline
behind_first first [] = unknown
behind_first first (second ∷ rest) =
    if is_the (codes ":") second then statement first (second.place + 1) else command (first ∷ second ∷ rest)

-- a line without a word, or with `#` as its first, is a comment
abbrev pub outline : List Word → Outline
outline [] = comment
outline (first ∷ rest) = if is_the (codes "#") first then comment else behind_first first rest

-- what a line of an outline says
abbrev pub IsFormBy : ℕ → List ℕ → Outline → LineForm → Type 0
IsFormBy version line comment says = says ≡ form.Comment
IsFormBy version line (setup from) says =
    (outcome : Result StmtTree PlaceFault) × IsStatementAt version line from outcome × (says ≡ form.Setup outcome)
IsFormBy version line (given session from) says =
    (outcome : Result StmtTree PlaceFault) × IsStatementAt version line from outcome × (says ≡ form.Given session outcome)
IsFormBy version line (pause session label) says = says ≡ form.Pause session label
IsFormBy version line (go session) says = says ≡ form.Go session
IsFormBy version line (cut session) says = says ≡ form.Cut session
IsFormBy version line unknown says = says ≡ form.Unknown

-- what a line says, in a version of the language
abbrev pub IsFormOf : ℕ → List ℕ → LineForm → Type 0
IsFormOf version line says = IsFormBy version line (outline (words_of line)) says
