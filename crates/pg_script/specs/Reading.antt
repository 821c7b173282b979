-- The reading of a script: what its bytes say, or the first line that is refused and the first reason.
use Rattle.std.specs.Prelude.{ℕ, ◌≡◌, ◌⊎◌, ◌<◌, ◌≤◌, ◌+◌, List, [], ◌∷◌, ◌++◌, length, Some, None, Result, Ok, Err}
use Rattle.std.specs.List.{AllZip}
use Rattle.pg_model.specs.declared.script.Mode.{Mode}
use Rattle.pg_model.specs.declared.script.Script.{Script}
use Rattle.pg_line.specs.declared.form.LineForm.{LineForm}
use Rattle.pg_line.specs.Forms.{IsFormOf}
use Rattle.pg_script.specs.declared.fault.Reason.{Reason}
use Rattle.pg_script.specs.declared.fault.Reason.TheVariants as reason
use Rattle.pg_script.specs.declared.fault.ScriptFault.{ScriptFault}
use Rattle.pg_script.specs.declared.fault.ScriptFault.TheVariants as script_fault
use Rattle.pg_script.specs.Bytes.{lines_in}
use Rattle.pg_script.specs.Headings.{Heading, heading_of}
use Rattle.pg_script.specs.Parts.{catalogue_of, lines_of, sessions_of, setup_rows_of}
use Rattle.pg_script.specs.Reasons.{reasons_of}

-- a script has at most this many bytes
abbrev pub most_bytes : ℕ
most_bytes = 1048576

-- no line is refused behind those before it
abbrev pub AreFine : Mode → List LineForm → Type 0
AreFine mode forms =
    (before after : List LineForm) (line : LineForm) → forms ≡ before ++ line ∷ after → reasons_of mode before line ≡ []

-- the first line is this header, and the lines behind it are of these forms
pub record AreForms (lines : List (List ℕ)) (heading : Heading) (forms : List LineForm) : Type 0 where
  pub header : List ℕ
  pub body : List (List ℕ)
  pub split : lines ≡ header ∷ body
  pub headed : heading_of header ≡ Some heading
  pub formed : AllZip (IsFormOf heading.version) body forms

-- lines of these forms, below this header, say the script
pub record SayForms (heading : Heading) (forms : List LineForm) (script : Script) : Type 0 where
  pub fine : AreFine heading.mode forms
  pub version : script.version ≡ heading.version
  pub mode : script.mode ≡ heading.mode
  pub sessions : script.sessions ≡ sessions_of forms
  pub catalogue : script.catalogue ≡ catalogue_of forms
  pub setup : script.setup ≡ setup_rows_of forms
  pub lines : script.lines ≡ lines_of forms

-- the bytes say the script
pub record Say (bytes : List ℕ) (script : Script) : Type 0 where
  pub size : length bytes ≤ most_bytes
  pub heading : Heading
  pub forms : List LineForm
  pub are : AreForms (lines_in bytes) heading forms
  pub say : SayForms heading forms script

-- the lines before that one are fine, and of the reasons to refuse it this is the first
pub record IsFirstRefused (lines : List (List ℕ)) (number : ℕ) (why : Reason) : Type 0 where
  pub before : List (List ℕ)
  pub line : List ℕ
  pub after : List (List ℕ)
  pub split : lines ≡ before ++ line ∷ after
  pub number_is : number ≡ length before + 1
  pub heading : Heading
  pub forms : List LineForm
  pub are : AreForms before heading forms
  pub fine : AreFine heading.mode forms
  pub form : LineForm
  pub formed : IsFormOf heading.version line form
  pub others : List Reason
  pub reasons : reasons_of heading.mode forms form ≡ why ∷ others

-- the first line is no header
pub record LacksHeader (lines : List (List ℕ)) : Type 0 where
  pub first : List ℕ
  pub others : List (List ℕ)
  pub split : lines ≡ first ∷ others
  pub bare : heading_of first ≡ None

-- the bytes are refused at that line, for that reason: the size comes before all lines, and the header before all others
abbrev pub IsRefused : List ℕ → ℕ → Reason → Type 0
IsRefused bytes number why =
    ((most_bytes < length bytes) × (number ≡ 0) × (why ≡ reason.Size))
    ⊎ ((length bytes ≤ most_bytes) × LacksHeader (lines_in bytes) × (number ≡ 1) × (why ≡ reason.Header))
    ⊎ ((length bytes ≤ most_bytes) × IsFirstRefused (lines_in bytes) number why)

-- the answer of a reader: the script that the bytes say, or where and why they say none; memory alone is free
abbrev pub IsRead : List ℕ → Result Script ScriptFault → Type 0
IsRead bytes (Ok script) = Say bytes script
IsRead bytes (Err (script_fault.Refused number why)) = IsRefused bytes number why
IsRead bytes (Err script_fault.Memory) = Unit {0}
