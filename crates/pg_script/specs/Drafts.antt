-- What has been read so far, as it is kept while a script is read: the parts that the lines so far say.
use Rattle.std.specs.Prelude.{ℕ, ◌≡◌, ◌+◌, Bool, false, not, ◌&&◌, ◌||◌, nat_le, List, [], ◌∷◌, ◌++◌, length, Option, Some, None, Result, Ok, Err, option_to_list, if◌then◌else◌}
use Rattle.std.specs.List.{list_any}
use Rattle.pg_names.specs.Names.{is_among}
use Rattle.pg_model.specs.declared.script.Mode.{Mode}
use Rattle.pg_model.specs.declared.script.Script.{Script}
use Rattle.pg_model.specs.declared.error.SqlError.{SqlError}
use Rattle.pg_model.specs.declared.script.Line.{Line}
use Rattle.pg_model.specs.Limits.{most_sessions}
use Rattle.pg_parse_stmt.specs.declared.tree.StmtTree.{StmtTree}
use Rattle.pg_analyse.specs.Analysis.{analysis, declaration}
use Rattle.pg_line.specs.Forms.{IsFormOf}
use Rattle.pg_line.specs.declared.form.LineForm.{LineForm}
use Rattle.pg_line.specs.declared.form.SessionName.{SessionName}
use Rattle.pg_script.specs.declared.draft.Draft.{Draft}
use Rattle.pg_script.specs.declared.fault.Reason.{Reason}
use Rattle.pg_script.specs.declared.fault.Reason.TheVariants as reason
use Rattle.pg_script.specs.declared.fault.ScriptFault.{ScriptFault}
use Rattle.pg_script.specs.declared.fault.ScriptFault.TheVariants as script_fault
use Rattle.pg_script.specs.Built.{is_later}
use Rattle.pg_script.specs.Parts.{catalogue_of, given_line, given_statement, line_in, lines_of, session_names, sessions_of, setup_in, setup_insert, setup_rows_of, tables_behind, with_table}
use Rattle.pg_script.specs.Reasons.{is_comment, is_free, is_misplaced, is_setup, is_unknown, orders_steps, place_reasons, setup_reasons, when}

-- the first of the reasons, if there is one
abbrev pub first_of : List Reason → Option Reason
first_of [] = None
first_of (reason ∷ reasons) = Some reason

-- the name of a session, if there is one
abbrev pub named_by : Option SessionName → List (List ℕ)
named_by None = []
named_by (Some session) = session.name ∷ []

-- the line is neither a setup line nor a comment
abbrev pub is_other : LineForm → Bool
is_other line = not (is_setup line || is_comment line)

-- the names, and one more behind them unless it is one of them
abbrev pub with_name : List (List ℕ) → List ℕ → List (List ℕ)
with_name names name = if is_among names name then names else names ++ name ∷ []

-- the same for the name that a line has, if it has one
abbrev pub with_names : List (List ℕ) → List (List ℕ) → List (List ℕ)
with_names names [] = names
with_names names (name ∷ more) = with_names (with_name names name) more

-- why a line is refused before its statement is analysed
abbrev pub early_reasons : Draft → LineForm → List Reason
early_reasons draft line =
    when (is_later line) reason.Later
    ++ when (is_unknown line) reason.Line
    ++ when (is_free draft.mode && orders_steps line) reason.Free
    ++ when (is_setup line && draft.past_setup) reason.Order
    ++ when (not (nat_le (length (with_names draft.sessions (session_names line))) most_sessions)) reason.Sessions
    ++ when (is_misplaced line) reason.Place
    ++ place_reasons line

-- the draft has the parts that lines of these forms say
pub record IsDraftOf (mode : Mode) (forms : List LineForm) (draft : Draft) : Type 0 where
  pub number : draft.number ≡ length forms + 2
  pub mode_is : draft.mode ≡ mode
  pub sessions : draft.sessions ≡ sessions_of forms
  pub catalogue : draft.catalogue ≡ catalogue_of forms
  pub setup : draft.setup ≡ setup_rows_of forms
  pub lines : draft.lines ≡ lines_of forms
  pub past_setup : draft.past_setup ≡ list_any is_other forms

-- the error of a line, if it has one, as the reason to refuse it
abbrev pub errors_in : Option SqlError → List Reason
errors_in None = []
errors_in (Some error) = reason.Error error ∷ []

-- the statement of a setup line was added to the draft
pub record IsSetUp (old : Draft) (tree : StmtTree) (new : Draft) : Type 0 where
  pub number : new.number ≡ old.number
  pub mode_is : new.mode ≡ old.mode
  pub sessions : new.sessions ≡ old.sessions
  pub catalogue : new.catalogue ≡ with_table old.catalogue (declaration old.catalogue tree)
  pub setup : new.setup ≡ old.setup ++ option_to_list (setup_insert old.number (analysis old.catalogue tree))
  pub lines : new.lines ≡ old.lines
  pub past_setup : new.past_setup ≡ old.past_setup

-- the line that gives a statement to the session of that name, over these sessions and tables
abbrev pub line_given : Draft → List ℕ → StmtTree → Option Line
line_given draft name tree =
    given_line draft.sessions draft.number name (given_statement (analysis draft.catalogue tree))

-- the statement of a session's line was added to the draft
pub record IsGiven (old : Draft) (name : List ℕ) (tree : StmtTree) (new : Draft) : Type 0 where
  pub number : new.number ≡ old.number
  pub mode_is : new.mode ≡ old.mode
  pub sessions : new.sessions ≡ old.sessions
  pub catalogue : new.catalogue ≡ old.catalogue
  pub setup : new.setup ≡ old.setup
  pub lines : new.lines ≡ old.lines ++ option_to_list (line_given old name tree)
  pub past_setup : new.past_setup ≡ old.past_setup

-- what a line of that form says was added to a draft that has its session
pub record IsFilled (old : Draft) (line : LineForm) (new : Draft) : Type 0 where
  pub number : new.number ≡ old.number
  pub mode_is : new.mode ≡ old.mode
  pub sessions : new.sessions ≡ old.sessions
  pub catalogue : new.catalogue ≡ tables_behind old.catalogue line
  pub setup : new.setup ≡ old.setup ++ option_to_list (setup_in old.catalogue old.number line)
  pub lines : new.lines ≡ old.lines ++ option_to_list (line_in old.sessions old.catalogue old.number line)
  pub past_setup : new.past_setup ≡ old.past_setup

-- a line of that form was added to the draft
pub record IsAdded (old : Draft) (line : LineForm) (new : Draft) : Type 0 where
  pub number : new.number ≡ old.number + 1
  pub mode_is : new.mode ≡ old.mode
  pub sessions : new.sessions ≡ with_names old.sessions (session_names line)
  pub catalogue : new.catalogue ≡ tables_behind old.catalogue line
  pub setup : new.setup ≡ old.setup ++ option_to_list (setup_in old.catalogue old.number line)
  pub lines : new.lines ≡ old.lines ++ option_to_list (line_in new.sessions old.catalogue old.number line)
  pub past_setup : new.past_setup ≡ (old.past_setup || is_other line)

-- the line has a form for which it is not refused behind those of the draft, and was added to the draft
pub record IsTaken (old : Draft) (line : List ℕ) (new : Draft) : Type 0 where
  pub form : LineForm
  pub formed : IsFormOf 1 line form
  pub early : early_reasons old form ≡ []
  pub late : setup_reasons old.catalogue form ≡ []
  pub added : IsAdded old form new

-- the line has a form for which it is refused behind those of the draft, and this is the first reason
pub record IsRefusedBehind (draft : Draft) (line : List ℕ) (why : Reason) : Type 0 where
  pub form : LineForm
  pub formed : IsFormOf 1 line form
  pub first : first_of (early_reasons draft form ++ setup_reasons draft.catalogue form) ≡ Some why

-- the lines were taken one behind the other
abbrev pub AreTaken : Draft → List (List ℕ) → Draft → Type 0
AreTaken old [] new = new ≡ old
AreTaken old (line ∷ lines) new = (middle : Draft) × IsTaken old line middle × AreTaken middle lines new

-- of these lines those before the rest were taken
pub record IsReadTo (old : Draft) (lines : List (List ℕ)) (rest : List (List ℕ)) (new : Draft) : Type 0 where
  pub before : List (List ℕ)
  pub split : lines ≡ before ++ rest
  pub taken : AreTaken old before new

-- of these lines some were taken, and the next is refused
pub record IsStopped (old : Draft) (lines : List (List ℕ)) (number : ℕ) (why : Reason) : Type 0 where
  pub line : List ℕ
  pub after : List (List ℕ)
  pub draft : Draft
  pub reached : IsReadTo old lines (line ∷ after) draft
  pub number_is : number ≡ draft.number
  pub refused : IsRefusedBehind draft line why

-- the answer for a line of that form behind a draft: it was added, or this is the first reason to refuse it; memory
-- alone is free
abbrev pub IsFormAnswer : Draft → LineForm → Draft → Result (Unit {0}) ScriptFault → Type 0
IsFormAnswer old form new (Ok done) =
    (early_reasons old form ≡ []) × (setup_reasons old.catalogue form ≡ []) × IsAdded old form new
IsFormAnswer old form new (Err (script_fault.Refused number why)) =
    (number ≡ old.number) × (first_of (early_reasons old form ++ setup_reasons old.catalogue form) ≡ Some why)
IsFormAnswer old form new (Err script_fault.Memory) = Unit {0}

-- the same for a line
abbrev pub IsLineAnswer : Draft → List ℕ → Draft → Result (Unit {0}) ScriptFault → Type 0
IsLineAnswer old line new (Ok done) = IsTaken old line new
IsLineAnswer old line new (Err (script_fault.Refused number why)) = (number ≡ old.number) × IsRefusedBehind old line why
IsLineAnswer old line new (Err script_fault.Memory) = Unit {0}

-- and for lines: all were taken, or this is the first that is refused
abbrev pub IsLinesAnswer : Draft → List (List ℕ) → Draft → Result (Unit {0}) ScriptFault → Type 0
IsLinesAnswer old lines new (Ok done) = AreTaken old lines new
IsLinesAnswer old lines new (Err (script_fault.Refused number why)) = IsStopped old lines number why
IsLinesAnswer old lines new (Err script_fault.Memory) = Unit {0}

-- nothing but the header was read
abbrev pub empty_draft : Mode → Draft
empty_draft mode =
    record { number = 2; mode = mode; sessions = []; catalogue = []; setup = []; lines = []; past_setup = false }

-- the script has the parts of the draft
pub record HasParts (draft : Draft) (script : Script) : Type 0 where
  pub version : script.version ≡ 1
  pub mode_is : script.mode ≡ draft.mode
  pub sessions : script.sessions ≡ draft.sessions
  pub catalogue : script.catalogue ≡ draft.catalogue
  pub setup : script.setup ≡ draft.setup
  pub lines : script.lines ≡ draft.lines

-- the answer for the lines behind the first: a script with the parts of a draft to which all were added, or the first
-- that is refused
abbrev pub IsBodyAnswer : Mode → List (List ℕ) → Result Script ScriptFault → Type 0
IsBodyAnswer mode lines (Ok script) = (draft : Draft) × AreTaken (empty_draft mode) lines draft × HasParts draft script
IsBodyAnswer mode lines (Err (script_fault.Refused number why)) = IsStopped (empty_draft mode) lines number why
IsBodyAnswer mode lines (Err script_fault.Memory) = Unit {0}
