-- Why a line is refused: all reasons that apply, in the order in which they count. The first is the answer.
use Rattle.std.specs.Prelude.{Bool, true, false, not, ◌&&◌, ◌||◌, nat_le, List, [], ◌∷◌, ◌++◌, length, Result, Ok, Err, if◌then◌else◌}
use Rattle.std.specs.List.{list_any}
use Rattle.std.specs.Option.{is_none}
use Rattle.pg_parse_stmt.specs.declared.tree.Insert.{Insert}
use Rattle.pg_parse_stmt.specs.declared.tree.Rows.{Rows}
use Rattle.pg_parse_stmt.specs.declared.tree.Rows.TheVariants as rows
use Rattle.pg_parse_stmt.specs.declared.tree.StmtTree.{StmtTree}
use Rattle.pg_parse_stmt.specs.declared.tree.StmtTree.TheVariants as stmt
use Rattle.pg_model.specs.declared.catalogue.TableShape.{TableShape}
use Rattle.pg_model.specs.declared.script.Mode.{Mode}
use Rattle.pg_model.specs.declared.script.Mode.TheVariants as mode
use Rattle.pg_model.specs.Limits.{most_sessions}
use Rattle.pg_line.specs.declared.form.LineForm.{LineForm}
use Rattle.pg_line.specs.declared.form.LineForm.TheVariants as form
use Rattle.pg_line.specs.declared.form.PlaceFault.{PlaceFault}
use Rattle.pg_line.specs.declared.form.PlaceFault.TheVariants as place
use Rattle.pg_line.specs.declared.form.SessionName.{SessionName}
use Rattle.pg_resolve.specs.declared.fault.AnalyseFault.{AnalyseFault}
use Rattle.pg_resolve.specs.declared.fault.AnalyseFault.TheVariants as fault
use Rattle.pg_analyse.specs.Analysis.{analysis, declaration}
use Rattle.pg_analyse.specs.Built.{is_empty}
use Rattle.pg_script.specs.declared.fault.Reason.{Reason}
use Rattle.pg_script.specs.declared.fault.Reason.TheVariants as reason
use Rattle.pg_script.specs.Built.{is_later, is_short}
use Rattle.pg_script.specs.Parts.{catalogue_of, sessions_of}

-- the reason, where it applies
abbrev pub when : Bool → Reason → List Reason
when applies reason = if applies then reason ∷ [] else []

-- the line is none of the forms
abbrev pub is_unknown : LineForm → Bool
is_unknown form.Unknown = true
is_unknown _ = false

-- `pause`, `go` and `cut` order the steps of a script, and a free one has none
abbrev pub orders_steps : LineForm → Bool
orders_steps (form.Pause session label) = true
orders_steps (form.Go session) = true
orders_steps (form.Cut session) = true
orders_steps _ = false

-- the sessions of the script take their steps in any order
abbrev pub is_free : Mode → Bool
is_free mode.Free = true
is_free mode.Stepped = false

-- the line is one of setup
abbrev pub is_setup : LineForm → Bool
is_setup (form.Setup statement) = true
is_setup _ = false

-- the line is a comment
abbrev pub is_comment : LineForm → Bool
is_comment form.Comment = true
is_comment _ = false

-- setup lines stand before all others that are no comments
abbrev pub is_late_setup : List LineForm → LineForm → Bool
is_late_setup before line = is_setup line && list_any (λ other. not (is_setup other || is_comment other)) before

-- with the line there are more sessions than may be
abbrev pub has_many_sessions : List LineForm → Bool
has_many_sessions forms = not (nat_le (length (sessions_of forms)) most_sessions)

-- the rows are listed by VALUES
abbrev pub are_values : Rows → Bool
are_values (rows.Values tuples) = true
are_values (rows.Query query) = false

-- an INSERT with VALUES and neither ON CONFLICT nor RETURNING
abbrev pub is_plain_insert : Insert → Bool
is_plain_insert insert = are_values insert.rows && is_none insert.conflict && is_empty insert.returning

-- statements that a setup line may have: CREATE, and plain INSERT
abbrev pub is_of_setup : StmtTree → Bool
is_of_setup (stmt.CreateTable table) = true
is_of_setup (stmt.CreateIndex index) = true
is_of_setup (stmt.Insert insert) = is_plain_insert insert
is_of_setup _ = false

-- and those that a session may be given: all but CREATE
abbrev pub is_of_session : StmtTree → Bool
is_of_session (stmt.CreateTable table) = false
is_of_session (stmt.CreateIndex index) = false
is_of_session _ = true

-- the statement may not stand on a line of this form
abbrev pub is_misplaced : LineForm → Bool
is_misplaced (form.Setup (Ok tree)) = not (is_of_setup tree)
is_misplaced (form.Given session (Ok tree)) = not (is_of_session tree)
is_misplaced _ = false

-- the reason that a place fault is
abbrev pub reason_of_place : PlaceFault → Reason
reason_of_place (place.Byte at) = reason.Byte at
reason_of_place (place.Literal at) = reason.Literal at
reason_of_place (place.LongName at) = reason.LongName at
reason_of_place (place.Syntax at) = reason.Syntax at
reason_of_place (place.Depth at) = reason.Depth at
reason_of_place (place.Items at) = reason.Items at

-- a session's name that is too long, which stands before all else of its line
abbrev pub name_reasons : SessionName → List Reason
name_reasons session = when (not (is_short session)) (reason.LongName session.place)

-- the fault of what stands where a statement is written, if it has one
abbrev pub statement_reasons : Result StmtTree PlaceFault → List Reason
statement_reasons (Ok tree) = []
statement_reasons (Err fault) = reason_of_place fault ∷ []

-- the place faults of a line, the lowest place first
abbrev pub place_reasons : LineForm → List Reason
place_reasons form.Comment = []
place_reasons (form.Setup statement) = statement_reasons statement
place_reasons (form.Given session statement) = name_reasons session ++ statement_reasons statement
place_reasons (form.Pause session label) = name_reasons session
place_reasons (form.Go session) = name_reasons session
place_reasons (form.Cut session) = name_reasons session
place_reasons form.Unknown = []

-- the error that analysis found, if it found one
abbrev pub fault_reasons : {V : Type 0} → Result V AnalyseFault → List Reason
fault_reasons (Ok value) = []
fault_reasons (Err (fault.Error error)) = reason.Error error ∷ []
fault_reasons (Err fault.Later) = []
fault_reasons (Err fault.Memory) = []

-- what analysis finds wrong with a setup line, over the tables of the lines before it
abbrev pub setup_reasons : List TableShape → LineForm → List Reason
setup_reasons catalogue (form.Setup (Ok tree)) =
    fault_reasons (declaration catalogue tree) ++ fault_reasons (analysis catalogue tree)
setup_reasons catalogue _ = []

-- why a line is refused behind lines of these forms, in a script of that mode
abbrev pub reasons_of : Mode → List LineForm → LineForm → List Reason
reasons_of mode before line =
    when (is_later line) reason.Later
    ++ when (is_unknown line) reason.Line
    ++ when (is_free mode && orders_steps line) reason.Free
    ++ when (is_late_setup before line) reason.Order
    ++ when (has_many_sessions (before ++ line ∷ [])) reason.Sessions
    ++ when (is_misplaced line) reason.Place
    ++ place_reasons line
    ++ setup_reasons (catalogue_of before) line
