-- What lines say together: the sessions in order of first appearance, the tables that they declare, and the rest of the
-- script over these.
use Rattle.std.specs.Prelude.{ℕ, suc, List, [], ◌∷◌, ◌++◌, filter_map, flat_map, Option, Some, None, Result, Ok, Err, unwrap_or}
use Rattle.pg_names.specs.Names.{number_of}
use Rattle.pg_model.specs.declared.catalogue.TableShape.{TableShape}
use Rattle.pg_model.specs.declared.error.SqlError.{SqlError}
use Rattle.pg_model.specs.declared.script.Content.TheVariants as content
use Rattle.pg_model.specs.declared.script.Line.{Line}
use Rattle.pg_model.specs.declared.script.SetupInsert.{SetupInsert}
use Rattle.pg_model.specs.declared.statement.Statement.{Statement}
use Rattle.pg_model.specs.declared.statement.Statement.TheVariants as statement
use Rattle.pg_line.specs.declared.form.LineForm.{LineForm}
use Rattle.pg_line.specs.declared.form.LineForm.TheVariants as form
use Rattle.pg_resolve.specs.declared.fault.AnalyseFault.{AnalyseFault}
use Rattle.pg_resolve.specs.declared.fault.AnalyseFault.TheVariants as fault
use Rattle.pg_analyse.specs.Analysis.{analysis, declaration}
use Rattle.pg_script.specs.Appearances.{first_appearances}

-- a line of a form, with its number
pub record Numbered : Type 0 where
  pub number : ℕ
  pub form : LineForm

-- the lines of these forms, numbered from the number given
abbrev pub numbered_from : ℕ → List LineForm → List Numbered
numbered_from number [] = []
numbered_from number (form ∷ forms) = record { number = number; form = form } ∷ numbered_from (suc number) forms

-- line 1 is the header
abbrev pub numbered_lines : List LineForm → List Numbered
numbered_lines forms = numbered_from 2 forms

-- the session that a line names, if it names one
abbrev pub session_names : LineForm → List (List ℕ)
session_names form.Comment = []
session_names (form.Setup tree) = []
session_names (form.Given session tree) = session.name ∷ []
session_names (form.Pause session label) = session.name ∷ []
session_names (form.Go session) = session.name ∷ []
session_names (form.Cut session) = session.name ∷ []
session_names form.Unknown = []

-- the sessions that the lines name
abbrev pub sessions_of : List LineForm → List (List ℕ)
sessions_of forms = first_appearances (flat_map session_names forms)

-- the tables with one more, where a declaration is one without an error
abbrev pub with_table : List TableShape → Result TableShape AnalyseFault → List TableShape
with_table catalogue (Ok shape) = catalogue ++ shape ∷ []
with_table catalogue (Err fault) = catalogue

-- the tables behind a line of that form, by those before it
abbrev pub tables_behind : List TableShape → LineForm → List TableShape
tables_behind catalogue (form.Setup (Ok tree)) = with_table catalogue (declaration catalogue tree)
tables_behind catalogue (form.Setup (Err fault)) = catalogue
tables_behind catalogue form.Comment = catalogue
tables_behind catalogue (form.Given session tree) = catalogue
tables_behind catalogue (form.Pause session label) = catalogue
tables_behind catalogue (form.Go session) = catalogue
tables_behind catalogue (form.Cut session) = catalogue
tables_behind catalogue form.Unknown = catalogue

-- the tables that lines declare behind those given, each over the tables before it
abbrev pub tables_from : List TableShape → List LineForm → List TableShape
tables_from catalogue [] = catalogue
tables_from catalogue (form ∷ forms) = tables_from (tables_behind catalogue form) forms

-- the tables that lines declare
abbrev pub catalogue_of : List LineForm → List TableShape
catalogue_of forms = tables_from [] forms

-- an INSERT without errors as one of setup
abbrev pub setup_insert : ℕ → Result Statement AnalyseFault → Option SetupInsert
setup_insert number (Ok (statement.Insert insert)) = Some (record { number = number; insert = insert })
setup_insert number _ = None

-- the INSERT of a setup line, over these tables
abbrev pub setup_in : List TableShape → ℕ → LineForm → Option SetupInsert
setup_in catalogue number (form.Setup (Ok tree)) = setup_insert number (analysis catalogue tree)
setup_in catalogue number _ = None

-- a statement that a session is given: analysed, or the first error; what is left for later is on no line of a script
abbrev pub given_statement : Result Statement AnalyseFault → Option (Result Statement SqlError)
given_statement (Ok statement) = Some (Ok statement)
given_statement (Err (fault.Error error)) = Some (Err error)
given_statement (Err fault.Later) = None
given_statement (Err fault.Memory) = None

-- the line of a script that gives a statement to the session of that name
abbrev pub given_line : List (List ℕ) → ℕ → List ℕ → Option (Result Statement SqlError) → Option Line
given_line sessions number name None = None
given_line sessions number name (Some statement) =
    Some (record { number = number; content = content.Given (unwrap_or (number_of sessions name) 0) statement })

-- what a line gives to its session, over these sessions and tables
abbrev pub line_in : List (List ℕ) → List TableShape → ℕ → LineForm → Option Line
line_in sessions catalogue number (form.Given session (Ok tree)) =
    given_line sessions number session.name (given_statement (analysis catalogue tree))
line_in sessions catalogue number _ = None

-- the INSERTs of the setup lines, in order, over all tables that the lines declare
abbrev pub setup_rows_of : List LineForm → List SetupInsert
setup_rows_of forms = filter_map (λ line. setup_in (catalogue_of forms) line.number line.form) (numbered_lines forms)

-- the lines that give statements to sessions, in order
abbrev pub lines_of : List LineForm → List Line
lines_of forms =
    filter_map (λ line. line_in (sessions_of forms) (catalogue_of forms) line.number line.form) (numbered_lines forms)
