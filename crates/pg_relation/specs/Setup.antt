-- The world after setup, or the first error that a setup INSERT raises.
use Rattle.std.specs.Prelude.{ℕ, List, [], ◌∷◌, length, map, Result, Ok, Err}
use Rattle.pg_lists.specs.Numbered.{with_changed_item}
use Rattle.pg_waits.specs.Slots.{no_waits}
use Rattle.pg_xacts.specs.declared.me.Me.{Me}
use Rattle.pg_xacts.specs.Transactions.{no_transactions}
use Rattle.pg_model.specs.declared.error.SqlError.{SqlError}
use Rattle.pg_model.specs.declared.script.Script.{Script}
use Rattle.pg_model.specs.declared.script.SetupInsert.{SetupInsert}
use Rattle.pg_world.specs.declared.candidate.Candidate.{Candidate}
use Rattle.pg_world.specs.Candidates.{insert_candidates}
use Rattle.pg_world.specs.Evaluation.{OrError}
use Rattle.pg_world.specs.Sessions.{fresh_session}
use Rattle.pg_world.specs.declared.table.TableView.{TableView}
use Rattle.pg_world.specs.Tables.{empty_table, row_added}
use Rattle.pg_world.specs.Worlds.{World}

-- the error of a setup INSERT, and the number of its line
pub record SetupError : Type 0 where
  pub line : ℕ
  pub error : SqlError

-- the tables, or the error that setup raises
abbrev pub OrSetupError : Type 0
OrSetupError = Result (List TableView) SetupError

-- setup is transaction 0, which has committed before all others, and of no session
abbrev pub setup_me : Me
setup_me = record { session = 0; xact = 0; command = 0 }

-- the table with the proposed rows, in order
abbrev pub rows_added : List Candidate → TableView → TableView
rows_added [] table = table
rows_added (candidate ∷ candidates) table =
    rows_added candidates (row_added table setup_me candidate.made)

-- the tables behind a setup INSERT: its rows are evaluated first, and then all are added
abbrev pub tables_inserted : List TableView → SetupInsert → OrError (List Candidate) → OrSetupError
tables_inserted tables setup (Ok candidates) =
    Ok (with_changed_item (rows_added candidates) tables setup.insert.target.table)
tables_inserted tables setup (Err error) = Err (record { line = setup.number; error = error })

-- what the other setup lines make of tables, where there was no error
abbrev pub tables_or_error : (List TableView → OrSetupError) → OrSetupError → OrSetupError
tables_or_error others (Ok tables) = others tables
tables_or_error others (Err error) = Err error

-- the tables behind setup INSERTs that run in order, or the first error
abbrev pub tables_set_up : List SetupInsert → List TableView → OrSetupError
tables_set_up [] tables = Ok tables
tables_set_up (setup ∷ others) tables =
    tables_or_error (λ behind. tables_set_up others behind)
    (tables_inserted tables setup (insert_candidates setup.insert))

-- the tables that a script declares, without rows
abbrev pub declared_tables : Script → List TableView
declared_tables script = map (λ shape. empty_table) script.catalogue

-- the tables after the setup of a script, or the first error
unfoldable pub setup_outcome : Script → OrSetupError
setup_outcome script = tables_set_up script.setup (declared_tables script)

-- the tables, where setup raises no error; no run begins where it does
abbrev pub tables_after : Script → OrSetupError → List TableView
tables_after script (Ok tables) = tables
tables_after script (Err error) = declared_tables script

-- the world after setup: no transaction was begun, and each session is before its first line and
-- waits for nobody
abbrev pub first_world : Script → World
first_world script =
    record {
      tables = tables_after script (setup_outcome script);
      transactions = no_transactions;
      sessions = map (λ name. fresh_session) script.sessions;
      waits = no_waits (length script.sessions);
    }
