-- What an open statement may do next: its choices, of which an empty list says that it is done.
use Rattle.std.specs.Prelude.{ℕ, List, [], ◌∷◌, length, Option, None, Some, Ok, Err}
use Rattle.pg_lists.specs.Numbered.{item_at}
use Rattle.pg_xacts.specs.Transactions.{Transactions}
use Rattle.pg_model.specs.declared.journal.EntryAct.TheVariants as entry
use Rattle.pg_model.specs.declared.statement.Statement.{Statement}
use Rattle.pg_model.specs.declared.statement.Statement.TheVariants as statement
use Rattle.pg_world.specs.declared.candidate.Candidate.{Candidate}
use Rattle.pg_world.specs.Changes.{change_choices_at}
use Rattle.pg_world.specs.Choosing.{Choice, candidate_choices, does, fails}
use Rattle.pg_world.specs.Evaluation.{OrError}
use Rattle.pg_world.specs.declared.session.Running.{Running}
use Rattle.pg_world.specs.declared.session.Stage.{Stage}
use Rattle.pg_world.specs.declared.session.Stage.TheVariants.{Between as between, Found as found, Locked as locked, Placed as placed}
use Rattle.pg_world.specs.declared.table.TableView.{TableView}
use Rattle.pg_world.specs.Tables.{next_row}

-- the proposed row draws the next number of its table
abbrev pub placing_choices : ℕ → Option TableView → List Choice
placing_choices number (Some table) = does (entry.Placed number (next_row table)) ∷ []
placing_choices number None = []

-- an INSERT takes up each candidate, places its row, and inserts what is placed
abbrev pub insert_choices : ℕ → List TableView → Running → ℕ → Stage → List Choice
insert_choices number tables running count between = candidate_choices running.candidate count
insert_choices number tables running count found = placing_choices number (item_at tables number)
insert_choices number tables running count (locked name) = []
insert_choices number tables running count (placed row) = does (entry.Inserted number row) ∷ []

-- the choices of each form of statement with its candidates; a plain SELECT is answered from its
-- snapshot, and has none
abbrev pub choices_with : Statement → List TableView → Transactions → Running → List Candidate →
    List Choice
choices_with (statement.Insert insert) tables transactions running candidates =
    insert_choices insert.target.table tables running (length candidates) running.stage
choices_with (statement.Change change) tables transactions running candidates =
    change_choices_at change tables transactions running (length candidates) running.stage
choices_with (statement.Select select) tables transactions running candidates = []
choices_with statement.Begin tables transactions running candidates = []
choices_with statement.Commit tables transactions running candidates = []
choices_with statement.Rollback tables transactions running candidates = []

-- where the candidates have an error, the statement fails with it
abbrev pub choices_by : Statement → List TableView → Transactions → Running →
    OrError (List Candidate) → List Choice
choices_by given tables transactions running (Err error) = fails error ∷ []
choices_by given tables transactions running (Ok candidates) =
    choices_with given tables transactions running candidates

-- what a statement may do next, by the tables, the transactions and its own progress
abbrev pub choices : Statement → List TableView → Transactions → Running → List Choice
choices given tables transactions running =
    choices_by given tables transactions running running.candidates
