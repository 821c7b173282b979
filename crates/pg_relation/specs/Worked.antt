-- Examples worked by hand: a block with a COMMIT, a block that fails, a SELECT that does not see a
-- row before its transaction commits, an INSERT that leaves out a column, and blocks that are
-- undone.
use Rattle.std.specs.Prelude.{ℕ, ◌≡◌, List, [], ◌∷◌, ◌++◌, codes, flat_map, map, Ok, pos}
use Rattle.pg_values.specs.declared.value.Value.{Value}
use Rattle.pg_values.specs.declared.value.Value.TheVariants.{Big}
use Rattle.pg_exprs.specs.Tree.{literal}
use Rattle.pg_xacts.specs.declared.transaction.XStatus.TheVariants.{RolledBack as IsRolledBack}
use Rattle.pg_xacts.specs.Transactions.{Transactions}
use Rattle.pg_model.specs.declared.error.SqlError.TheVariants.{Aborted, IntRange}
use Rattle.pg_model.specs.declared.journal.Entry.{Entry}
use Rattle.pg_model.specs.declared.journal.EntryAct.{EntryAct}
use Rattle.pg_model.specs.declared.journal.EntryAct.TheVariants.{Snapped, Found, Placed, Inserted, Committed, RolledBack, Replied, Failed, Closed}
use Rattle.pg_model.specs.declared.journal.Tag.{Tag}
use Rattle.pg_model.specs.declared.journal.Tag.TheVariants as tag
use Rattle.pg_model.specs.declared.script.Content.TheVariants.{Given}
use Rattle.pg_model.specs.declared.script.Line.{Line}
use Rattle.pg_model.specs.declared.script.Mode.TheVariants.{Stepped}
use Rattle.pg_model.specs.declared.script.Script.{Script}
use Rattle.pg_model.specs.declared.script.SetupInsert.{SetupInsert}
use Rattle.pg_model.specs.declared.statement.Statement.{Statement}
use Rattle.pg_model.specs.declared.statement.Statement.TheVariants as statement
use Rattle.pg_model.specs.Scripts.{IsScript}
use Rattle.pg_model.specs.Texts.{with_line_end}
use Rattle.pg_world.specs.declared.table.TableView.{TableView}
use Rattle.pg_world.specs.Worked.{insert_key, insert_of, int, select_all, select_next, sum_of, table_t}
use Rattle.pg_relation.specs.Journals.{IsComplete, IsLegal, world_after}
use Rattle.pg_relation.specs.Printed.{printed_text}
use Rattle.pg_relation.specs.Stepped.{IsStepped}

-- a line of that number gives a statement to a session
abbrev pub line_of : ℕ → ℕ → Statement → Line
line_of number session given = record { number = number; content = Given session (Ok given) }

-- a script over the table t: the names of its sessions, its setup INSERTs and its lines
pub record Draft : Type 0 where
  pub sessions : List (List ℕ)
  pub setup : List SetupInsert
  pub lines : List Line

-- the parts fit together
abbrev pub IsDraft : Draft → Type 0
IsDraft draft = IsScript draft.sessions (table_t ∷ []) draft.setup draft.lines

-- and make a stepped script
abbrev pub script_of : (draft : Draft) → IsDraft draft → Script
script_of draft valid =
    record {
      version = 1;
      mode = Stepped;
      sessions = draft.sessions;
      catalogue = table_t ∷ [];
      setup = draft.setup;
      lines = draft.lines;
      valid = valid;
    }

-- the one complete stepped journal of a script, and the text of its run, line by line
pub record IsWorked (draft : Draft) (journal : List Entry) (lines : List (List ℕ)) : Type 0 where
  pub valid : IsDraft draft
  pub legal : IsLegal (script_of draft valid) journal
  pub complete : IsComplete (script_of draft valid) journal
  pub stepped : IsStepped (script_of draft valid) journal
  pub text : printed_text (script_of draft valid) journal ≡ flat_map with_line_end lines

-- the tables and the transactions that the journal of a script leaves
pub record IsLeft (draft : Draft) (journal : List Entry) (tables : List TableView)
    (transactions : Transactions) : Type 0 where
  pub valid : IsDraft draft
  pub tables_are : (world_after (script_of draft valid) journal).tables ≡ tables
  pub transactions_are : (world_after (script_of draft valid) journal).transactions ≡ transactions

-- the acts of a session
abbrev pub by : ℕ → List EntryAct → List Entry
by session acts = map (λ act. record { session = session; act = act }) acts

-- an answer with these rows
abbrev pub answer : Tag → List (List Value) → EntryAct
answer tag rows = Replied (record { tag = tag; rows = rows })

-- a row of two bigints
abbrev pub big_row : ℕ → ℕ → List Value
big_row key value = Big (pos key) ∷ Big (pos value) ∷ []

-- A block with a COMMIT.
abbrev pub own_block : Draft
own_block =
    record {
      sessions = codes "a" ∷ [];
      setup = [];
      lines =
          line_of 3 0 statement.Begin
          ∷ line_of 4 0 (statement.Insert (insert_of (literal (int 1)) (literal (int 10))))
          ∷ line_of 5 0 statement.Commit ∷ [];
    }

-- BEGIN is answered alone; the INSERT opens the transaction; COMMIT ends it, and is then answered
abbrev pub own_block_journal : List Entry
own_block_journal =
    by 0
    (answer tag.Begin []
    ∷ Snapped 0 ∷ Found 1 ∷ Placed 0 1 ∷ Inserted 0 1 ∷ answer (tag.Insert 1) []
    ∷ Committed ∷ answer tag.Commit [] ∷ Closed ∷ [])

-- what is printed
abbrev pub own_block_lines : List (List ℕ)
own_block_lines =
    codes "a: BEGIN" ∷ codes "a: INSERT 0 1" ∷ codes "a: COMMIT" ∷ codes "table t"
    ∷ codes "1|10" ∷ []

-- A block that fails: 2147483647 + 1 is out of range.
abbrev pub failing_block : Draft
failing_block =
    record {
      sessions = codes "a" ∷ [];
      setup = [];
      lines =
          line_of 3 0 statement.Begin
          ∷ line_of 4 0 (statement.Insert (insert_of (literal (int 1)) (literal (int 10))))
          ∷ line_of 5 0
          (statement.Insert (insert_of (sum_of 2147483647 1) (literal (int 1))))
          ∷ line_of 6 0 (statement.Select select_all)
          ∷ line_of 7 0 statement.Commit ∷ [];
    }

-- the error ends the transaction, and the row is gone; the SELECT is refused; COMMIT is a ROLLBACK
abbrev pub failing_block_journal : List Entry
failing_block_journal =
    by 0
    (answer tag.Begin []
    ∷ Snapped 0 ∷ Found 1 ∷ Placed 0 1 ∷ Inserted 0 1 ∷ answer (tag.Insert 1) []
    ∷ Snapped 0 ∷ Failed IntRange ∷ Failed Aborted ∷ answer tag.Rollback [] ∷ Closed ∷ [])

-- what is printed
abbrev pub failing_block_lines : List (List ℕ)
failing_block_lines =
    codes "a: BEGIN" ∷ codes "a: INSERT 0 1" ∷ codes "a: ERROR 22003: integer out of range"
    ∷ (codes "a: ERROR 25P02: current transaction is aborted, "
    ++ codes "commands ignored until end of transaction block")
    ∷ codes "a: ROLLBACK" ∷ codes "table t" ∷ []

-- the table has drawn a number, and that row has no version
abbrev pub failing_block_tables : List TableView
failing_block_tables =
    record { rows = record { number = 1; versions = [] } ∷ []; placed = []; locks = [] ∷ [] } ∷ []

-- the transaction was rolled back
abbrev pub failing_block_transactions : Transactions
failing_block_transactions =
    record { list = record { session = 0; status = IsRolledBack } ∷ []; commits = 0 }

-- A SELECT that does not see a row before its transaction commits; setup has inserted (1, 10).
abbrev pub uncommitted_row : Draft
uncommitted_row =
    record {
      sessions = codes "a" ∷ codes "b" ∷ [];
      setup = record { number = 3; insert = insert_of (literal (int 1)) (literal (int 10)) } ∷ [];
      lines =
          line_of 4 0 statement.Begin
          ∷ line_of 5 0 (statement.Insert (insert_of (literal (int 2)) (literal (int 20))))
          ∷ line_of 6 1 (statement.Select select_all)
          ∷ line_of 7 0 statement.Commit
          ∷ line_of 8 1 (statement.Select select_all) ∷ [];
    }

-- the first SELECT is itself the first commit; the second sees both commits
abbrev pub uncommitted_row_journal : List Entry
uncommitted_row_journal =
    by 0
    (answer tag.Begin []
    ∷ Snapped 0 ∷ Found 1 ∷ Placed 0 2 ∷ Inserted 0 2 ∷ answer (tag.Insert 1) [] ∷ [])
    ++ (by 1 (Snapped 0 ∷ Committed ∷ answer (tag.Select 1) (big_row 1 10 ∷ []) ∷ [])
    ++ (by 0 (Committed ∷ answer tag.Commit [] ∷ [])
    ++ (by 1 (Snapped 2 ∷ Committed ∷ answer (tag.Select 2) (big_row 1 10 ∷ big_row 2 20 ∷ []) ∷ [])
    ++ (by 0 (Closed ∷ []) ++ by 1 (Closed ∷ [])))))

-- what is printed
abbrev pub uncommitted_row_lines : List (List ℕ)
uncommitted_row_lines =
    codes "a: BEGIN" ∷ codes "a: INSERT 0 1" ∷ codes "b> 1|10" ∷ codes "b: SELECT 1"
    ∷ codes "a: COMMIT" ∷ codes "b> 1|10" ∷ codes "b> 2|20" ∷ codes "b: SELECT 2"
    ∷ codes "table t" ∷ codes "1|10" ∷ codes "2|20" ∷ []

-- An INSERT that leaves out a column, and a SELECT with a WHERE.
abbrev pub listed_columns : Draft
listed_columns =
    record {
      sessions = codes "a" ∷ [];
      setup = record { number = 3; insert = insert_of (literal (int 2)) (literal (int 20)) } ∷ [];
      lines =
          line_of 4 0 (statement.Insert insert_key)
          ∷ line_of 5 0 (statement.Select select_next) ∷ [];
    }

-- the column left out takes its default; the SELECT returns the row of which its WHERE is true
abbrev pub listed_columns_journal : List Entry
listed_columns_journal =
    by 0
    (Snapped 0 ∷ Found 1 ∷ Placed 0 2 ∷ Inserted 0 2 ∷ Committed ∷ answer (tag.Insert 1) []
    ∷ Snapped 1 ∷ Committed ∷ answer (tag.Select 1) ((Big (pos 8) ∷ []) ∷ []) ∷ Closed ∷ [])

-- what is printed
abbrev pub listed_columns_lines : List (List ℕ)
listed_columns_lines =
    codes "a: INSERT 0 1" ∷ codes "a> 8" ∷ codes "a: SELECT 1" ∷ codes "table t" ∷ codes "2|20"
    ∷ codes "1|7" ∷ []

-- A block that is rolled back, and one that its session leaves open.
abbrev pub undone_blocks : Draft
undone_blocks =
    record {
      sessions = codes "a" ∷ [];
      setup = [];
      lines =
          line_of 3 0 statement.Begin
          ∷ line_of 4 0 (statement.Insert (insert_of (literal (int 1)) (literal (int 10))))
          ∷ line_of 5 0 statement.Rollback
          ∷ line_of 6 0 statement.Begin
          ∷ line_of 7 0 (statement.Insert (insert_of (literal (int 2)) (literal (int 20)))) ∷ [];
    }

-- ROLLBACK ends the transaction, and is then answered; the second row draws the next number; and
-- the end of the session ends the second transaction
abbrev pub undone_blocks_journal : List Entry
undone_blocks_journal =
    by 0
    (answer tag.Begin []
    ∷ Snapped 0 ∷ Found 1 ∷ Placed 0 1 ∷ Inserted 0 1 ∷ answer (tag.Insert 1) []
    ∷ RolledBack ∷ answer tag.Rollback []
    ∷ answer tag.Begin []
    ∷ Snapped 0 ∷ Found 1 ∷ Placed 0 2 ∷ Inserted 0 2 ∷ answer (tag.Insert 1) [] ∷ Closed ∷ [])

-- what is printed
abbrev pub undone_blocks_lines : List (List ℕ)
undone_blocks_lines =
    codes "a: BEGIN" ∷ codes "a: INSERT 0 1" ∷ codes "a: ROLLBACK" ∷ codes "a: BEGIN"
    ∷ codes "a: INSERT 0 1" ∷ codes "table t" ∷ []

-- the table has drawn two numbers, and neither row has a version
abbrev pub undone_blocks_tables : List TableView
undone_blocks_tables =
    record {
      rows = record { number = 1; versions = [] } ∷ record { number = 2; versions = [] } ∷ [];
      placed = [];
      locks = [] ∷ [] ∷ [];
    }
    ∷ []

-- both transactions were rolled back
abbrev pub undone_blocks_transactions : Transactions
undone_blocks_transactions =
    record {
      list =
          record { session = 0; status = IsRolledBack }
          ∷ record { session = 0; status = IsRolledBack } ∷ [];
      commits = 0;
    }
