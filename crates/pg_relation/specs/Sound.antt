-- What holds of each world that a legal journal leaves: how many transactions and commits there
-- are, and where a session can stand.
use Rattle.std.specs.Prelude.{[], ℕ, ◌≡◌, ◌≤◌, ◌<◌, ◌+◌, List, length, None, Some, Ok, sum_by}
use Rattle.pg_lists.specs.Numbered.{item_at}
use Rattle.pg_values.specs.declared.value.Value.{Value}
use Rattle.pg_waits.specs.Cycles.{HasNoCycle}
use Rattle.pg_waits.specs.Slots.{wait_of}
use Rattle.pg_xacts.specs.declared.me.Me.{Me}
use Rattle.pg_xacts.specs.declared.on.On.{On}
use Rattle.pg_xacts.specs.declared.on.Until.TheVariants.{Transaction}
use Rattle.pg_heap.specs.Rows.{row_of}
use Rattle.pg_model.specs.declared.script.Script.{Script}
use Rattle.pg_model.specs.declared.statement.Statement.{Statement}
use Rattle.pg_world.specs.Evaluation.{OrError}
use Rattle.pg_world.specs.declared.session.Progress.{Progress}
use Rattle.pg_world.specs.declared.session.Running.{Running}
use Rattle.pg_world.specs.declared.session.SessionView.{SessionView}
use Rattle.pg_world.specs.declared.session.Progress.TheVariants.{Idle as idle, Inside as inside, Ending as ending, Closed as closed}
use Rattle.pg_world.specs.declared.session.Stage.TheVariants.{Found as found}
use Rattle.pg_world.specs.declared.table.TableView.{TableView}
use Rattle.pg_world.specs.Tables.{placed_at}
use Rattle.pg_world.specs.Worlds.{World, session_of}
use Rattle.pg_relation.specs.Lines.{statements_of}
use Rattle.pg_relation.specs.Weight.{open_count, statements_begun}

-- how many statements of the session have an entry
abbrev pub begun_by : SessionView → ℕ
begun_by session = session.answered + statements_begun session.progress

-- how many transactions of the session are open
abbrev pub open_by : SessionView → ℕ
open_by session = open_count session.transaction

-- a session with these statements, so many of which have a reply: inside a statement it is at one
-- that analysis took, and at its end each has its reply
abbrev pub CanStand : List (OrError Statement) → ℕ → Progress → Type 0
CanStand given answered idle = answered ≤ length given
CanStand given answered (inside running) =
    (statement : Statement) × (item_at given answered ≡ Some (Ok statement))
CanStand given answered (ending tag) = answered < length given
CanStand given answered closed = answered ≡ length given

-- the transactions were begun by statements, those that are open have not committed, there is a
-- slot for the wait of each session, and each session stands where it can: one that has ended has
-- no transaction open
pub record IsSound (script : Script) (world : World) : Type 0 where
  pub tables : length world.tables ≡ length script.catalogue
  pub sessions : length world.sessions ≡ length script.sessions
  pub waits : length world.waits ≡ length script.sessions
  pub begun : length world.transactions.list ≤ sum_by begun_by world.sessions
  pub committed : world.transactions.commits + sum_by open_by world.sessions
      ≤ length world.transactions.list
  pub standing : (number : ℕ) (session : SessionView) → session_of world number ≡ Some session →
      CanStand (statements_of script number) session.answered session.progress
  pub ended : (number : ℕ) (session : SessionView) → session_of world number ≡ Some session →
      session.progress ≡ closed → session.transaction ≡ None

-- the session of that number is inside a statement with its candidate found, and no row of it
-- locked
pub record IsAtFound (world : World) (number : ℕ) : Type 0 where
  pub session : SessionView
  pub is : session_of world number ≡ Some session
  pub running : Running
  pub inside_is : session.progress ≡ inside running
  pub stage_is : running.stage ≡ found

-- the session of that number has a transaction open, and has not ended
pub record HasOpen (world : World) (number : ℕ) : Type 0 where
  pub session : SessionView
  pub is : session_of world number ≡ Some session
  pub xact : ℕ
  pub open_is : session.transaction ≡ Some xact
  pub unended : session.progress ≡ closed → ⊥

-- who waits is inside a statement with its candidate found, and waits for the end of a transaction
-- that is open; and the waits form no cycle
pub record HasSoundWaits (world : World) : Type 0 where
  pub standing : (number : ℕ) (on : On) → wait_of world.waits number ≡ Some on →
      IsAtFound world number
  pub for_open : (number : ℕ) (on : On) → wait_of world.waits number ≡ Some on →
      HasOpen world on.session
  pub until_is : (number : ℕ) (on : On) → wait_of world.waits number ≡ Some on →
      on.until ≡ Transaction
  pub acyclic : HasNoCycle world.waits

-- no more transactions and commits than 32 sessions with 1048576 statements each can begin
pub record IsBounded (world : World) : Type 0 where
  pub transactions : length world.transactions.list ≤ 33554432
  pub commits : world.transactions.commits ≤ 33554432

-- a proposed row waits in its table: under the number that it drew, with its values, and it has no
-- version yet
pub record IsWaiting (table : TableView) (row : ℕ) (me : Me) (values : List Value) : Type 0 where
  pub placed : placed_at table.placed row ≡ Some (record { row = row; me = me; values = values })
  pub fresh : row_of table.rows row ≡ Some (record { number = row; versions = [] })
