-- What a server keeps, and when it stands for a world: a statement that still reads its tables has
-- in the world the candidates that it will have.
use Rattle.std.specs.Prelude.{ℕ, ◌≡◌, Bool, true, false, List, [], length, map, Option, None, Some, Ok}
use Rattle.pg_lists.specs.Numbered.{item_at}
use Rattle.pg_xacts.specs.Transactions.{Transactions, no_transactions}
use Rattle.pg_waits.specs.Slots.{no_waits}
use Rattle.pg_model.specs.declared.script.Script.{Script}
use Rattle.pg_model.specs.declared.statement.Change.{Change}
use Rattle.pg_model.specs.declared.statement.Statement.{Statement}
use Rattle.pg_model.specs.declared.statement.Statement.TheVariants as statement
use Rattle.pg_world.specs.declared.candidate.Candidate.{Candidate}
use Rattle.pg_world.specs.declared.placed.PlacedRow.{PlacedRow}
use Rattle.pg_world.specs.declared.session.Block.TheVariants.{NoBlock}
use Rattle.pg_world.specs.declared.session.Progress.{Progress}
use Rattle.pg_world.specs.declared.session.Progress.TheVariants.{Idle as idle, Inside as inside, Ending as ending, Closed as closed}
use Rattle.pg_world.specs.declared.session.Running.{Running}
use Rattle.pg_world.specs.declared.session.SessionView.{SessionView}
use Rattle.pg_world.specs.Candidates.{tables_read}
use Rattle.pg_world.specs.Evaluation.{OrError}
use Rattle.pg_world.specs.Sessions.{first_running}
use Rattle.pg_world.specs.Worlds.{World}
use Rattle.pg_relation.specs.Lines.{statement_at}
use Rattle.pg_relation.specs.Setup.{setup_outcome}
use Rattle.pg_scans.specs.Readings.{AreTables, IsReading, ReadingView}
use Rattle.pg_table.specs.States.{TableState, table_shown}
use Rattle.pg_update.specs.Steps.{ChangeView, IsHolding, IsStaged, staged_in, target_in}
use Rattle.pg_board.specs.declared.server.Server.{Server}
use Rattle.pg_board.specs.declared.session.Machine.{Machine}
use Rattle.pg_board.specs.declared.session.Machine.TheVariants as machine_of
use Rattle.pg_board.specs.declared.session.Place.{Place}
use Rattle.pg_board.specs.declared.session.Place.TheVariants as place_of
use Rattle.pg_board.specs.declared.session.Session.{Session}
use Rattle.pg_board.specs.Loaded.{AreLoaded}

-- how far the statement of a machine has come, as far as the machine keeps it
abbrev pub running_of : Machine → Running
running_of (machine_of.Insert insert) = insert
running_of (machine_of.Select select) = select.running
running_of (machine_of.Change change) = change.running

-- what the machine still reads, if it does
abbrev pub reading_of : Machine → Option ReadingView
reading_of (machine_of.Insert insert) = None
reading_of (machine_of.Select select) = select.reading
reading_of (machine_of.Change change) = change.reading

-- whether the new values of the row that it has locked are staged
abbrev pub has_staged : Machine → Bool
has_staged (machine_of.Insert insert) = false
has_staged (machine_of.Select select) = false
has_staged (machine_of.Change change) = change.staged

-- the statement is of the machine's kind
abbrev pub IsOfKind : Machine → Statement → Type 0
IsOfKind (machine_of.Insert machine) (statement.Insert insert) = Unit {0}
IsOfKind (machine_of.Select machine) (statement.Select select) = Unit {0}
IsOfKind (machine_of.Change machine) (statement.Change change) = Unit {0}
IsOfKind _ _ = ⊥

-- where a session stands, as far as the server keeps it
abbrev pub kept_progress : Place → Progress
kept_progress place_of.Idle = idle
kept_progress (place_of.Inside machine) = inside (running_of machine)
kept_progress (place_of.Ending tag) = ending tag
kept_progress place_of.Closed = closed

-- a session, as far as the server keeps it
abbrev pub kept_session : Session → SessionView
kept_session session =
    record {
      answered = session.answered;
      block = session.block;
      transaction = session.transaction;
      command = session.command;
      progress = kept_progress session.place;
    }

-- the world, as far as the server keeps it
abbrev pub kept_world : Server → World
kept_world server =
    record {
      tables = map table_shown server.tables;
      transactions = server.xacts;
      sessions = map kept_session server.sessions;
      waits = server.waits;
    }

-- a statement that has just taken its snapshot to read its tables, with these candidates
abbrev pub begun_running : ReadingView → OrError (List Candidate) → Running
begun_running reading candidates = first_running reading.me reading.snapshot.commits candidates

-- while a statement reads, it reads its tables, has collected what it sees of them, and has no
-- candidates yet
pub record IsReadingBy (tables : List TableState) (transactions : Transactions) (given : Statement)
    (kept : Running) (reading : ReadingView) : Type 0 where
  pub tables_are : reading.tables ≡ tables_read given
  pub collected : IsReading tables transactions reading
  pub begun : kept ≡ begun_running reading (Ok [])

-- in the world it has its candidates
pub record IsBegun (tables : List TableState) (transactions : Transactions) (given : Statement)
    (kept : Running) (reading : ReadingView) (shown : Running) : Type 0 where
  pub reads : IsReadingBy tables transactions given kept reading
  pub shown_is : shown ≡ begun_running reading shown.candidates

-- how far a statement has come in the world, by what its machine keeps
abbrev pub IsRunningOf : List TableState → Transactions → Statement → Running →
    Option ReadingView → Running → Type 0
IsRunningOf tables transactions given kept None shown = shown ≡ kept
IsRunningOf tables transactions given kept (Some reading) shown =
    IsBegun tables transactions given kept reading shown

-- what an UPDATE says to have staged is staged in its table
abbrev pub IsStagedBy : List TableState → Transactions → Statement → Machine → Type 0
IsStagedBy tables transactions (statement.Change change) (machine_of.Change machine) =
    machine.staged ≡ true → IsStaged change tables transactions machine.running
IsStagedBy tables transactions _ _ = Unit {0}

-- a machine for a statement stands for how far that has come in the world
pub record IsMachineOf (tables : List TableState) (transactions : Transactions) (given : Statement)
    (machine : Machine) (shown : Running) : Type 0 where
  pub kind : IsOfKind machine given
  pub running : IsRunningOf tables transactions given (running_of machine) (reading_of machine)
      shown
  pub staged : IsStagedBy tables transactions given machine

-- what holds of a machine while it reads
abbrev pub IsReadingOf : List TableState → Transactions → Statement → Running →
    Option ReadingView → Type 0
IsReadingOf tables transactions given kept None = Unit {0}
IsReadingOf tables transactions given kept (Some reading) =
    IsReadingBy tables transactions given kept reading

-- what holds of the row that an UPDATE or DELETE has locked
abbrev pub IsHoldingBy : List TableState → Transactions → Statement → Machine → Type 0
IsHoldingBy tables transactions (statement.Change change) (machine_of.Change machine) =
    IsHolding change tables transactions machine
IsHoldingBy tables transactions _ _ = Unit {0}

-- a machine can make a step for the statement
pub record IsReady (tables : List TableState) (transactions : Transactions) (given : Statement)
    (machine : Machine) : Type 0 where
  pub kind : IsOfKind machine given
  pub reading : IsReadingOf tables transactions given (running_of machine) (reading_of machine)
  pub holding : IsHoldingBy tables transactions given machine

-- where a session stands in the world, by where the server keeps it; `given` is its statement
abbrev pub IsProgressOf : List TableState → Transactions → Option (OrError Statement) → Place →
    Progress → Type 0
IsProgressOf tables transactions given (place_of.Inside machine) progress =
    (own : Statement) × (given ≡ Some (Ok own)) × (shown : Running) × (progress ≡ inside shown)
    × IsMachineOf tables transactions own machine shown
IsProgressOf tables transactions given place progress = progress ≡ kept_progress place

-- a session of the server stands for one of the world
pub record IsSessionOf (script : Script) (tables : List TableState) (transactions : Transactions)
    (number : ℕ) (kept : Session) (shown : SessionView) : Type 0 where
  pub rest : shown ≡ record (kept_session kept) { progress = shown.progress }
  pub progress : IsProgressOf tables transactions (statement_at script number shown) kept.place
      shown.progress

-- what is staged is of a session: it is inside an UPDATE of that table, whose candidate's row it is,
-- and has staged its new values
pub record IsDraftOf (script : Script) (sessions : List Session) (table : ℕ) (draft : PlacedRow) :
    Type 0 where
  pub number : ℕ
  pub session : Session
  pub is : item_at sessions number ≡ Some session
  pub change : Change
  pub given : statement_at script number (kept_session session)
      ≡ Some (Ok (statement.Change change))
  pub machine : ChangeView
  pub inside : session.place ≡ place_of.Inside (machine_of.Change machine)
  pub staged : machine.staged ≡ true
  pub table_is : change.target.table ≡ table
  pub row_is : target_in machine.running ≡ draft.row
  pub me_is : machine.running.me ≡ draft.me

-- all that is staged in a server
abbrev pub AreDrafts : Script → List TableState → List Session → Type 0
AreDrafts script tables sessions =
    (table row : ℕ) (draft : PlacedRow) → staged_in tables table row ≡ Some draft →
    IsDraftOf script sessions table draft

-- the server stands for the world
pub record IsServerOf (script : Script) (server : Server) (world : World) : Type 0 where
  pub tables : map table_shown server.tables ≡ world.tables
  pub transactions : server.xacts ≡ world.transactions
  pub valid : AreTables server.tables
  pub count : length server.sessions ≡ length world.sessions
  pub each : (number : ℕ) (kept : Session) (shown : SessionView) →
      item_at server.sessions number ≡ Some kept → item_at world.sessions number ≡ Some shown →
      IsSessionOf script server.tables server.xacts number kept shown
  pub waits : server.waits ≡ world.waits
  pub drafts : AreDrafts script server.tables server.sessions

-- a session before its first line
abbrev pub first_session : Session
first_session =
    record {
      answered = 0;
      block = NoBlock;
      transaction = None;
      command = 0;
      place = place_of.Idle;
    }

-- a server of which no step was made: the tables are those that setup leaves
pub record IsFirst (script : Script) (server : Server) : Type 0 where
  pub tables : setup_outcome script ≡ Ok (map table_shown server.tables)
  pub transactions : server.xacts ≡ no_transactions
  pub sessions : server.sessions ≡ map (λ name. first_session) script.sessions
  pub waits : server.waits ≡ no_waits (length script.sessions)
  pub loaded : AreLoaded server.tables
