-- What the acts of sessions make of what a server keeps. All that is not named stays as it was.
use Rattle.std.specs.Prelude.{ℕ, ◌≡◌, ◌+◌, ◌-◌, ◌<◌, ◌^◌, Bool, true, false, IfSome, List, [], length, map, Option, None, Some, Ok}
use Rattle.std.specs.Option.{option_map_or}
use Rattle.pg_lists.specs.Numbered.{item_at, with_item}
use Rattle.pg_xacts.specs.declared.me.Me.{Me}
use Rattle.pg_xacts.specs.Snapshots.{SnapshotView, WasTakenOf, snapshot_of}
use Rattle.pg_model.specs.declared.journal.EntryAct.{EntryAct}
use Rattle.pg_model.specs.declared.journal.EntryAct.TheVariants as entry
use Rattle.pg_model.specs.declared.journal.Tag.{Tag}
use Rattle.pg_model.specs.declared.journal.Tag.TheVariants as tag
use Rattle.pg_model.specs.declared.statement.Statement.{Statement}
use Rattle.pg_model.specs.declared.statement.Statement.TheVariants as statement
use Rattle.pg_world.specs.Candidates.{insert_candidates}
use Rattle.pg_world.specs.Evaluation.{OrError}
use Rattle.pg_world.specs.Sessions.{first_running}
use Rattle.pg_world.specs.Tables.{TransactionEnd, commit, rollback}
use Rattle.pg_waits.specs.Effects.{wait_begun, waits_ended}
use Rattle.pg_world.specs.Worlds.{World, transactions_after_end, until_end}
use Rattle.pg_world.specs.declared.session.SessionView.{SessionView}
use Rattle.pg_relation.specs.Moves.{ending_moves, idle_moves}
use Rattle.pg_relation.specs.Effect.{block_after, block_failed, me_for, transactions_opened}
use Rattle.pg_table.specs.States.{OwnStandBehind, TableState, state_ended, state_undone, table_shown}
use Rattle.pg_board.specs.Counts.{RunsIn}
use Rattle.pg_board.specs.declared.server.Server.{Server}
use Rattle.pg_board.specs.declared.session.Machine.{Machine}
use Rattle.pg_board.specs.declared.session.Machine.TheVariants as machine_of
use Rattle.pg_board.specs.declared.session.Place.{Place}
use Rattle.pg_board.specs.declared.session.Place.TheVariants as place_of
use Rattle.pg_board.specs.declared.session.Session.{Session}
use Rattle.pg_board.specs.Servers.{kept_session, kept_world}
use Rattle.pg_relation.specs.Stepped.{first_of_list}
use Rattle.pg_select.specs.Steps.{new_select}
use Rattle.pg_update.specs.Steps.{new_change}

-- the server in which a session is kept as given
abbrev pub with_kept : Server → ℕ → Session → Server
with_kept server number session =
    record server { sessions = with_item server.sessions number session }

-- the server that `make` gives for a session as it is kept; one that is not there changes nothing
abbrev pub at_kept : Server → ℕ → (Session → Server) → Server
at_kept server number make = option_map_or make (item_at server.sessions number) server

-- a table behind the end of a transaction
abbrev pub state_after_end : ℕ → TransactionEnd → TableState → TableState
state_after_end xact commit state = state_ended xact state
state_after_end xact rollback state = state_undone xact state

-- the server in which the transaction of a session, where one is open, has ended
abbrev pub with_end_in : Server → ℕ → Option ℕ → TransactionEnd → Server
with_end_in server number None end = server
with_end_in server number (Some xact) end =
    record server {
      xacts = transactions_after_end server.xacts xact end;
      tables = map (state_after_end xact end) server.tables;
      waits = waits_ended server.waits number;
    }

-- the session with no transaction open
abbrev pub session_left : Session → Place → Session
session_left session place = record session { transaction = None; command = 0; place = place }

-- between statements, a COMMIT or ROLLBACK whose transaction has ended is still to be answered
abbrev pub place_ended : Tag → Place → Place
place_ended tag place_of.Idle = place_of.Ending tag
place_ended tag (place_of.Inside machine) = place_of.Inside machine
place_ended tag (place_of.Ending other) = place_of.Ending other
place_ended tag place_of.Closed = place_of.Closed

-- the machine of a statement that takes this snapshot
abbrev pub machine_for : Statement → Me → SnapshotView → Machine
machine_for (statement.Select select) me snapshot =
    machine_of.Select (new_select select me snapshot)
machine_for (statement.Change change) me snapshot =
    machine_of.Change (new_change change me snapshot)
machine_for (statement.Insert insert) me snapshot =
    machine_of.Insert (first_running me snapshot.commits (insert_candidates insert))
machine_for _ me snapshot = machine_of.Insert (first_running me snapshot.commits (Ok []))

-- the statement takes a snapshot
abbrev pub TakesSnapshot : Statement → Type 0
TakesSnapshot (statement.Select select) = Unit {0}
TakesSnapshot (statement.Insert insert) = Unit {0}
TakesSnapshot (statement.Change change) = Unit {0}
TakesSnapshot _ = ⊥

-- the session takes its snapshot of all commits so far, and a transaction opens where none is open
abbrev pub server_snapped : Server → ℕ → Statement → Session → Server
server_snapped server number own session =
    let me : Me = me_for server.xacts number (kept_session session) in
    with_kept
    (record server { xacts = transactions_opened server.xacts number session.transaction }) number
    (record session {
      transaction = Some me.xact;
      command = me.command;
      place = place_of.Inside (machine_for own me (snapshot_of server.xacts));
    })

-- the transaction of the session commits
abbrev pub server_committed : Server → ℕ → Session → Server
server_committed server number session =
    with_kept (with_end_in server number session.transaction commit) number
    (session_left session (place_ended tag.Commit session.place))

-- the transaction of the session is rolled back
abbrev pub server_rolled_back : Server → ℕ → Session → Server
server_rolled_back server number session =
    with_kept (with_end_in server number session.transaction rollback) number
    (session_left session (place_ended tag.Rollback session.place))

-- the session's statement has its reply
abbrev pub server_replied : Server → ℕ → Session → Tag → Server
server_replied server number session given =
    with_kept server number
    (record session {
      answered = session.answered + 1;
      block = block_after given session.block;
      place = place_of.Idle;
    })

-- the session's statement fails, and its transaction is rolled back
abbrev pub server_failed : Server → ℕ → Session → Server
server_failed server number session =
    with_kept (with_end_in server number session.transaction rollback) number
    (record (session_left session place_of.Idle) {
      answered = session.answered + 1;
      block = block_failed session.block;
    })

-- the session ends, and its open transaction is rolled back
abbrev pub server_closed : Server → ℕ → Session → Server
server_closed server number session =
    with_kept (with_end_in server number session.transaction rollback) number
    (session_left session place_of.Closed)

-- what an act that no machine does makes of what the server keeps; a machine does its own
abbrev pub act_kept : Server → ℕ → Option (OrError Statement) → Session → EntryAct → Server
act_kept server number given session entry.Committed = server_committed server number session
act_kept server number given session entry.RolledBack = server_rolled_back server number session
act_kept server number given session (entry.Replied reply) =
    server_replied server number session reply.tag
act_kept server number given session (entry.Failed error) = server_failed server number session
act_kept server number given session entry.Closed = server_closed server number session
act_kept server number given session (entry.Waits other) =
    record server { waits = wait_begun server.waits number (until_end other) }
act_kept server number (Some (Ok own)) session (entry.Snapped commits) =
    server_snapped server number own session
act_kept server number given session _ = server

-- the session waits from that act on
abbrev pub begins_wait : EntryAct → Bool
begins_wait (entry.Waits other) = true
begins_wait _ = false

-- the moves of a session that is in no statement with a snapshot
abbrev pub outside_moves : World → SessionView → Option (OrError Statement) → Place → List EntryAct
outside_moves world session given place_of.Idle = idle_moves world session given
outside_moves world session given (place_of.Inside machine) = []
outside_moves world session given (place_of.Ending tag) = ending_moves tag given
outside_moves world session given place_of.Closed = []

-- a statement of the session can have its reply
abbrev pub CanAnswer : Server → ℕ → Type 0
CanAnswer server number =
    (session : Session) → item_at server.sessions number ≡ Some session →
    session.answered < 2 ^ 64 - 1

-- the transaction of the session can have one command more
abbrev pub CanCommand : Server → ℕ → Type 0
CanCommand server number =
    (session : Session) → item_at server.sessions number ≡ Some session →
    session.command < 2 ^ 32 - 1

-- the session can begin a transaction
abbrev pub CanBegin : Server → ℕ → Type 0
CanBegin server number =
    (session : Session) → item_at server.sessions number ≡ Some session →
    length server.xacts.list < 2 ^ 32 - 1

-- the open transaction of the session runs
abbrev pub RunsAt : Server → ℕ → Type 0
RunsAt server number =
    (session : Session) → item_at server.sessions number ≡ Some session →
    RunsIn server.xacts session.transaction

-- in each row the versions of the transaction, where one is open, stand behind all others
abbrev pub StandBehind : List TableState → Option ℕ → Type 0
StandBehind tables transaction =
    IfSome transaction
    (λ xact. (number : ℕ) (state : TableState) → item_at tables number ≡ Some state →
    OwnStandBehind xact (table_shown state))

-- so do those of the open transaction of the session
abbrev pub StandBehindAt : Server → ℕ → Type 0
StandBehindAt server number =
    (session : Session) → item_at server.sessions number ≡ Some session →
    StandBehind server.tables session.transaction

-- a session in no statement with a snapshot has a move
pub record CanMove (server : Server) (session : Session) (given : Option (OrError Statement)) :
    Type 0 where
  pub act : EntryAct
  pub first : first_of_list
      (outside_moves (kept_world server) (kept_session session) given session.place) ≡ Some act

-- it has made the first of its moves; a snapshot was taken of the transactions as they stand
pub record HasMovedOutside (old new : Server) (number : ℕ) (given : Option (OrError Statement))
    (session : Session) (act : EntryAct) : Type 0 where
  pub first : first_of_list
      (outside_moves (kept_world old) (kept_session session) given session.place) ≡ Some act
  pub new_is : new ≡ act_kept old number given session act
  pub taken : (commits : ℕ) (own : Statement) → act ≡ entry.Snapped commits →
      given ≡ Some (Ok own) → WasTakenOf old.xacts (snapshot_of old.xacts)
