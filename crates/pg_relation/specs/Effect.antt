-- What an entry makes of the world. All that is not named stays as it was.
use Rattle.std.specs.Prelude.{ℕ, ◌+◌, List, [], Option, None, Some, Ok, Err}
use Rattle.std.specs.Option.{option_map_or}
use Rattle.pg_values.specs.declared.value.Value.{Value}
use Rattle.pg_xacts.specs.declared.me.Me.{Me}
use Rattle.pg_xacts.specs.Transactions.{Transactions, next_number, transaction_begun}
use Rattle.pg_model.specs.declared.journal.Entry.{Entry}
use Rattle.pg_model.specs.declared.journal.EntryAct.{EntryAct}
use Rattle.pg_model.specs.declared.journal.EntryAct.TheVariants as entry
use Rattle.pg_model.specs.declared.journal.Tag.{Tag}
use Rattle.pg_model.specs.declared.journal.Tag.TheVariants as tag
use Rattle.pg_model.specs.declared.script.Script.{Script}
use Rattle.pg_model.specs.declared.statement.Statement.{Statement}
use Rattle.pg_model.specs.declared.statement.Statement.TheVariants as statement
use Rattle.pg_multi.specs.declared.strength.Strength.{Strength}
use Rattle.pg_world.specs.declared.candidate.Candidate.{Candidate}
use Rattle.pg_world.specs.Candidates.{candidates_of}
use Rattle.pg_world.specs.Evaluation.{OrError}
use Rattle.pg_world.specs.Replies.{proposed_values}
use Rattle.pg_world.specs.declared.session.Block.{Block}
use Rattle.pg_world.specs.declared.session.Progress.{Progress}
use Rattle.pg_world.specs.declared.session.Running.{Running}
use Rattle.pg_world.specs.declared.session.SessionView.{SessionView}
use Rattle.pg_world.specs.declared.session.Block.TheVariants.{NoBlock as no_block, OpenBlock as open_block, FailedBlock as failed_block}
use Rattle.pg_world.specs.declared.session.Progress.TheVariants.{Idle as idle, Inside as inside, Ending as ending, Closed as closed}
use Rattle.pg_world.specs.Sessions.{first_running}
use Rattle.pg_world.specs.declared.table.TableView.{TableView}
use Rattle.pg_world.specs.Changes.{act_on, values_to_hold}
use Rattle.pg_world.specs.Tables.{commit, rollback, row_changed, row_inserted, row_locked, row_placed}
use Rattle.pg_world.specs.Worlds.{World, session_of, until_end, with_end_of, with_session, with_table, with_wait}
use Rattle.pg_relation.specs.Lines.{statement_at}
use Rattle.pg_relation.specs.Running.{running_after_act}

-- Snapped: a transaction opens where none is open, its command rises, and the statement sees the
-- commits so far.

-- the transaction of a statement: the open one, or else the next to be begun
abbrev pub transaction_for : Transactions → Option ℕ → ℕ
transaction_for transactions (Some xact) = xact
transaction_for transactions None = next_number transactions

-- the transactions, where that one is open
abbrev pub transactions_opened : Transactions → ℕ → Option ℕ → Transactions
transactions_opened transactions number (Some xact) = transactions
transactions_opened transactions number None = transaction_begun transactions number

-- who takes the snapshot
abbrev pub me_for : Transactions → ℕ → SessionView → Me
me_for transactions number session =
    record {
      session = number;
      xact = transaction_for transactions session.transaction;
      command = session.command + 1;
    }

-- the candidates of the session's statement
abbrev pub candidates_at : Option (OrError Statement) → World → ℕ → Me → OrError (List Candidate)
candidates_at (Some (Ok given)) world commits me =
    candidates_of given world.tables world.transactions commits me
candidates_at (Some (Err error)) world commits me = Err error
candidates_at None world commits me = Ok []

-- the session with the snapshot, by the world in which its transaction is open
abbrev pub session_snapped : World → Option (OrError Statement) → SessionView → ℕ → Me → SessionView
session_snapped world given session commits me =
    record session {
      transaction = Some me.xact;
      command = me.command;
      progress = inside (first_running me commits (candidates_at given world commits me));
    }

-- the world in which the session has a transaction open
abbrev pub with_open : World → ℕ → SessionView → World
with_open world number session =
    record world {
      transactions = transactions_opened world.transactions number session.transaction;
    }

-- the world in which the session has taken its snapshot
abbrev pub with_snapshot : World → ℕ → Option (OrError Statement) → SessionView → ℕ → World
with_snapshot world number given session commits =
    with_session (with_open world number session) number
    (session_snapped (with_open world number session) given session commits
    (me_for world.transactions number session))

-- The acts of an open statement.

-- the session with its statement at another place; one that is in no statement stays as it is
abbrev pub with_running : (Running → Running) → SessionView → Progress → SessionView
with_running change session (inside running) = record session { progress = inside (change running) }
with_running change session idle = session
with_running change session (ending tag) = session
with_running change session closed = session

-- the session behind an act of its open statement
abbrev pub session_after_act : World → SessionView → EntryAct → SessionView
session_after_act world session act =
    with_running (running_after_act world.tables world.transactions act) session session.progress

-- who acts outside a statement: nobody does
abbrev pub nobody : Me
nobody = record { session = 0; xact = 0; command = 0 }

-- who acts in a statement
abbrev pub me_in : Progress → Me
me_in (inside running) = running.me
me_in idle = nobody
me_in (ending tag) = nobody
me_in closed = nobody

-- what the candidate taken up last proposes
abbrev pub proposed_in : Progress → List Value
proposed_in (inside running) = proposed_values running
proposed_in idle = []
proposed_in (ending tag) = []
proposed_in closed = []

-- Found: the candidate of that number is taken up
abbrev pub with_candidate : World → ℕ → SessionView → ℕ → World
with_candidate world number session candidate =
    with_session world number (session_after_act world session (entry.Found candidate))

-- Placed: the table draws the row's number, and the proposed values wait there to be stored
abbrev pub with_placed_row : World → ℕ → SessionView → ℕ → ℕ → World
with_placed_row world number session table row =
    with_session
    (with_table world table
    (λ view. row_placed view (me_in session.progress) (proposed_in session.progress)))
    number (session_after_act world session (entry.Placed table row))

-- Locked: the transaction holds the row at that strength too, and the statement keeps the version
-- that is current for it
abbrev pub with_locked_row : World → ℕ → SessionView → ℕ → ℕ → Strength → World
with_locked_row world number session table row strength =
    with_session
    (with_table world table
    (λ view. row_locked view (me_in session.progress).xact row strength))
    number (session_after_act world session (entry.Locked table row strength))

-- Inserted: the placed values become the row's first version
abbrev pub with_inserted_row : World → ℕ → SessionView → ℕ → ℕ → World
with_inserted_row world number session table row =
    with_session
    (with_table world table (λ view. row_inserted view (me_in session.progress) row)) number
    (session_after_act world session (entry.Inserted table row))

-- the values of a row, where it is to hold some
abbrev pub values_held : OrError (Option (List Value)) → List Value
values_held (Ok (Some values)) = values
values_held (Ok None) = []
values_held (Err error) = []

-- what an UPDATE makes of the row of the candidate taken up last
abbrev pub values_set : Option (OrError Statement) → List TableView → Progress → List Value
values_set (Some (Ok (statement.Change change))) tables (inside running) =
    values_held (values_to_hold change tables running)
values_set _ tables _ = []

-- Updated, Deleted: the row gets its newest version, with values or gone
abbrev pub with_changed_row : World → ℕ → SessionView → ℕ → ℕ → Option (List Value) → World
with_changed_row world number session table row values =
    with_session
    (with_table world table (λ view. row_changed view (me_in session.progress) row values)) number
    (session_after_act world session (act_on table row values))

-- Passed: the candidate has had an act without effect
abbrev pub with_passed : World → ℕ → SessionView → World
with_passed world number session =
    with_session world number (session_after_act world session entry.Passed)

-- The ends of statements, of transactions and of sessions.

-- the session with no transaction open
abbrev pub without_transaction : SessionView → Progress → SessionView
without_transaction session progress =
    record session { transaction = None; command = 0; progress = progress }

-- a COMMIT or ROLLBACK whose transaction has ended is still to be answered so; a statement that
-- commits outside a block goes on to its own reply
abbrev pub progress_ended : Tag → Progress → Progress
progress_ended tag idle = ending tag
progress_ended tag (inside running) = inside running
progress_ended tag (ending other) = ending other
progress_ended tag closed = closed

-- Committed: the transaction takes the next place in the commit order
abbrev pub with_commit : World → ℕ → SessionView → World
with_commit world number session =
    with_session (with_end_of world number session.transaction commit) number
    (without_transaction session (progress_ended tag.Commit session.progress))

-- RolledBack: what the transaction did is undone
abbrev pub with_rollback : World → ℕ → SessionView → World
with_rollback world number session =
    with_session (with_end_of world number session.transaction rollback) number
    (without_transaction session (progress_ended tag.Rollback session.progress))

-- BEGIN opens a block where there is none
abbrev pub block_begun : Block → Block
block_begun no_block = open_block
block_begun open_block = open_block
block_begun failed_block = failed_block

-- the block behind a reply: COMMIT and ROLLBACK end it
abbrev pub block_after : Tag → Block → Block
block_after tag.Begin block = block_begun block
block_after tag.Commit block = no_block
block_after tag.Rollback block = no_block
block_after (tag.Insert rows) block = block
block_after (tag.Update rows) block = block
block_after (tag.Delete rows) block = block
block_after (tag.Select rows) block = block

-- the session, whose line has its reply, between statements
abbrev pub session_replied : SessionView → Tag → SessionView
session_replied session given =
    record session {
      answered = session.answered + 1;
      block = block_after given session.block;
      progress = idle;
    }

-- Replied: the line has its reply
abbrev pub with_reply : World → ℕ → SessionView → Tag → World
with_reply world number session given = with_session world number (session_replied session given)

-- an error in a block makes it a failed one
abbrev pub block_failed : Block → Block
block_failed no_block = no_block
block_failed open_block = failed_block
block_failed failed_block = failed_block

-- the session, whose line has its error for a reply, between statements and without a transaction
abbrev pub session_failed : SessionView → SessionView
session_failed session =
    record (without_transaction session idle) {
      answered = session.answered + 1;
      block = block_failed session.block;
    }

-- Failed: the transaction is rolled back at once, and the error is the line's reply
abbrev pub with_failure : World → ℕ → SessionView → World
with_failure world number session =
    with_session (with_end_of world number session.transaction rollback) number
    (session_failed session)

-- Closed: the session has ended, and its open transaction is rolled back
abbrev pub with_closure : World → ℕ → SessionView → World
with_closure world number session =
    with_session (with_end_of world number session.transaction rollback) number
    (without_transaction session closed)

-- what an act makes of the world, for a session that stands at that statement
abbrev pub act_effect : World → ℕ → Option (OrError Statement) → SessionView → EntryAct → World
act_effect world number given session (entry.Snapped commits) =
    with_snapshot world number given session commits
act_effect world number given session (entry.Found candidate) =
    with_candidate world number session candidate
act_effect world number given session (entry.Locked table row strength) =
    with_locked_row world number session table row strength
act_effect world number given session (entry.Placed table row) =
    with_placed_row world number session table row
act_effect world number given session (entry.Inserted table row) =
    with_inserted_row world number session table row
act_effect world number given session (entry.Updated table row) =
    with_changed_row world number session table row
    (Some (values_set given world.tables session.progress))
act_effect world number given session (entry.Deleted table row) =
    with_changed_row world number session table row None
act_effect world number given session entry.Passed = with_passed world number session
act_effect world number given session (entry.Waits other) =
    with_wait world number (until_end other)
act_effect world number given session entry.Committed = with_commit world number session
act_effect world number given session entry.RolledBack = with_rollback world number session
act_effect world number given session (entry.Replied reply) =
    with_reply world number session reply.tag
act_effect world number given session (entry.Failed error) = with_failure world number session
act_effect world number given session entry.Closed = with_closure world number session

-- the world that `make` gives for a session as it stands; one that is not there changes nothing
abbrev pub at_session : World → ℕ → (SessionView → World) → World
at_session world number make = option_map_or make (session_of world number) world

-- the world that an entry leaves
abbrev pub effect : Script → World → Entry → World
effect script world entry =
    at_session world entry.session
    (λ session.
    act_effect world entry.session (statement_at script entry.session session) session entry.act)
