-- The acts that Read Committed permits a session next.
use Rattle.std.specs.Prelude.{ℕ, Bool, true, false, List, [], ◌∷◌, map, Contains, Option, None, Some, Ok, Err}
use Rattle.pg_lists.specs.Numbered.{item_at}
use Rattle.pg_waits.specs.Chains.{ring_of}
use Rattle.pg_xacts.specs.declared.on.On.{On}
use Rattle.pg_model.specs.declared.error.SqlError.TheVariants.{Aborted, Deadlock}
use Rattle.pg_model.specs.Printed.{session_name}
use Rattle.pg_model.specs.declared.journal.Entry.{Entry}
use Rattle.pg_model.specs.declared.journal.EntryAct.{EntryAct}
use Rattle.pg_model.specs.declared.journal.EntryAct.TheVariants as entry
use Rattle.pg_model.specs.declared.journal.Reply.{Reply}
use Rattle.pg_model.specs.declared.journal.Tag.{Tag}
use Rattle.pg_model.specs.declared.journal.Tag.TheVariants as tag
use Rattle.pg_model.specs.declared.script.Script.{Script}
use Rattle.pg_model.specs.declared.statement.Statement.{Statement}
use Rattle.pg_model.specs.declared.statement.Statement.TheVariants as statement
use Rattle.pg_world.specs.Choices.{choices}
use Rattle.pg_world.specs.Choosing.{Choice, does, fails, waits}
use Rattle.pg_world.specs.Evaluation.{OrError}
use Rattle.pg_world.specs.Replies.{bare_reply, reply_of}
use Rattle.pg_world.specs.declared.session.Block.{Block}
use Rattle.pg_world.specs.declared.session.Progress.{Progress}
use Rattle.pg_world.specs.declared.session.Running.{Running}
use Rattle.pg_world.specs.declared.session.SessionView.{SessionView}
use Rattle.pg_world.specs.declared.session.Block.TheVariants.{NoBlock as no_block, OpenBlock as open_block, FailedBlock as failed_block}
use Rattle.pg_world.specs.declared.session.Progress.TheVariants.{Idle as idle, Inside as inside, Ending as ending, Closed as closed}
use Rattle.pg_world.specs.Worlds.{World, session_of}
use Rattle.pg_relation.specs.Lines.{statement_at}

-- COMMIT and ROLLBACK end a block, also one that has failed
abbrev pub ends_block : OrError Statement → Bool
ends_block (Ok statement.Commit) = true
ends_block (Ok statement.Rollback) = true
ends_block (Ok statement.Begin) = false
ends_block (Ok (statement.Select select)) = false
ends_block (Ok (statement.Insert insert)) = false
ends_block (Ok (statement.Change change)) = false
ends_block (Err error) = false

-- COMMIT of a failed block is answered as a ROLLBACK
abbrev pub commit_tag : Block → Tag
commit_tag no_block = tag.Commit
commit_tag open_block = tag.Commit
commit_tag failed_block = tag.Rollback

-- COMMIT ends the open transaction, and is answered at once where none is open
abbrev pub commit_moves : Block → Option ℕ → List EntryAct
commit_moves block (Some xact) = entry.Committed ∷ []
commit_moves block None = entry.Replied (bare_reply (commit_tag block)) ∷ []

-- and so does ROLLBACK
abbrev pub rollback_moves : Option ℕ → List EntryAct
rollback_moves (Some xact) = entry.RolledBack ∷ []
rollback_moves None = entry.Replied (bare_reply tag.Rollback) ∷ []

-- a statement begins: BEGIN is answered at once, a SELECT, INSERT, UPDATE or DELETE takes its
-- snapshot of all commits so far, and one that analysis refused fails
abbrev pub beginning_moves : World → SessionView → OrError Statement → List EntryAct
beginning_moves world session (Ok statement.Begin) = entry.Replied (bare_reply tag.Begin) ∷ []
beginning_moves world session (Ok statement.Commit) = commit_moves session.block session.transaction
beginning_moves world session (Ok statement.Rollback) = rollback_moves session.transaction
beginning_moves world session (Ok (statement.Select select)) =
    entry.Snapped world.transactions.commits ∷ []
beginning_moves world session (Ok (statement.Insert insert)) =
    entry.Snapped world.transactions.commits ∷ []
beginning_moves world session (Ok (statement.Change change)) =
    entry.Snapped world.transactions.commits ∷ []
beginning_moves world session (Err error) = entry.Failed error ∷ []

-- in a failed block every statement that does not end it fails
abbrev pub block_moves : World → SessionView → OrError Statement → Block → Bool → List EntryAct
block_moves world session given failed_block false = entry.Failed Aborted ∷ []
block_moves world session given failed_block true = beginning_moves world session given
block_moves world session given no_block ends = beginning_moves world session given
block_moves world session given open_block ends = beginning_moves world session given

-- between statements the next line's statement begins, and a session without a line is closed
abbrev pub idle_moves : World → SessionView → Option (OrError Statement) → List EntryAct
idle_moves world session (Some given) =
    block_moves world session given session.block (ends_block given)
idle_moves world session None = entry.Closed ∷ []

-- a session waits for another, unless the wait would close a cycle of waits, from the session on:
-- then it fails with that cycle
abbrev pub waiting_act : Script → ℕ → Option (List ℕ) → EntryAct
waiting_act script other None = entry.Waits other
waiting_act script other (Some cycle) =
    entry.Failed (Deadlock (map (session_name script) cycle))

-- the act of a choice of a session
abbrev pub act_of : Script → World → ℕ → Choice → EntryAct
act_of script world number (does act) = act
act_of script world number (waits other) =
    waiting_act script other (ring_of world.waits number other)
act_of script world number (fails error) = entry.Failed error

-- a statement that is done commits its transaction outside a block, and is then answered
abbrev pub done_moves : Block → Option ℕ → Reply → List EntryAct
done_moves no_block (Some xact) reply = entry.Committed ∷ []
done_moves no_block None reply = entry.Replied reply ∷ []
done_moves open_block transaction reply = entry.Replied reply ∷ []
done_moves failed_block transaction reply = entry.Replied reply ∷ []

-- the acts of the choices of a session, and where there are none its statement is done
abbrev pub chosen_or_done : (Choice → EntryAct) → List Choice → List EntryAct → List EntryAct
chosen_or_done act [] done = done
chosen_or_done act (choice ∷ others) done = act choice ∷ map act others

-- an open statement does one of its choices, or is done
abbrev pub open_moves : Script → World → ℕ → SessionView → Running → Statement → List EntryAct
open_moves script world number session running given =
    chosen_or_done (act_of script world number)
    (choices given world.tables world.transactions running)
    (done_moves session.block session.transaction (reply_of given running))

-- a statement that has its snapshot goes on; it is one of the script's that analysis took
abbrev pub inside_moves : Script → World → ℕ → SessionView → Running →
    Option (OrError Statement) → List EntryAct
inside_moves script world number session running (Some (Ok given)) =
    open_moves script world number session running given
inside_moves script world number session running (Some (Err error)) = []
inside_moves script world number session running None = []

-- a COMMIT or ROLLBACK whose transaction has ended is answered
abbrev pub ending_moves : Tag → Option (OrError Statement) → List EntryAct
ending_moves tag (Some given) = entry.Replied (bare_reply tag) ∷ []
ending_moves tag None = []

-- a session moves by where it stands; one that is closed has no move
abbrev pub session_moves : Script → World → ℕ → SessionView → Option (OrError Statement) →
    Progress → List EntryAct
session_moves script world number session given idle = idle_moves world session given
session_moves script world number session given (inside running) =
    inside_moves script world number session running given
session_moves script world number session given (ending tag) = ending_moves tag given
session_moves script world number session given closed = []

-- a session whose wait stands has no move, and nor has one that has no place among the waits
abbrev pub moves_unless_waiting : Option (Option On) → List EntryAct → List EntryAct
moves_unless_waiting (Some None) moves = moves
moves_unless_waiting (Some (Some on)) moves = []
moves_unless_waiting None moves = []

-- the moves of a session, where there is one of that number
abbrev pub moves_in : Script → World → ℕ → Option SessionView → List EntryAct
moves_in script world number (Some session) =
    moves_unless_waiting (item_at world.waits number)
    (session_moves script world number session (statement_at script number session)
    session.progress)
moves_in script world number None = []

-- the acts that are permitted to a session next; one that is not the script's has none
abbrev pub moves_of : Script → World → ℕ → List EntryAct
moves_of script world number = moves_in script world number (session_of world number)

-- the entry is a move that Read Committed permits its session
abbrev pub IsPermitted : Script → World → Entry → Type 0
IsPermitted script world entry = Contains (moves_of script world entry.session) entry.act
