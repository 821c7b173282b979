-- What each kind of entry needs of the world in which it is made, whatever the statement.
use Rattle.std.specs.Prelude.{Contains, [], ℕ, ◌≡◌, ◌<◌, ◌+◌, ◌⊎◌, true, List, length, map, Option, None, Some, is_some, Ok, Err, unwrap_or}
use Rattle.pg_multi.specs.declared.strength.Strength.{Strength}
use Rattle.pg_multi.specs.Locks.{blocker}
use Rattle.pg_waits.specs.Chains.{ring_of}
use Rattle.pg_xacts.specs.Transactions.{beginner_of}
use Rattle.pg_heap.specs.Current.{current_values}
use Rattle.pg_model.specs.declared.error.SqlError.{SqlError}
use Rattle.pg_model.specs.declared.error.SqlError.TheVariants.{Deadlock}
use Rattle.pg_model.specs.declared.script.Script.{Script}
use Rattle.pg_model.specs.Printed.{session_name}
use Rattle.pg_model.specs.declared.journal.EntryAct.{EntryAct}
use Rattle.pg_model.specs.declared.journal.EntryAct.TheVariants as entry
use Rattle.pg_model.specs.declared.journal.Tag.{Tag}
use Rattle.pg_model.specs.declared.statement.Statement.{Statement}
use Rattle.pg_world.specs.declared.candidate.Candidate.{Candidate}
use Rattle.pg_world.specs.Changes.{row_at, table_at}
use Rattle.pg_world.specs.Choices.{choices}
use Rattle.pg_world.specs.Choosing.{Choice, does, fails, waits}
use Rattle.pg_world.specs.Evaluation.{OrError}
use Rattle.pg_world.specs.declared.session.Running.{Running}
use Rattle.pg_world.specs.declared.session.SessionView.{SessionView}
use Rattle.pg_world.specs.declared.session.Stage.{Stage}
use Rattle.pg_world.specs.declared.session.Progress.TheVariants.{Idle as idle, Inside as inside, Ending as ending}
use Rattle.pg_world.specs.declared.session.Stage.TheVariants.{Between as between, Found as found, Locked as locked, Placed as placed}
use Rattle.pg_world.specs.declared.table.TableView.{TableView}
use Rattle.pg_world.specs.declared.session.VersionName.{VersionName}
use Rattle.pg_world.specs.Tables.{locks_on, next_row}
use Rattle.pg_world.specs.Worlds.{World, table_of}

-- between statements, and there is one without a reply
pub record IsBefore (given : Option (OrError Statement)) (session : SessionView) : Type 0 where
  pub idle_is : session.progress ≡ idle
  pub next : OrError Statement
  pub next_is : given ≡ Some next

-- between statements, and there is none without a reply
pub record IsAtEnd (given : Option (OrError Statement)) (session : SessionView) : Type 0 where
  pub idle_is : session.progress ≡ idle
  pub none : given ≡ None

-- inside a statement of the script that has its candidates, or their first error
pub record IsInside (given : Option (OrError Statement)) (session : SessionView)
    (candidates : OrError (List Candidate)) : Type 0 where
  pub statement : Statement
  pub statement_is : given ≡ Some (Ok statement)
  pub running : Running
  pub inside_is : session.progress ≡ inside running
  pub candidates_are : running.candidates ≡ candidates

-- inside a statement that has this choice
pub record IsChoosing (world : World) (given : Option (OrError Statement)) (session : SessionView)
    (choice : Choice) : Type 0 where
  pub candidates : List Candidate
  pub opened : IsInside given session (Ok candidates)
  pub contained : Contains
      (choices opened.statement world.tables world.transactions opened.running) choice

-- inside a statement of which the act is a choice, with the candidate taken up last at that stage
pub record IsAtStage (world : World) (given : Option (OrError Statement)) (session : SessionView)
    (stage : Stage) (act : EntryAct) : Type 0 where
  pub candidates : List Candidate
  pub opened : IsInside given session (Ok candidates)
  pub stage_is : opened.running.stage ≡ stage
  pub choice : Contains
      (choices opened.statement world.tables world.transactions opened.running) (does act)

-- the row is there for a transaction, and no other holds a lock on it that conflicts
pub record CanLock (world : World) (table row xact : ℕ) (strength : Strength) : Type 0 where
  pub there : is_some
      (current_values world.transactions xact (row_at (table_at world.tables table) row)) ≡ true
  pub free : blocker (locks_on (table_at world.tables table) row) xact strength ≡ None

-- inside a statement that is done
pub record IsDone (world : World) (given : Option (OrError Statement)) (session : SessionView) :
    Type 0 where
  pub candidates : List Candidate
  pub opened : IsInside given session (Ok candidates)
  pub done : choices opened.statement world.tables world.transactions opened.running ≡ []

-- a COMMIT or ROLLBACK whose transaction has ended is to be answered
pub record IsEnding (given : Option (OrError Statement)) (session : SessionView) : Type 0 where
  pub tag : Tag
  pub ending_is : session.progress ≡ ending tag
  pub next : OrError Statement
  pub next_is : given ≡ Some next

-- a transaction is open
abbrev pub IsOpen : SessionView → Type 0
IsOpen session = (xact : ℕ) × (session.transaction ≡ Some xact)

-- inside a statement with an error
abbrev pub IsRefused : Option (OrError Statement) → SessionView → SqlError → Type 0
IsRefused given session error = IsInside given session (Err error)

-- inside a statement whose candidate, with its row locked, has that act
abbrev pub IsLockedFor : World → Option (OrError Statement) → SessionView → EntryAct → Type 0
IsLockedFor world given session act =
    (name : VersionName) × IsAtStage world given session (locked name) act

-- a transaction of that session holds a lock on a row that conflicts with what another asks for
pub record IsHeld (world : World) (xact other : ℕ) : Type 0 where
  pub table : ℕ
  pub row : ℕ
  pub strength : Strength
  pub holder : ℕ
  pub held : blocker (locks_on (table_at world.tables table) row) xact strength ≡ Some holder
  pub beginner : other ≡ unwrap_or (beginner_of world.transactions holder) 0

-- inside a statement whose candidate, found and not locked, has to wait for a session, which would
-- close that cycle of waits, or none
pub record IsBlocked (world : World) (number : ℕ) (given : Option (OrError Statement))
    (session : SessionView) (other : ℕ) (cycle : Option (List ℕ)) : Type 0 where
  pub chosen : IsChoosing world given session (waits other)
  pub stage_is : chosen.opened.running.stage ≡ found
  pub held : IsHeld world chosen.opened.running.me.xact other
  pub cycle_is : ring_of world.waits number other ≡ cycle

-- inside a statement that fails where it stands: with the error of what it evaluates next, or with
-- the cycle that its wait would close
abbrev pub IsFailing : Script → World → ℕ → Option (OrError Statement) → SessionView → SqlError →
    Type 0
IsFailing script world number given session error =
    IsChoosing world given session (fails error)
    ⊎ ((other : ℕ) × (cycle : List ℕ) × IsBlocked world number given session other (Some cycle)
    × (error ≡ Deadlock (map (session_name script) cycle)))

-- what an act needs of the world and of the session of that number, which stands at that statement
abbrev pub Needs : Script → World → ℕ → Option (OrError Statement) → SessionView → EntryAct → Type 0
Needs script world number given session (entry.Snapped commits) =
    (before : IsBefore given session) × ((statement : Statement) × (before.next ≡ Ok statement))
    × (commits ≡ world.transactions.commits)
Needs script world number given session (entry.Found candidate) =
    (s : IsAtStage world given session between (entry.Found candidate))
    × (candidate ≡ s.opened.running.candidate + 1)
    × (s.opened.running.candidate < length s.candidates)
Needs script world number given session (entry.Placed table row) =
    IsAtStage world given session found (entry.Placed table row)
    × ((view : TableView) × (table_of world table ≡ Some view) × (row ≡ next_row view))
Needs script world number given session (entry.Locked table row strength) =
    (s : IsAtStage world given session found (entry.Locked table row strength))
    × CanLock world table row s.opened.running.me.xact strength
Needs script world number given session (entry.Updated table row) =
    IsLockedFor world given session (entry.Updated table row)
Needs script world number given session (entry.Deleted table row) =
    IsLockedFor world given session (entry.Deleted table row)
Needs script world number given session entry.Passed =
    IsAtStage world given session found entry.Passed
    ⊎ IsLockedFor world given session entry.Passed
Needs script world number given session (entry.Waits other) =
    IsBlocked world number given session other None
Needs script world number given session (entry.Inserted table row) =
    IsAtStage world given session (placed row) (entry.Inserted table row)
Needs script world number given session entry.Committed =
    IsOpen session × (IsBefore given session ⊎ IsDone world given session)
Needs script world number given session entry.RolledBack = IsOpen session × IsBefore given session
Needs script world number given session (entry.Replied reply) =
    IsBefore given session ⊎ (IsDone world given session ⊎ IsEnding given session)
Needs script world number given session (entry.Failed error) =
    IsBefore given session
    ⊎ (IsRefused given session error ⊎ IsFailing script world number given session error)
Needs script world number given session entry.Closed = IsAtEnd given session
