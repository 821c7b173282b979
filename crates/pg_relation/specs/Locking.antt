-- The locks and the versions of a row: who may hold it, who may have changed it, and what a
-- statement that has locked it can rely on.
use Rattle.std.specs.Prelude.{ℕ, ◌≡◌, ◌≢◌, ◌<◌, ◌≤◌, ◌⊎◌, true, false, List, [], ◌∷◌, length, None, Some, is_some}
use Rattle.pg_multi.specs.declared.row_lock.RowLock.{RowLock}
use Rattle.pg_multi.specs.declared.strength.Strength.{Strength}
use Rattle.pg_multi.specs.declared.strength.Strength.TheVariants.{NoKeyUpdate}
use Rattle.pg_multi.specs.Locks.{AreAscending, AreCompatible, strongest_of}
use Rattle.pg_multi.specs.Strengths.{rank_of}
use Rattle.pg_xacts.specs.declared.me.Me.{Me}
use Rattle.pg_xacts.specs.declared.transaction.XStatus.TheVariants.{Running as IsRunning, Committed}
use Rattle.pg_xacts.specs.Transactions.{Transactions, status_of}
use Rattle.pg_heap.specs.declared.row.Row.{Row}
use Rattle.pg_heap.specs.declared.version.Version.{Version}
use Rattle.pg_heap.specs.Current.{current, newest}
use Rattle.pg_heap.specs.Rows.{row_of}
use Rattle.pg_model.specs.declared.statement.Action.{Action}
use Rattle.pg_model.specs.declared.statement.Change.{Change}
use Rattle.pg_world.specs.Changes.{change_strength, is_of_command, name_of, partners_in, target_row}
use Rattle.pg_world.specs.declared.session.Progress.TheVariants.{Inside as inside}
use Rattle.pg_world.specs.declared.session.Running.{Running}
use Rattle.pg_world.specs.declared.session.SessionView.{SessionView}
use Rattle.pg_world.specs.declared.session.VersionName.{VersionName}
use Rattle.pg_world.specs.declared.table.TableView.{TableView}
use Rattle.pg_world.specs.Tables.{locks_on}
use Rattle.pg_world.specs.Worlds.{World, table_of}

-- Transactions and locks.

-- the transaction was begun and has not ended
abbrev pub Runs : Transactions → ℕ → Type 0
Runs transactions xact = status_of transactions xact ≡ Some IsRunning

-- the transaction runs or has committed, as setup has: it was begun, and not rolled back
abbrev pub RunsOrCommitted : Transactions → ℕ → Type 0
RunsOrCommitted transactions xact =
    Runs transactions xact ⊎ ((place : ℕ) × (status_of transactions xact ≡ Some (Committed place)))

-- the transaction holds the row at that strength or a stronger one
abbrev pub HoldsAtLeast : List RowLock → ℕ → Strength → Type 0
HoldsAtLeast locks xact strength =
    (held : Strength) × (strongest_of locks xact ≡ Some held) × (rank_of strength ≤ rank_of held)

-- Versions.

-- what holds of each item of a list
abbrev pub Each : {X : Type 0} → (X → Type 0) → List X → Type 0
Each P [] = Unit {0}
Each P (item ∷ items) = P item × Each P items

-- the transaction wrote the first of these versions: it inserted the row
abbrev pub IsFirstBy : ℕ → List Version → Type 0
IsFirstBy xact [] = ⊥
IsFirstBy xact (first ∷ later) = first.writer ≡ xact

-- the versions of a transaction stand behind all others: behind one of them there are none but its
-- own
abbrev pub StandBehind : ℕ → List Version → Type 0
StandBehind xact [] = Unit {0}
StandBehind xact (version ∷ versions) =
    (version.writer ≡ xact → Each (λ later. later.writer ≡ xact) versions)
    × StandBehind xact versions

-- of one transaction, each version was written by a later command than those before it
abbrev pub AreRising : List Version → Type 0
AreRising [] = Unit {0}
AreRising (version ∷ versions) =
    Each (λ later. later.writer ≡ version.writer → version.command < later.command) versions
    × AreRising versions

-- what the transaction wrote was written by its first commands, so many
abbrev pub WroteWithin : ℕ → ℕ → List Version → Type 0
WroteWithin xact command versions =
    Each (λ version. version.writer ≡ xact → version.command ≤ command) versions

-- Rows.

-- each transaction that runs and has changed the row, which it did not insert, holds it for that
abbrev pub AreHeld : Transactions → List RowLock → List Version → Type 0
AreHeld transactions locks versions =
    Each
    (λ version. Runs transactions version.writer →
    IsFirstBy version.writer versions ⊎ HoldsAtLeast locks version.writer NoKeyUpdate)
    versions

-- nobody holds a row that has no version, and one that was inserted by a transaction that runs is
-- held by no other
abbrev pub IsFree : Transactions → List RowLock → List Version → Type 0
IsFree transactions locks [] = (other : ℕ) → strongest_of locks other ≡ None
IsFree transactions locks (first ∷ later) =
    Runs transactions first.writer → (other : ℕ) → other ≢ first.writer →
    strongest_of locks other ≡ None

-- what holds of the row of a number, and of the locks on it
pub record IsGuarded (transactions : Transactions) (number : ℕ) (row : Row) (locks : List RowLock) :
    Type 0 where
  pub numbered : row.number ≡ number
  pub ascending : AreAscending locks
  pub compatible : AreCompatible locks
  pub running : (xact : ℕ) (held : Strength) → strongest_of locks xact ≡ Some held →
      Runs transactions xact
  pub written : Each (λ version. RunsOrCommitted transactions version.writer) row.versions
  pub rising : AreRising row.versions
  pub behind : (xact : ℕ) → Runs transactions xact → StandBehind xact row.versions
  pub held : AreHeld transactions locks row.versions
  pub free : IsFree transactions locks row.versions

-- what holds of each row of a table; and there is a list of locks for each row
pub record IsGuardedTable (transactions : Transactions) (table : TableView) : Type 0 where
  pub listed : length table.locks ≡ length table.rows
  pub rows : (number : ℕ) (row : Row) → row_of table.rows number ≡ Some row →
      IsGuarded transactions number row (locks_on table number)

-- What a statement has locked.

-- The row that a command holds for an action: its newest version is there, is also its current one
-- for the transaction, and has that name, and the command itself did not write it.
pub record IsHeldRow (transactions : Transactions) (me : Me) (action : Action) (name : VersionName)
    (number : ℕ) (row : Row) (locks : List RowLock) : Type 0 where
  pub number_is : row.number ≡ number
  pub holds : HoldsAtLeast locks me.xact (change_strength action)
  pub version : Version
  pub newest_is : newest row ≡ Some version
  pub current_is : current transactions me.xact row ≡ Some version
  pub name_is : name_of version ≡ name
  pub there : is_some version.values ≡ true
  pub earlier : is_of_command me (Some version) ≡ false

-- an UPDATE or DELETE holds the row of the target of its candidate
pub record IsHolding (world : World) (change : Change) (running : Running) (name : VersionName) :
    Type 0 where
  pub table : TableView
  pub table_is : table_of world change.target.table ≡ Some table
  pub row : Row
  pub row_is : row_of table.rows (target_row (partners_in running)) ≡ Some row
  pub held : IsHeldRow world.transactions running.me change.action name
      (target_row (partners_in running)) row (locks_on table (target_row (partners_in running)))

-- The commands of a session.

-- the transaction of a session has written with no later command than the session's, which is that
-- of its open statement
pub record IsCommanding (world : World) (session : SessionView) : Type 0 where
  pub within : (xact : ℕ) → session.transaction ≡ Some xact →
      (number : ℕ) (table : TableView) → table_of world number ≡ Some table →
      (row_number : ℕ) (row : Row) → row_of table.rows row_number ≡ Some row →
      WroteWithin xact session.command row.versions
  pub latest : (running : Running) (xact : ℕ) → session.progress ≡ inside running →
      session.transaction ≡ Some xact → running.me.command ≡ session.command

-- Rows of a world.

-- the row of that number of a table of the world, and the locks on it
pub record IsRowOf (world : World) (number row_number : ℕ) (row : Row) (locks : List RowLock) :
    Type 0 where
  pub table : TableView
  pub table_is : table_of world number ≡ Some table
  pub row_is : row_of table.rows row_number ≡ Some row
  pub locks_are : locks_on table row_number ≡ locks
