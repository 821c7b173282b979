-- A step of an UPDATE or DELETE: it goes over its tables piece by piece; then it has its candidates,
-- takes up each, locks its row, stages the new values of that, and writes them. All that is not named
-- stays as it was.
use Rattle.std.specs.Prelude.{ℕ, ◌≡◌, ◌+◌, ◌<◌, ◌≤◌, Bool, true, false, List, [], ◌∷◌, map, Option, None, Some, Ok, IfSome, MatchOption, is_some, option_and_then}
use Rattle.pg_lists.specs.Numbered.{item_at, with_changed_item}
use Rattle.pg_values.specs.declared.value.Value.{Value}
use Rattle.pg_xacts.specs.declared.me.Me.{Me}
use Rattle.pg_xacts.specs.Snapshots.{SnapshotView}
use Rattle.pg_xacts.specs.Transactions.{Transactions}
use Rattle.pg_heap.specs.Current.{current, newest}
use Rattle.pg_heap.specs.declared.row.Row.{Row}
use Rattle.pg_heap.specs.declared.version.Version.{Version}
use Rattle.pg_rows.specs.Stores.{HasNoDraft}
use Rattle.pg_model.specs.declared.journal.EntryAct.{EntryAct}
use Rattle.pg_model.specs.declared.journal.EntryAct.TheVariants as entry
use Rattle.pg_model.specs.declared.statement.Change.{Change}
use Rattle.pg_model.specs.declared.statement.Statement.TheVariants as statement
use Rattle.pg_world.specs.Candidates.{candidates_of, table_of_source}
use Rattle.pg_world.specs.Changes.{name_of, partners_in, row_at, table_at, target_row, values_to_hold}
use Rattle.pg_world.specs.Choices.{choices}
use Rattle.pg_world.specs.Choosing.{Choice, does}
use Rattle.pg_world.specs.Sessions.{first_running}
use Rattle.pg_world.specs.declared.placed.PlacedRow.{PlacedRow}
use Rattle.pg_world.specs.declared.session.Running.{Running}
use Rattle.pg_world.specs.declared.session.Stage.{Stage}
use Rattle.pg_world.specs.declared.session.Stage.TheVariants.{Between as between, Found as found, Locked as locked, Placed as placed}
use Rattle.pg_world.specs.declared.session.VersionName.{VersionName}
use Rattle.pg_table.specs.States.{TableState, row_erased_in, row_held_in, row_staged_in, row_written_in, staged_at, table_shown}
use Rattle.pg_scans.specs.Readings.{HaveVersions, IsReading, ReadingView, new_reading, pieces_left}
use Rattle.pg_plans.specs.Answers.{IsAnswerBehind}
use Rattle.pg_plans.specs.declared.act.Act.{Act}
use Rattle.pg_plans.specs.declared.act.Act.TheVariants as answer
use Rattle.pg_relation.specs.Running.{running_after_act}
use Rattle.pg_relation.specs.Weight.{under_way_count}

-- how far the statement has come; until it has its candidates how far it has read; and whether the
-- new values of the row that it has locked are staged
pub record ChangeView : Type 0 where
  pub running : Running
  pub reading : Option ReadingView
  pub staged : Bool

-- the tables that it reads: its target, and its sources in the order written
abbrev pub tables_of : Change → List ℕ
tables_of change = change.target.table ∷ map table_of_source change.sources

-- an UPDATE or DELETE that has its snapshot and has read nothing
abbrev pub new_change : Change → Me → SnapshotView → ChangeView
new_change change me snapshot =
    record {
      running = first_running me snapshot.commits (Ok []);
      reading = Some (new_reading me snapshot (tables_of change));
      staged = false;
    }

-- the row of the target of which the candidate taken up last is made
abbrev pub target_in : Running → ℕ
target_in running = target_row (partners_in running)

-- that row, as the tables show it
abbrev pub target_shown : Change → List TableState → Running → Row
target_shown change tables running =
    row_at (table_at (map table_shown tables) change.target.table) (target_in running)

-- what it may do next, by what the tables show
abbrev pub change_choices_in : Change → List TableState → Transactions → Running → List Choice
change_choices_in change tables transactions running =
    choices (statement.Change change) (map table_shown tables) transactions running

-- the act that writes new values of that row
abbrev pub updated_in : Change → Running → EntryAct
updated_in change running = entry.Updated change.target.table (target_in running)

-- What holds of the machine.

-- the tag has counted an act for no more candidates than were taken up, but for one that is under way
abbrev pub IsCounted : Running → Type 0
IsCounted running = running.acts + under_way_count running.stage ≤ running.candidate

-- While it reads, it reads its tables, by the snapshot of the statement; what it has collected is what
-- it sees; and it has no candidates yet.
pub record IsReadingFor (change : Change) (tables : List TableState) (transactions : Transactions)
    (running : Running) (reading : ReadingView) : Type 0 where
  pub tables_are : reading.tables ≡ tables_of change
  pub collected : IsReading tables transactions reading
  pub begun : running ≡ first_running reading.me reading.snapshot.commits (Ok [])

-- what holds of an UPDATE or DELETE while it reads
abbrev pub IsChanging : Change → List TableState → Transactions → ChangeView → Type 0
IsChanging change tables transactions machine =
    IfSome machine.reading (IsReadingFor change tables transactions machine.running)

-- What it has locked: the newest version of the row is there, is also the current one for its
-- transaction, and has that name.
pub record HoldsItsRow (change : Change) (tables : List TableState) (transactions : Transactions)
    (running : Running) (name : VersionName) : Type 0 where
  pub version : Version
  pub newest_is : newest (target_shown change tables running) ≡ Some version
  pub current_is : current transactions running.me.xact (target_shown change tables running)
      ≡ Some version
  pub name_is : name_of version ≡ name
  pub there : is_some version.values ≡ true

-- a row of the table of that number can get a version: it was drawn, and no draft of it waits
abbrev pub CanChange : List TableState → ℕ → ℕ → Type 0
CanChange tables number row =
    (state : TableState) → item_at tables number ≡ Some state →
    (0 < row) × (row ≤ state.store.drawn) × HasNoDraft state.store.versions row

-- no draft of the row waits
abbrev pub IsUndrafted : Change → List TableState → Running → Type 0
IsUndrafted change tables running =
    (state : TableState) → item_at tables change.target.table ≡ Some state →
    HasNoDraft state.store.versions (target_in running)

-- what is staged for a row of the table of that number, if anything is
abbrev pub staged_in : List TableState → ℕ → ℕ → Option PlacedRow
staged_in tables number row =
    option_and_then (λ state. staged_at state row) (item_at tables number)

-- these values are staged for the row, by who runs the statement
abbrev pub AreStaged : Change → List TableState → Running → List Value → Type 0
AreStaged change tables running values =
    staged_in tables change.target.table (target_in running)
    ≡ Some (record { row = target_in running; me = running.me; values = values })

-- The new values of the row are staged: they are what it is to hold now, and to write them is the only
-- choice.
pub record IsStaged (change : Change) (tables : List TableState) (transactions : Transactions)
    (running : Running) : Type 0 where
  pub values : List Value
  pub made : values_to_hold change (map table_shown tables) running ≡ Ok (Some values)
  pub choice : change_choices_in change tables transactions running
      ≡ does (updated_in change running) ∷ []
  pub staged : AreStaged change tables running values

-- the new values of the row are staged, or no draft of it waits
abbrev pub IsStagedIf : Bool → Change → List TableState → Transactions → Running → Type 0
IsStagedIf true change tables transactions running = IsStaged change tables transactions running
IsStagedIf false change tables transactions running = IsUndrafted change tables running

-- what holds of the row at a stage: once it is locked
abbrev pub IsHoldingAt : Stage → Change → List TableState → Transactions → ChangeView → Type 0
IsHoldingAt (locked name) change tables transactions machine =
    HoldsItsRow change tables transactions machine.running name
    × IsStagedIf machine.staged change tables transactions machine.running
IsHoldingAt between change tables transactions machine = Unit {0}
IsHoldingAt found change tables transactions machine = Unit {0}
IsHoldingAt (placed row) change tables transactions machine = Unit {0}

-- and of the machine
abbrev pub IsHolding : Change → List TableState → Transactions → ChangeView → Type 0
IsHolding change tables transactions machine =
    IsHoldingAt machine.running.stage change tables transactions machine

-- How many steps without an entry are left at most, before the next entry.

-- while it reads: one for each piece, where no table has more than so many versions, and one for the
-- candidates
abbrev pub reading_left : ℕ → Option ReadingView → ℕ
reading_left most None = 0
reading_left most (Some reading) = 1 + pieces_left most reading

-- one to stage the new values of a row, once that is locked
abbrev pub stagings_at : Stage → Bool → ℕ
stagings_at (locked name) false = 1
stagings_at (locked name) true = 0
stagings_at between staged = 0
stagings_at found staged = 0
stagings_at (placed row) staged = 0

-- that of a machine
abbrev pub stagings_left : ChangeView → ℕ
stagings_left machine = stagings_at machine.running.stage machine.staged

-- and all of them
abbrev pub quiet_left : ℕ → ChangeView → ℕ
quiet_left most machine = reading_left most machine.reading + stagings_left machine

-- What a step comes to.

-- While it reads each step is quiet, and so is the step that stages new values; every other answer is
-- the only choice.
abbrev pub IsAnswer : List Choice → ChangeView → Act → Type 0
IsAnswer given machine act = IsAnswerBehind machine.reading given act

-- whether new values are staged behind an act: none are for a row that has just been locked, and what
-- was written is staged no more
abbrev pub staged_after_act : EntryAct → Bool → Bool
staged_after_act (entry.Locked table row strength) staged = false
staged_after_act (entry.Updated table row) staged = false
staged_after_act _ staged = staged

-- the tables behind an act: the row is held, what is staged for it is written, or it is erased
abbrev pub tables_after_act : Me → EntryAct → List TableState → List TableState
tables_after_act me (entry.Locked table row strength) tables =
    with_changed_item (λ state. row_held_in state me.xact row strength) tables table
tables_after_act me (entry.Updated table row) tables =
    with_changed_item (λ state. row_written_in state row) tables table
tables_after_act me (entry.Deleted table row) tables =
    with_changed_item (λ state. row_erased_in state me row) tables table
tables_after_act me _ tables = tables

-- only what is staged is written
abbrev pub IsStagedFor : EntryAct → Bool → Type 0
IsStagedFor (entry.Updated table row) staged = staged ≡ true
IsStagedFor _ staged = Unit {0}

-- the machine has done its act
pub record HasDone (tables : List TableState) (transactions : Transactions) (machine : ChangeView)
    (act : EntryAct) (next : ChangeView) (after : List TableState) : Type 0 where
  pub running : next.running
      ≡ running_after_act (map table_shown tables) transactions act machine.running
  pub reading : next.reading ≡ None
  pub staged : next.staged ≡ staged_after_act act machine.staged
  pub written : IsStagedFor act machine.staged
  pub tables_are : after ≡ tables_after_act machine.running.me act tables

-- an UPDATE or DELETE that has read its tables, with the candidates of what it sees, or their first
-- error
abbrev pub change_planned : Change → List TableState → Transactions → ChangeView → ChangeView
change_planned change tables transactions machine =
    record machine {
      running = first_running machine.running.me machine.running.snapshot
          (candidates_of (statement.Change change) (map table_shown tables) transactions
          machine.running.snapshot machine.running.me);
      reading = None;
    }

-- it has read on, or it has its candidates
pub record HasReadOn (change : Change) (tables : List TableState) (transactions : Transactions)
    (machine next : ChangeView) : Type 0 where
  pub changing : IsChanging change tables transactions next
  pub reached : MatchOption next.reading
      (next ≡ change_planned change tables transactions machine)
      (λ reading. next ≡ record machine { reading = Some reading })

-- The new values of the row that it has locked are staged in its table, and nobody sees them: to write
-- them is its only choice.
pub record HasStaged (change : Change) (tables : List TableState) (transactions : Transactions)
    (machine next : ChangeView) (after : List TableState) : Type 0 where
  pub values : List Value
  pub made : values_to_hold change (map table_shown tables) machine.running ≡ Ok (Some values)
  pub choice : change_choices_in change tables transactions machine.running
      ≡ does (updated_in change machine.running) ∷ []
  pub unstaged : machine.staged ≡ false
  pub next_is : next ≡ record machine { staged = true }
  pub tables_are : after
      ≡ with_changed_item
      (λ state. row_staged_in state machine.running.me (target_in machine.running) values) tables
      change.target.table
  pub shown : map table_shown after ≡ map table_shown tables
  pub staged : AreStaged change after machine.running values

-- what a quiet step comes to: while it reads no table changes, and behind that it stages new values
abbrev pub IsNearer : Change → List TableState → Transactions → ChangeView → ChangeView →
    List TableState → Type 0
IsNearer change tables transactions machine next after =
    MatchOption machine.reading (HasStaged change tables transactions machine next after)
    (λ reading. (after ≡ tables) × HasReadOn change tables transactions machine next)

-- and fewer are left
pub record GoesOn (change : Change) (tables : List TableState) (transactions : Transactions)
    (machine next : ChangeView) (after : List TableState) : Type 0 where
  pub less : (most : ℕ) → HaveVersions most tables → quiet_left most next < quiet_left most machine
  pub nearer : IsNearer change tables transactions machine next after

-- the machine and the tables behind a step with that answer: where it is neither an act nor quiet
-- nothing changes
abbrev pub IsStep : Change → List TableState → Transactions → ChangeView → Act → ChangeView →
    List TableState → Type 0
IsStep change tables transactions machine (answer.Entry act) next after =
    HasDone tables transactions machine act next after
IsStep change tables transactions machine answer.Quiet next after =
    GoesOn change tables transactions machine next after
IsStep change tables transactions machine _ next after = (next ≡ machine) × (after ≡ tables)
