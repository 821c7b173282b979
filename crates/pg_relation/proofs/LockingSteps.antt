-- What holds of the locks and versions of all rows, and what an entry of one session leaves of it: by
-- how rows come out of those before.
use Rattle.std.proofs.Common.{◌≡◌, ◌≢◌, ◌<◌, ◌≤◌, ◌⊎◌, ℕ, not, List, [], ◌∷◌, ◌++◌, Some, None, slice_get, refl, sym, ap, ◌∙◌, subst, inl, inr}
use Rattle.std.specs.List.{last_or}
use Rattle.std.specs.Prelude.{Ok}
use Rattle.pg_multi.specs.declared.row_lock.RowLock.{RowLock}
use Rattle.pg_multi.specs.declared.strength.Strength.{Strength}
use Rattle.pg_multi.specs.declared.strength.Strength.TheVariants.{NoKeyUpdate}
use Rattle.pg_multi.specs.Locks.{blocker, lock_joined, locks_left}
use Rattle.pg_multi.specs.Strengths.{rank_of}
use Rattle.pg_xacts.specs.declared.me.Me.{Me}
use Rattle.pg_xacts.specs.Transactions.{Transactions, beginner_of, transaction_begun}
use Rattle.pg_heap.specs.declared.row.Row.{Row}
use Rattle.pg_heap.specs.declared.version.Version.{Version}
use Rattle.pg_heap.specs.Current.{current}
use Rattle.pg_heap.specs.Rows.{is_written_by, row_of, with_version}
use Rattle.pg_model.specs.declared.script.Script.{Script}
use Rattle.pg_model.specs.declared.statement.Action.{Action}
use Rattle.pg_model.specs.declared.statement.Change.{Change}
use Rattle.pg_model.specs.declared.statement.Statement.TheVariants as statement
use Rattle.pg_world.specs.declared.session.Progress.TheVariants.{Inside as inside}
use Rattle.pg_world.specs.declared.session.Running.{Running}
use Rattle.pg_world.specs.declared.session.SessionView.{SessionView}
use Rattle.pg_world.specs.declared.session.Stage.TheVariants.{Locked as locked}
use Rattle.pg_world.specs.declared.session.VersionName.{VersionName}
use Rattle.pg_world.specs.declared.table.TableView.{TableView}
use Rattle.pg_world.specs.Changes.{partners_in, target_row}
use Rattle.pg_world.specs.Tables.{TransactionEnd, commit, rollback, locks_on}
use Rattle.pg_world.specs.Worlds.{World, transactions_after_end}
use Rattle.pg_relation.specs.Lines.{statement_at}
use Rattle.pg_relation.specs.Locking.{Each, HoldsAtLeast, IsCommanding, IsFirstBy, IsGuarded, IsGuardedTable, IsHeldRow, IsHolding, Runs, WroteWithin}
use Rattle.pg_relation.proofs.Guarded.{guarded_begun, guarded_committed, guarded_fresh, guarded_locked, guarded_rolled_back, guarded_stored, no_other_held}
use Rattle.pg_relation.proofs.Holding.{held_alone, held_begun, held_ended, held_locked}
use Rattle.pg_relation.proofs.RowSteps.{IsEnded, IsLockedFor, IsNew, IsSame, IsStored, RowsStep, TablesStep, row_ended}
use Rattle.pg_relation.proofs.Spares.{IsStable, not_owner}
use Rattle.pg_relation.proofs.Versions.{each_filter, each_more}

-- what a session has written, and the row that its statement has locked
pub record HoldsLocked (script : Script) (world : World) (number : ℕ) (session : SessionView) : Type 0 where
  pub commanding : IsCommanding world session
  pub holding : (running : Running) (change : Change) (name : VersionName) → session.progress ≡ inside running →
      statement_at script number session ≡ Some (Ok (statement.Change change)) → running.stage ≡ locked name →
      IsHolding world change running name

pub record IsLocking (script : Script) (world : World) : Type 0 where
  pub tables : (number : ℕ) (table : TableView) → slice_get world.tables number ≡ Some table →
      IsGuardedTable world.transactions table
  pub sessions : (number : ℕ) (session : SessionView) → slice_get world.sessions number ≡ Some session →
      HoldsLocked script world number session

-- What is to be shown of each way in which rows come out.

-- the guards of rows are kept
abbrev pub KeepsGuards : (Row → List RowLock → Row → List RowLock → Type 0) → Transactions → Transactions → Type 0
KeepsGuards R transactions after = (number : ℕ) (row behind : Row) (locks left : List RowLock) → R row locks behind left →
    IsGuarded transactions number row locks → IsGuarded after number behind left

-- what a transaction has written was written by its first commands
abbrev pub KeepsWritten : (Row → List RowLock → Row → List RowLock → Type 0) → ℕ → ℕ → ℕ → Type 0
KeepsWritten R xact command now = (row behind : Row) (locks left : List RowLock) → R row locks behind left →
    WroteWithin xact command row.versions → WroteWithin xact now behind.versions

-- what another holds is held
abbrev pub KeepsHeld : (Row → List RowLock → Row → List RowLock → Type 0) → Transactions → Transactions → Me → Type 0
KeepsHeld R transactions after me = (action : Action) (name : VersionName) (number : ℕ) (row behind : Row) (locks left : List RowLock) →
    R row locks behind left → IsGuarded transactions number row locks →
    IsHeldRow transactions me action name number row locks → IsHeldRow after me action name number behind left

-- what an entry of the session of that number leaves to the others
pub record LeavesRows (R : Row → List RowLock → Row → List RowLock → Type 0) (transactions after : Transactions) (number : ℕ) : Type 0 where
  pub guards : KeepsGuards R transactions after
  pub written : (xact owner command : ℕ) → beginner_of transactions xact ≡ Some owner → owner ≢ number → KeepsWritten R xact command command
  pub held : (me : Me) (owner : ℕ) → beginner_of transactions me.xact ≡ Some owner → owner ≢ number → Runs transactions me.xact →
      KeepsHeld R transactions after me

-- what holds of a row and its locks holds of the same
pub moved : (P : Row → List RowLock → Type 0) (row behind : Row) (locks left : List RowLock) → IsSame row locks behind left → P row locks →
    P behind left
moved P row behind locks left same holds =
    subst (λ r. P r left) (sym same.0) (subst (λ l. P row l) (sym same.1) holds)

-- One step.

-- the written versions of a session behind a step
pub commands_step : (R : Row → List RowLock → Row → List RowLock → Type 0) (tables new : List TableView) → TablesStep R tables new →
    (xact command now : ℕ) → KeepsWritten R xact command now →
    ((number : ℕ) (table : TableView) → slice_get tables number ≡ Some table → (row_number : ℕ) (row : Row) →
    row_of table.rows row_number ≡ Some row → WroteWithin xact command row.versions) →
    (number : ℕ) (table : TableView) → slice_get new number ≡ Some table → (row_number : ℕ) (row : Row) →
    row_of table.rows row_number ≡ Some row → WroteWithin xact now row.versions
commands_step R tables new steps xact command now keeps before number table is row_number row row_is =
    at (steps.back number table is)
  where
    at : (view : TableView) × (slice_get tables number ≡ Some view) × RowsStep R view table → WroteWithin xact now row.versions
    at back = by (back.2.back row_number row row_is)
      where
        by : ((one : Row) × (row_of back.0.rows row_number ≡ Some one) × R one (locks_on back.0 row_number) row (locks_on table row_number))
            ⊎ IsNew row_number row (locks_on table row_number) → WroteWithin xact now row.versions
        by (inl h) = keeps h.0 row (locks_on back.0 row_number) (locks_on table row_number) h.2 (before number back.0 back.1 row_number h.0 h.1)
        by (inr fresh) = subst (λ r. WroteWithin xact now r.versions) (sym fresh.0) tt

-- the guards of a table
pub table_step : (R : Row → List RowLock → Row → List RowLock → Type 0) (transactions after : Transactions) (view table : TableView) →
    RowsStep R view table → KeepsGuards R transactions after → IsGuardedTable transactions view → IsGuardedTable after table
table_step R transactions after view table step keeps old = record {
  listed = step.listed old.listed;
  rows = λ k row row_is. by k row (step.back k row row_is);
}
  where
    by : (k : ℕ) (row : Row) →
        ((one : Row) × (row_of view.rows k ≡ Some one) × R one (locks_on view k) row (locks_on table k))
        ⊎ IsNew k row (locks_on table k) → IsGuarded after k row (locks_on table k)
    by k row (inl h) = keeps k h.0 row (locks_on view k) (locks_on table k) h.2 (old.rows k h.0 h.1)
    by k row (inr fresh) =
        moved (λ r l. IsGuarded after k r l) (record { number = k; versions = [] }) row [] (locks_on table k) fresh (guarded_fresh after k)

module _ (R : Row → List RowLock → Row → List RowLock → Type 0) (script : Script) (world new : World) (number : ℕ) (behind : SessionView)
    (stable : IsStable script world) (locking : IsLocking script world) (steps : TablesStep R world.tables new.tables)
    (leaves : LeavesRows R world.transactions new.transactions number) where
  pub tables_step : (n : ℕ) (table : TableView) → slice_get new.tables n ≡ Some table → IsGuardedTable new.transactions table
  tables_step n table is =
      let back = steps.back n table is in
      table_step R world.transactions new.transactions back.0 table back.2 leaves.guards (locking.tables n back.0 back.1)

  holding_step : (me : Me) (owner : ℕ) → beginner_of world.transactions me.xact ≡ Some owner → owner ≢ number →
      Runs world.transactions me.xact → (change : Change) (running : Running) (name : VersionName) → running.me ≡ me →
      IsHolding world change running name → IsHolding new change running name
  holding_step me owner mine apart runs change running name same holding =
      at (steps.forward change.target.table holding.table holding.table_is)
    where
      at : (table : TableView) × (slice_get new.tables change.target.table ≡ Some table) × RowsStep R holding.table table →
          IsHolding new change running name
      at there = by (there.2.forward (target_row (partners_in running)) holding.row holding.row_is)
        where
          by : (row : Row) × (row_of there.0.rows (target_row (partners_in running)) ≡ Some row)
              × R holding.row (locks_on holding.table (target_row (partners_in running))) row (locks_on there.0 (target_row (partners_in running))) →
              IsHolding new change running name
          by now = record {
            table = there.0;
            table_is = there.1;
            row = now.0;
            row_is = now.1;
            held = subst (λ m. IsHeldRow new.transactions m change.action name (target_row (partners_in running)) now.0 (locks_on there.0 (target_row (partners_in running)))) (sym same)
                (leaves.held me owner mine apart runs change.action name (target_row (partners_in running)) holding.row now.0
                (locks_on holding.table (target_row (partners_in running))) (locks_on there.0 (target_row (partners_in running))) now.2
                ((locking.tables change.target.table holding.table holding.table_is).rows (target_row (partners_in running)) holding.row holding.row_is)
                (subst (λ m. IsHeldRow world.transactions m change.action name (target_row (partners_in running)) holding.row
                (locks_on holding.table (target_row (partners_in running)))) same holding.held));
          }

  -- the other sessions
  pub others_step : (runs_open : (j : ℕ) (z : SessionView) → slice_get world.sessions j ≡ Some z → (running : Running) (change : Change) (name : VersionName) →
      z.progress ≡ inside running → statement_at script j z ≡ Some (Ok (statement.Change change)) → running.stage ≡ locked name →
      Runs world.transactions running.me.xact) →
      (j : ℕ) (z : SessionView) → (j ≡ number → ⊥) → slice_get world.sessions j ≡ Some z → HoldsLocked script new j z
  others_step runs_open j z apart is = record {
    commanding = record {
      within = λ xact open_is.
          commands_step R world.tables new.tables steps xact z.command z.command
          (leaves.written xact j z.command ((stable.each j z is).owner xact open_is).1 apart)
          ((locking.sessions j z is).commanding.within xact open_is);
      latest = (locking.sessions j z is).commanding.latest;
    };
    holding = λ running change name inside_is own_is stage_is.
        holding_step running.me j ((stable.each j z is).reading running inside_is).owned apart
        (runs_open j z is running change name inside_is own_is stage_is) change running name refl
        ((locking.sessions j z is).holding running change name inside_is own_is stage_is);
  }

-- Each way in which rows come out.

-- as they were, with other transactions
pub same_written : (xact command : ℕ) → KeepsWritten IsSame xact command command
same_written xact command row behind locks left same within = subst (λ r. WroteWithin xact command r.versions) (sym same.0) within

pub leaves_same : (transactions : Transactions) (number : ℕ) → LeavesRows IsSame transactions transactions number
leaves_same transactions number = record {
  guards = λ k row behind locks left same guarded. moved (λ r l. IsGuarded transactions k r l) row behind locks left same guarded;
  written = λ xact owner command mine apart. same_written xact command;
  held = λ me owner mine apart runs action name k row behind locks left same guarded held.
      moved (λ r l. IsHeldRow transactions me action name k r l) row behind locks left same held;
}

pub leaves_begun : (transactions : Transactions) (number : ℕ) → LeavesRows IsSame transactions (transaction_begun transactions number) number
leaves_begun transactions number = record {
  guards = λ k row behind locks left same guarded.
      moved (λ r l. IsGuarded (transaction_begun transactions number) k r l) row behind locks left same
      (guarded_begun transactions k row locks guarded number);
  written = λ xact owner command mine apart. same_written xact command;
  held = λ me owner mine apart runs action name k row behind locks left same guarded held.
      moved (λ r l. IsHeldRow (transaction_begun transactions number) me action name k r l) row behind locks left same
      (held_begun transactions me action name k row locks guarded held number);
}

-- one row locked
pub locked_written : (at_row : Row) (at_locks : List RowLock) (xact : ℕ) (strength : Strength) (other command : ℕ) →
    KeepsWritten (IsLockedFor at_row at_locks xact strength) other command command
locked_written at_row at_locks xact strength other command row behind locks left (inl same) within =
    same_written other command row behind locks left same within
locked_written at_row at_locks xact strength other command row behind locks left (inr h) within =
    subst (λ r. WroteWithin other command r.versions) (h.0 ∙ sym h.2) within

pub leaves_locked : (world : World) (number : ℕ) (at_row : Row) (at_locks : List RowLock) (xact : ℕ) (strength : Strength) (version : Version) →
    rank_of NoKeyUpdate ≤ rank_of strength → Runs world.transactions xact → current world.transactions xact at_row ≡ Some version →
    blocker at_locks xact strength ≡ None → LeavesRows (IsLockedFor at_row at_locks xact strength) world.transactions world.transactions number
leaves_locked world number at_row at_locks xact strength version strong runs current_is none = record {
  guards = guards;
  written = λ other owner command mine apart. locked_written at_row at_locks xact strength other command;
  held = λ me owner mine apart by. held me;
}
  where
    guards : KeepsGuards (IsLockedFor at_row at_locks xact strength) world.transactions world.transactions
    guards k row behind locks left (inl same) guarded = moved (λ r l. IsGuarded world.transactions k r l) row behind locks left same guarded
    guards k row behind locks left (inr h) guarded =
        subst (λ r. IsGuarded world.transactions k r left) (sym h.2)
        (subst (λ l. IsGuarded world.transactions k at_row l) (sym h.3)
        (guarded_locked world.transactions k at_row at_locks
        (subst (λ r. IsGuarded world.transactions k r at_locks) h.0 (subst (λ l. IsGuarded world.transactions k row l) h.1 guarded))
        xact strength version strong runs current_is none))

    held : (me : Me) → KeepsHeld (IsLockedFor at_row at_locks xact strength) world.transactions world.transactions me
    held me action name k row behind locks left (inl same) guarded now =
        moved (λ r l. IsHeldRow world.transactions me action name k r l) row behind locks left same now
    held me action name k row behind locks left (inr h) guarded now =
        subst (λ r. IsHeldRow world.transactions me action name k r left) (h.0 ∙ sym h.2)
        (subst (λ l. IsHeldRow world.transactions me action name k row l) (sym h.3)
        (subst (λ l. IsHeldRow world.transactions me action name k row (lock_joined l xact strength)) h.1
        (held_locked world.transactions me action name k row locks guarded now xact strength)))

-- one row with a version more: nobody else has it, since it had no version or is held for a change
pub leaves_stored : (world : World) (number : ℕ) (at_row : Row) (at_locks : List RowLock) (version : Version) →
    Runs world.transactions version.writer → beginner_of world.transactions version.writer ≡ Some number →
    (at_row.versions ≡ []) ⊎ HoldsAtLeast at_locks version.writer NoKeyUpdate →
    Each (λ one. version.writer ≡ one.writer → one.command < version.command) at_row.versions →
    LeavesRows (IsStored at_row at_locks version) world.transactions world.transactions number
leaves_stored world number at_row at_locks version runs mine alone early = record {
  guards = guards;
  written = λ other owner command theirs apart.
      written other command (λ e. not_owner world version.writer other owner number mine theirs apart e);
  held = λ me owner theirs apart by. held me (λ e. not_owner world version.writer me.xact owner number mine theirs apart e) by;
}
  where
    others : (k : ℕ) → IsGuarded world.transactions k at_row at_locks →
        (at_row.versions ≡ []) ⊎ HoldsAtLeast at_locks version.writer NoKeyUpdate → (other : ℕ) → Runs world.transactions other →
        other ≢ version.writer → Each (λ one. one.writer ≢ other) at_row.versions
    others k guarded (inl empty) other by apart = subst (λ vs. Each (λ one. one.writer ≢ other) vs) (sym empty) tt
    others k guarded (inr own) other by apart =
        no_other_held world.transactions k at_row at_locks guarded version.writer other own by apart

    holds : (at_row.versions ≡ []) ⊎ HoldsAtLeast at_locks version.writer NoKeyUpdate →
        IsFirstBy version.writer (at_row.versions ++ version ∷ []) ⊎ HoldsAtLeast at_locks version.writer NoKeyUpdate
    holds (inl empty) = inl (subst (λ vs. IsFirstBy version.writer (vs ++ version ∷ [])) (sym empty) refl)
    holds (inr own) = inr own

    guards : KeepsGuards (IsStored at_row at_locks version) world.transactions world.transactions
    guards k row behind locks left (inl same) guarded = moved (λ r l. IsGuarded world.transactions k r l) row behind locks left same guarded
    guards k row behind locks left (inr h) guarded =
        subst (λ r. IsGuarded world.transactions k r left) (sym h.2)
        (subst (λ l. IsGuarded world.transactions k (with_version version at_row) l) (sym h.3)
        (stored (subst (λ r. IsGuarded world.transactions k r at_locks) h.0 (subst (λ l. IsGuarded world.transactions k row l) h.1 guarded))))
      where
        stored : IsGuarded world.transactions k at_row at_locks → IsGuarded world.transactions k (with_version version at_row) at_locks
        stored guarded =
            guarded_stored world.transactions k at_row at_locks guarded version runs (others k guarded alone) early (holds alone)

    written : (other command : ℕ) → (version.writer ≡ other → ⊥) → KeepsWritten (IsStored at_row at_locks version) other command command
    written other command apart row behind locks left (inl same) within = same_written other command row behind locks left same within
    written other command apart row behind locks left (inr h) within =
        subst (λ r. WroteWithin other command r.versions) (sym h.2)
        (each_more (λ one. one.writer ≡ other → one.command ≤ command) at_row.versions version
        (subst (λ r. WroteWithin other command r.versions) h.0 within) (λ e. absurd (apart e)))

    never : (me : Me) (action : Action) (name : VersionName) (k : ℕ) → (version.writer ≡ me.xact → ⊥) → Runs world.transactions me.xact →
        IsGuarded world.transactions k at_row at_locks → IsHeldRow world.transactions me action name k at_row at_locks →
        (at_row.versions ≡ []) ⊎ HoldsAtLeast at_locks version.writer NoKeyUpdate → ⊥
    never me action name k apart by guarded now (inl empty) =
        let e : None ≡ Some now.version = sym (ap (λ vs. last_or None vs) empty) ∙ now.newest_is in cc e
    never me action name k apart by guarded now (inr own) =
        held_alone world.transactions me action name k at_row at_locks guarded now version.writer apart own by

    held : (me : Me) → (version.writer ≡ me.xact → ⊥) → Runs world.transactions me.xact →
        KeepsHeld (IsStored at_row at_locks version) world.transactions world.transactions me
    held me apart by action name k row behind locks left (inl same) guarded now =
        moved (λ r l. IsHeldRow world.transactions me action name k r l) row behind locks left same now
    held me apart by action name k row behind locks left (inr h) guarded now =
        absurd (never me action name k apart by
        (subst (λ r. IsGuarded world.transactions k r at_locks) h.0 (subst (λ l. IsGuarded world.transactions k row l) h.1 guarded))
        (subst (λ r. IsHeldRow world.transactions me action name k r at_locks) h.0 (subst (λ l. IsHeldRow world.transactions me action name k row l) h.1 now))
        alone)

-- the end of a transaction
pub ended_written : (xact : ℕ) (end : TransactionEnd) (other command : ℕ) → KeepsWritten (IsEnded xact end) other command command
ended_written xact end other command row behind locks left ended within =
    subst (λ r. WroteWithin other command r.versions) (sym ended.0) (at end)
  where
    at : (end : TransactionEnd) → WroteWithin other command (row_ended xact end row).versions
    at commit = within
    at rollback =
        each_filter (λ one. one.writer ≡ other → one.command ≤ command) (λ version. not (is_written_by xact version)) row.versions within

pub leaves_ended : (world : World) (number xact : ℕ) (end : TransactionEnd) → Runs world.transactions xact →
    beginner_of world.transactions xact ≡ Some number →
    LeavesRows (IsEnded xact end) world.transactions (transactions_after_end world.transactions xact end) number
leaves_ended world number xact end runs mine = record {
  guards = λ k row behind locks left ended guarded.
      subst (λ r. IsGuarded (transactions_after_end world.transactions xact end) k r left) (sym ended.0)
      (subst (λ l. IsGuarded (transactions_after_end world.transactions xact end) k (row_ended xact end row) l) (sym ended.1)
      (guards end k row locks guarded));
  written = λ other owner command theirs apart. ended_written xact end other command;
  held = λ me owner theirs apart by action name k row behind locks left ended guarded held.
      subst (λ r. IsHeldRow (transactions_after_end world.transactions xact end) me action name k r left) (sym ended.0)
      (subst (λ l. IsHeldRow (transactions_after_end world.transactions xact end) me action name k (row_ended xact end row) l) (sym ended.1)
      (held_ended world.transactions me action name k row locks guarded held xact runs
      (λ e. not_owner world xact me.xact owner number mine theirs apart e) end));
}
  where
    guards : (end : TransactionEnd) (k : ℕ) (row : Row) (locks : List RowLock) → IsGuarded world.transactions k row locks →
        IsGuarded (transactions_after_end world.transactions xact end) k (row_ended xact end row) (locks_left locks xact)
    guards commit k row locks guarded = guarded_committed world.transactions k row locks guarded xact runs
    guards rollback k row locks guarded = guarded_rolled_back world.transactions k row locks guarded xact runs
