-- In every legal world rows are guarded, and statements hold what they have locked: one pass over the
-- kinds of entries.
use Rattle.std.proofs.Common.{◌≡◌, ◌<◌, ◌≤◌, ◌+◌, ◌⊎◌, ℕ, zero, suc, List, [], Option, Some, None, slice_get, slice_set, refl, sym, ap, ◌∙◌, subst, inl, inr, arith}
use Rattle.std.specs.Prelude.{Ok, option_map}
use Rattle.pg_lists.specs.Numbered.{with_changed_item}
use Rattle.pg_values.specs.declared.value.Value.{Value}
use Rattle.pg_multi.specs.declared.row_lock.RowLock.{RowLock}
use Rattle.pg_multi.specs.declared.strength.Strength.TheVariants.{NoKeyUpdate}
use Rattle.pg_xacts.specs.Transactions.{beginner_of, next_number, status_of}
use Rattle.pg_heap.specs.declared.row.Row.{Row}
use Rattle.pg_heap.specs.declared.version.Version.{Version}
use Rattle.pg_heap.specs.Rows.{row_of, row_stored}
use Rattle.pg_model.specs.declared.journal.EntryAct.{EntryAct}
use Rattle.pg_model.specs.declared.journal.EntryAct.TheVariants as entry
use Rattle.pg_model.specs.declared.journal.Reply.{Reply}
use Rattle.pg_model.specs.declared.script.Script.{Script}
use Rattle.pg_model.specs.declared.statement.Change.{Change}
use Rattle.pg_model.specs.declared.statement.Statement.TheVariants as statement
use Rattle.pg_world.specs.declared.session.Progress.TheVariants.{Inside as inside}
use Rattle.pg_world.specs.declared.session.Running.{Running}
use Rattle.pg_world.specs.declared.session.SessionView.{SessionView}
use Rattle.pg_world.specs.declared.session.Stage.TheVariants.{Locked as locked, Placed as placed}
use Rattle.pg_world.specs.declared.session.VersionName.{VersionName}
use Rattle.pg_world.specs.declared.table.TableView.{TableView}
use Rattle.pg_world.specs.Tables.{locks_on, placed_stored, row_inserted, row_placed}
use Rattle.pg_world.specs.Worlds.{World}
use Rattle.pg_relation.specs.Effect.{act_effect, candidates_at, me_for, me_in, proposed_in, session_replied, transaction_for, transactions_opened, with_open, with_running}
use Rattle.pg_relation.specs.Running.{running_acted, running_found, running_passed, running_placed}
use Rattle.pg_world.specs.Sessions.{first_running}
use Rattle.pg_relation.specs.Lines.{statement_at}
use Rattle.pg_relation.specs.Locking.{Each, HoldsAtLeast, IsCommanding, Runs, RunsOrCommitted, WroteWithin}
use Rattle.pg_relation.specs.Needs.{IsAtStage}
use Rattle.pg_relation.proofs.Deciding.{locked_goes_on}
use Rattle.pg_relation.proofs.Ends.{never_begun}
use Rattle.pg_relation.proofs.LockingSteps.{HoldsLocked, IsLocking, KeepsWritten, LeavesRows, commands_step, leaves_begun, leaves_same, leaves_stored, others_step, tables_step}
use Rattle.pg_relation.proofs.Leaving.{Waits}
use Rattle.pg_relation.proofs.Placing.{IsTidy, inserting}
use Rattle.pg_relation.proofs.Acted.{acted, sessions_acted}
use Rattle.pg_relation.proofs.RowSteps.{IsSame, IsStored, RowsStep, TablesStep, past, rows_drawn, rows_stored, tables_changed, tables_same}
use Rattle.pg_relation.proofs.Spares.{IsStable, each_set_other}
use Rattle.pg_relation.proofs.Stable.{going_open, open_at}
use Rattle.pg_relation.proofs.Versions.{each_map, each_more}

module _ (script : Script) (world : World) (number : ℕ) (session : SessionView) (is : slice_get world.sessions number ≡ Some session)
    (stable : IsStable script world) (tidy : IsTidy script world) (locking : IsLocking script world) where
  -- a statement that has locked a row has its transaction open
  pub runs_open : (j : ℕ) (z : SessionView) → slice_get world.sessions j ≡ Some z → (running : Running) (change : Change) (name : VersionName) →
      z.progress ≡ inside running → statement_at script j z ≡ Some (Ok (statement.Change change)) → running.stage ≡ locked name →
      Runs world.transactions running.me.xact
  runs_open j z z_is running change name inside_is own_is stage_is =
      let holds = stable.each j z z_is in
      (holds.owner running.me.xact
      (going_open script world j z running (statement.Change change) (holds.reading running inside_is) own_is
      (λ none. locked_goes_on world.tables world.transactions running change name stage_is none))).0

  -- a step, where what the session has written and holds behind it is known
  pub locking_step : (R : Row → List RowLock → Row → List RowLock → Type 0) (act : EntryAct) (new : World) →
      act_effect world number (statement_at script number session) session act ≡ new → TablesStep R world.tables new.tables →
      LeavesRows R world.transactions new.transactions number →
      HoldsLocked script new number (acted world number (statement_at script number session) session act) →
      IsLocking script (act_effect world number (statement_at script number session) session act)
  locking_step R act new same steps leaves own =
      subst (λ w. IsLocking script w) (sym same) (record {
        tables = λ n table table_is. tables_step R script world new number behind stable locking steps leaves n table table_is;
        sessions = λ j z z_is.
            each_set_other (λ j z. HoldsLocked script new j z) world.sessions number behind
            (λ j z apart e. others_step R script world new number behind stable locking steps leaves (λ j z. runs_open j z) j z apart e)
            own j z (subst (λ ss. slice_get ss j ≡ Some z) sessions z_is);
      })
    where
      behind : SessionView
      behind = acted world number (statement_at script number session) session act

      sessions : new.sessions ≡ slice_set world.sessions number behind
      sessions = ap (λ w. w.sessions) (sym same) ∙ sessions_acted world number (statement_at script number session) session act is

  -- where the statement has locked no row
  pub holding_nothing : (new : World) (behind : SessionView) (next : Running) → behind.progress ≡ inside next →
      ((name : VersionName) → next.stage ≡ locked name → ⊥) → IsCommanding new behind → HoldsLocked script new number behind
  holding_nothing new behind next next_is apart commanding = record {
    commanding = commanding;
    holding = λ running change name inside_is own_is stage_is.
        let e : inside next ≡ inside running = sym next_is ∙ inside_is in
        let f : next ≡ running = cc e in
        absurd (apart name (ap (λ r. r.stage) f ∙ stage_is));
  }

  -- or the session is in no statement
  pub holding_nowhere : (new : World) (behind : SessionView) → ((running : Running) → behind.progress ≡ inside running → ⊥) →
      IsCommanding new behind → HoldsLocked script new number behind
  holding_nowhere new behind nowhere commanding = record {
    commanding = commanding;
    holding = λ running change name inside_is own_is stage_is. absurd (nowhere running inside_is);
  }

  pub own_commanding : IsCommanding world session
  own_commanding = (locking.sessions number session is).commanding

  -- what it has written, where the transaction is as it was
  pub commanding_on : (R : Row → List RowLock → Row → List RowLock → Type 0) (new : World) (behind : SessionView) (old next : Running) →
      TablesStep R world.tables new.tables →
      ((xact : ℕ) → session.transaction ≡ Some xact → KeepsWritten R xact session.command session.command) →
      session.progress ≡ inside old → behind ≡ record session { progress = inside next } → next.me ≡ old.me → IsCommanding new behind
  commanding_on R new behind old next steps keeps inside_is same me =
      subst (λ z. IsCommanding new z) (sym same) (record {
        within = λ xact open_is.
            commands_step R world.tables new.tables steps xact session.command session.command (keeps xact open_is)
            (own_commanding.within xact open_is);
        latest = λ running xact progress_is open_is.
            let e : inside next ≡ inside running = progress_is in
            let f : next ≡ running = cc e in
            ap (λ r. r.me.command) (sym f) ∙ (ap (λ m. m.command) me ∙ own_commanding.latest old xact inside_is open_is);
      })

  -- or is no more
  pub commanding_none : (new : World) (behind : SessionView) → behind.transaction ≡ None → IsCommanding new behind
  commanding_none new behind none = record {
    within = λ xact open_is. absurd (let e : None ≡ Some xact = sym none ∙ open_is in cc e);
    latest = λ running xact progress_is open_is. absurd (let e : None ≡ Some xact = sym none ∙ open_is in cc e);
  }

  -- entries that leave the rows
  pub quiet_steps : TablesStep IsSame world.tables world.tables
  quiet_steps = tables_same IsSame (λ row locks. (refl, refl)) world.tables

  quiet_written : (xact : ℕ) → session.transaction ≡ Some xact → KeepsWritten IsSame xact session.command session.command
  quiet_written xact open_is row behind locks left same within =
      subst (λ r. WroteWithin xact session.command r.versions) (sym same.0) within

  -- the statement behind a change of its place
  pub running_session : (change : Running → Running) (running : Running) → session.progress ≡ inside running →
      with_running change session session.progress ≡ record session { progress = inside (change running) }
  running_session change running inside_is = rw inside_is refl

  going_on : (new : World) (R : Row → List RowLock → Row → List RowLock → Type 0) (change : Running → Running) (running : Running) →
      session.progress ≡ inside running → (change running).me ≡ running.me → TablesStep R world.tables new.tables →
      ((xact : ℕ) → session.transaction ≡ Some xact → KeepsWritten R xact session.command session.command) →
      ((name : VersionName) → (change running).stage ≡ locked name → ⊥) →
      HoldsLocked script new number (with_running change session session.progress)
  going_on new R change running inside_is me steps keeps apart =
      holding_nothing new (with_running change session session.progress) (change running)
      (ap (λ z. z.progress) (running_session change running inside_is)) apart
      (commanding_on R new (with_running change session session.progress) running (change running) steps keeps inside_is
      (running_session change running inside_is) me)

  -- Entries that leave the rows as they are.

  pub locking_found : (candidate : ℕ) (running : Running) → session.progress ≡ inside running →
      IsLocking script (act_effect world number (statement_at script number session) session (entry.Found candidate))
  locking_found candidate running inside_is =
      locking_step IsSame (entry.Found candidate) _ refl quiet_steps (leaves_same world.transactions number)
      (going_on _ IsSame (running_found candidate) running inside_is refl quiet_steps quiet_written (λ name e. cc e))

  pub locking_passed : (running : Running) → session.progress ≡ inside running →
      IsLocking script (act_effect world number (statement_at script number session) session entry.Passed)
  locking_passed running inside_is =
      locking_step IsSame entry.Passed _ refl quiet_steps (leaves_same world.transactions number)
      (going_on _ IsSame running_passed running inside_is refl quiet_steps quiet_written (λ name e. cc e))

  pub locking_waits : (other : ℕ) → IsLocking script (act_effect world number (statement_at script number session) session (entry.Waits other))
  locking_waits other =
      locking_step IsSame (entry.Waits other) _ refl quiet_steps (leaves_same world.transactions number) (record {
        commanding = record { within = own_commanding.within; latest = own_commanding.latest };
        holding = λ running change name inside_is own_is stage_is.
            let h = (locking.sessions number session is).holding running change name inside_is own_is stage_is in
            record { table = h.table; table_is = h.table_is; row = h.row; row_is = h.row_is; held = h.held };
      })

  pub locking_replied : (reply : Reply) → IsLocking script (act_effect world number (statement_at script number session) session (entry.Replied reply))
  locking_replied reply =
      locking_step IsSame (entry.Replied reply) _ refl quiet_steps (leaves_same world.transactions number)
      (holding_nowhere _ (session_replied session reply.tag) (λ running e. cc e) (record {
        within = λ xact open_is.
            commands_step IsSame world.tables world.tables quiet_steps xact session.command session.command (quiet_written xact open_is)
            (own_commanding.within xact open_is);
        latest = λ running xact e open_is. absurd (cc e);
      }))

  -- a transaction is begun, where none is open
  leaves_opened : (t : Option ℕ) → LeavesRows IsSame world.transactions (transactions_opened world.transactions number t) number
  leaves_opened None = leaves_begun world.transactions number
  leaves_opened (Some xact) = leaves_same world.transactions number

  next_none : (xact : ℕ) → next_number world.transactions ≡ xact → status_of world.transactions xact ≡ None
  next_none zero e = absurd (omega (arith, e))
  next_none (suc place) e =
      ap (λ o. option_map (λ t. t.status) o) (past world.transactions.list place (omega (arith, e)))

  opened_within : (t : Option ℕ) → session.transaction ≡ t → (xact : ℕ) → transaction_for world.transactions t ≡ xact →
      (n : ℕ) (table : TableView) → slice_get world.tables n ≡ Some table → (k : ℕ) (row : Row) → row_of table.rows k ≡ Some row →
      WroteWithin xact (session.command + 1) row.versions
  opened_within (Some old) t_is xact same n table table_is k row row_is =
      each_map (λ one. one.writer ≡ xact → one.command ≤ session.command) (λ one. one.writer ≡ xact → one.command ≤ session.command + 1)
      (λ one most e. let m = most e in omega (arith, m)) row.versions
      (own_commanding.within xact (t_is ∙ ap (λ x. Some x) same) n table table_is k row row_is)
  opened_within None t_is xact same n table table_is k row row_is =
      each_map (λ one. RunsOrCommitted world.transactions one.writer) (λ one. one.writer ≡ xact → one.command ≤ session.command + 1)
      (λ one begun e. absurd (never_begun world.transactions xact (next_none xact same) (subst (λ x. RunsOrCommitted world.transactions x) e begun)))
      row.versions ((locking.tables n table table_is).rows k row row_is).written

  pub locking_snapped : (commits : ℕ) → IsLocking script (act_effect world number (statement_at script number session) session (entry.Snapped commits))
  locking_snapped commits =
      locking_step IsSame (entry.Snapped commits) _ refl quiet_steps (leaves_opened session.transaction)
      (holding_nothing _ (acted world number (statement_at script number session) session (entry.Snapped commits)) _ refl (λ name e. cc e) (record {
        within = λ xact open_is. let e : transaction_for world.transactions session.transaction ≡ xact = cc open_is in
            opened_within session.transaction refl xact e;
        latest = λ running xact e open_is.
            let f : first_running (me_for world.transactions number session) commits
            (candidates_at (statement_at script number session) (with_open world number session) commits (me_for world.transactions number session)) ≡ running = cc e in
            ap (λ r. r.me.command) (sym f);
      }))

  -- a row is drawn
  pub locking_placed : (table row : ℕ) (running : Running) → session.progress ≡ inside running →
      IsLocking script (act_effect world number (statement_at script number session) session (entry.Placed table row))
  locking_placed table row running inside_is =
      locking_step IsSame (entry.Placed table row) _ refl steps (leaves_same world.transactions number)
      (going_on _ IsSame (running_placed row) running inside_is refl steps quiet_written (λ name e. cc e))
    where
      steps : TablesStep IsSame world.tables (with_changed_item (λ view. row_placed view (me_in session.progress) (proposed_in session.progress)) world.tables table)
      steps =
          tables_changed IsSame (λ row locks. (refl, refl)) world.tables
          (λ view. row_placed view (me_in session.progress) (proposed_in session.progress)) table
          (λ view view_is. rows_drawn view (row_placed view (me_in session.progress) (proposed_in session.progress))
          (locking.tables table view view_is).listed refl refl)

  -- A row has a version more.

  -- who writes
  module _ (running : Running) (inside_is : session.progress ≡ inside running) (open_is : session.transaction ≡ Some running.me.xact) where
    pub owns : Runs world.transactions (me_in session.progress).xact × (beginner_of world.transactions (me_in session.progress).xact ≡ Some number)
    owns =
        subst (λ m. Runs world.transactions m.xact × (beginner_of world.transactions m.xact ≡ Some number)) (sym (ap me_in inside_is))
        ((stable.each number session is).owner running.me.xact open_is)

    -- what a session has written, with a version more
    stored_written : (at_row : Row) (at_locks : List RowLock) (values : Option (List Value)) (xact : ℕ) → session.transaction ≡ Some xact →
        KeepsWritten (IsStored at_row at_locks (record { values = values; writer = (me_in session.progress).xact; command = (me_in session.progress).command }))
        xact session.command session.command
    stored_written at_row at_locks values xact by row behind locks left (inl same) within =
        subst (λ r. WroteWithin xact session.command r.versions) (sym same.0) within
    stored_written at_row at_locks values xact by row behind locks left (inr h) within =
        subst (λ r. WroteWithin xact session.command r.versions) (sym h.2)
        (each_more (λ one. one.writer ≡ xact → one.command ≤ session.command) at_row.versions
        (record { values = values; writer = (me_in session.progress).xact; command = (me_in session.progress).command })
        (subst (λ r. WroteWithin xact session.command r.versions) h.0 within)
        (λ e. let a = ap (λ m. m.command) (ap me_in inside_is) in
        let b = own_commanding.latest running running.me.xact inside_is open_is in omega (arith, a, b)))

    pub stored_act : (act : EntryAct) (table row : ℕ) (view : TableView) (at_row : Row) (values : Option (List Value))
        (change : TableView → TableView) (new : World) →
        act_effect world number (statement_at script number session) session act ≡ new →
        new.tables ≡ with_changed_item change world.tables table → new.transactions ≡ world.transactions →
        acted world number (statement_at script number session) session act ≡ with_running running_acted session session.progress →
        slice_get world.tables table ≡ Some view → row_of view.rows row ≡ Some at_row →
        (change view).rows ≡ row_stored view.rows row (record { values = values; writer = (me_in session.progress).xact; command = (me_in session.progress).command }) →
        (change view).locks ≡ view.locks →
        (at_row.versions ≡ []) ⊎ HoldsAtLeast (locks_on view row) (me_in session.progress).xact NoKeyUpdate →
        Each (λ one. (me_in session.progress).xact ≡ one.writer → one.command < (me_in session.progress).command) at_row.versions →
        IsLocking script (act_effect world number (statement_at script number session) session act)
    stored_act act table row view at_row values change new same tables transactions acted_is view_is row_is rows locks alone early =
        locking_step (IsStored at_row (locks_on view row) version) act new same steps
        (subst (λ t. LeavesRows (IsStored at_row (locks_on view row) version) world.transactions t number) (sym transactions)
        (leaves_stored world number at_row (locks_on view row) version owns.0 owns.1 alone early))
        (subst (λ z. HoldsLocked script new number z) (sym acted_is)
        (going_on new (IsStored at_row (locks_on view row) version) running_acted running inside_is refl steps
        (stored_written at_row (locks_on view row) values) (λ name e. cc e)))
      where
        version : Version
        version = record { values = values; writer = (me_in session.progress).xact; command = (me_in session.progress).command }

        steps : TablesStep (IsStored at_row (locks_on view row) version) world.tables new.tables
        steps =
            subst (λ ts. TablesStep (IsStored at_row (locks_on view row) version) world.tables ts) (sym tables)
            (tables_changed (IsStored at_row (locks_on view row) version) (λ row locks. inl (refl, refl)) world.tables change table
            (λ one one_is.
            let e : Some view ≡ Some one = sym view_is ∙ one_is in
            let f : view ≡ one = cc e in
            subst (λ v. RowsStep (IsStored at_row (locks_on view row) version) v (change v)) f
            (rows_stored view (change view) row at_row version row_is rows locks)))

  -- the first version of a row that was placed
  pub locking_inserted : (table row : ℕ) → IsAtStage world (statement_at script number session) session (placed row) (entry.Inserted table row) →
      IsLocking script (act_effect world number (statement_at script number session) session (entry.Inserted table row))
  locking_inserted table row s =
      by (inserting script world number session is stable tidy table row s)
    where
      by : Waits world.tables table row (me_in session.progress) (proposed_in session.progress) →
          IsLocking script (act_effect world number (statement_at script number session) session (entry.Inserted table row))
      by waits =
          stored_act s.opened.running s.opened.inside_is (open_at script world number session is stable (placed row) (entry.Inserted table row) s)
          (entry.Inserted table row) table row waits.0 (record { number = row; versions = [] }) (Some (proposed_in session.progress))
          (λ view. row_inserted view (me_in session.progress) row) _ refl refl refl refl waits.1 waits.2.fresh
          (ap (λ o. (placed_stored waits.0 (me_in session.progress) row o).rows) waits.2.placed)
          (ap (λ o. (placed_stored waits.0 (me_in session.progress) row o).locks) waits.2.placed)
          (inl refl) tt
