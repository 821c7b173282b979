-- In every legal world rows are guarded, and statements hold what they have locked: one pass over the
-- kinds of entries.
use Rattle.std.proofs.Common.{◌≡◌, ◌⊎◌, ℕ, zero, suc, List, [], ◌∷◌, ◌++◌, length, Option, Some, None, slice_get, refl, sym, ap, ◌∙◌, subst, inl, inr, arith}
use Rattle.std.specs.Prelude.{Ok, option_map}
use Rattle.std.proofs.lemmas.Option.{slice_get-map}
use Rattle.pg_values.specs.declared.value.Value.{Value}
use Rattle.pg_xacts.specs.Transactions.{no_transactions}
use Rattle.pg_heap.specs.declared.row.Row.{Row}
use Rattle.pg_heap.specs.declared.version.Version.{Version}
use Rattle.pg_heap.specs.Rows.{row_drawn, row_of, with_version}
use Rattle.pg_model.specs.declared.journal.Entry.{Entry}
use Rattle.pg_model.specs.declared.journal.EntryAct.{EntryAct}
use Rattle.pg_model.specs.declared.journal.EntryAct.TheVariants as entry
use Rattle.pg_model.specs.declared.journal.Tag.{Tag}
use Rattle.pg_model.specs.declared.journal.Tag.TheVariants as tag
use Rattle.pg_model.specs.declared.script.Script.{Script}
use Rattle.pg_model.specs.declared.statement.Change.{Change}
use Rattle.pg_model.specs.declared.statement.Statement.TheVariants as statement
use Rattle.pg_world.specs.Changes.{partners_in, target_row}
use Rattle.pg_world.specs.Choices.{choices}
use Rattle.pg_world.specs.declared.session.Progress.TheVariants.{Inside as inside, Ending as ending, Closed as closed}
use Rattle.pg_world.specs.declared.session.Running.{Running}
use Rattle.pg_world.specs.declared.session.SessionView.{SessionView}
use Rattle.pg_world.specs.declared.session.Stage.TheVariants.{Locked as locked}
use Rattle.pg_world.specs.declared.table.TableView.{TableView}
use Rattle.pg_world.specs.Sessions.{fresh_session}
use Rattle.pg_world.specs.Tables.{TransactionEnd, commit, rollback, empty_table, locks_on, next_row, row_added, table_after_end, version_by}
use Rattle.pg_world.specs.Worlds.{World, with_end_of, with_session}
use Rattle.pg_relation.specs.Effect.{act_effect, effect, progress_ended, session_failed, values_set, without_transaction}
use Rattle.pg_relation.specs.Journals.{IsLegal, world_after}
use Rattle.pg_relation.specs.Lines.{statement_at}
use Rattle.pg_relation.specs.Locking.{IsGuarded, IsGuardedTable}
use Rattle.pg_relation.specs.Moves.{IsPermitted}
use Rattle.pg_relation.specs.Needs.{IsBefore, IsDone, IsLockedFor as IsLockedAt, Needs}
use Rattle.pg_relation.specs.Setup.{first_world, setup_me}
use Rattle.pg_relation.proofs.Deciding.{IsChangeOf, Targets, changing_change, locked_goes_on}
use Rattle.pg_relation.proofs.Journals.{holds_from}
use Rattle.pg_relation.proofs.Locking.{commanding_none, holding_nowhere, locking_found, locking_inserted, locking_passed, locking_placed, locking_replied, locking_snapped, locking_step, locking_waits, quiet_steps}
use Rattle.pg_relation.proofs.LockingChanges.{changed_act, has_version, locking_locked}
use Rattle.pg_relation.proofs.LockingSteps.{HoldsLocked, IsLocking, KeepsGuards, leaves_ended, leaves_same, moved, table_step}
use Rattle.pg_relation.proofs.Needs.{IsMove, move_of}
use Rattle.pg_relation.proofs.Owners.{slice_get-last}
use Rattle.pg_relation.proofs.Leaving.{HasVersion}
use Rattle.pg_relation.proofs.Placing.{ChangesWritten, IsTidy, tidy_first, tidy_kept_by}
use Rattle.pg_relation.proofs.Acted.{acted}
use Rattle.pg_relation.proofs.RowSteps.{IsEnded, IsSame, IsStored, nobody, rows_drawn, rows_ended, rows_stored, tables_mapped}
use Rattle.pg_relation.proofs.SettingUp.{each_at, each_first}
use Rattle.pg_relation.proofs.Spares.{IsStable}
use Rattle.pg_relation.proofs.Stable.{open_at, stable_first, stable_kept}

module _ (script : Script) (world : World) (number : ℕ) (session : SessionView) (is : slice_get world.sessions number ≡ Some session)
    (stable : IsStable script world) (tidy : IsTidy script world) (locking : IsLocking script world) where
  -- A transaction ends.

  ended_act : (act : EntryAct) (end : TransactionEnd) (behind : SessionView) →
      acted world number (statement_at script number session) session act ≡ behind → behind.transaction ≡ None →
      act_effect world number (statement_at script number session) session act
      ≡ with_session (with_end_of world number session.transaction end) number behind →
      ((new : World) → HoldsLocked script new number (acted world number (statement_at script number session) session act)) →
      IsLocking script (act_effect world number (statement_at script number session) session act)
  ended_act act end behind acted_is none same own = at session.transaction refl
    where
      at : (t : Option ℕ) → session.transaction ≡ t →
          IsLocking script (act_effect world number (statement_at script number session) session act)
      at None t_is =
          locking_step script world number session is stable tidy locking IsSame act (with_session world number behind)
          (same ∙ ap (λ t. with_session (with_end_of world number t end) number behind) t_is)
          (quiet_steps script world number session is stable tidy locking) (leaves_same world.transactions number) (own _)
      at (Some xact) t_is =
          let owner = (stable.each number session is).owner xact t_is in
          locking_step script world number session is stable tidy locking (IsEnded xact end) act
          (with_session (with_end_of world number (Some xact) end) number behind)
          (same ∙ ap (λ t. with_session (with_end_of world number t end) number behind) t_is)
          (tables_mapped (IsEnded xact end) (table_after_end xact end) (rows_ended xact end) world.tables)
          (leaves_ended world number xact end owner.0 owner.1) (own _)

  -- behind it the session is elsewhere
  nowhere : (act : EntryAct) → (acted world number (statement_at script number session) session act).transaction ≡ None →
      ((running : Running) → (acted world number (statement_at script number session) session act).progress ≡ inside running → ⊥) →
      (new : World) → HoldsLocked script new number (acted world number (statement_at script number session) session act)
  nowhere act none apart new =
      holding_nowhere script world number session is stable tidy locking new
      (acted world number (statement_at script number session) session act) apart
      (commanding_none script world number session is stable tidy locking new (acted world number (statement_at script number session) session act) none)

  before_ending : (given : Tag) → IsBefore (statement_at script number session) session → (running : Running) →
      progress_ended given session.progress ≡ inside running → ⊥
  before_ending given s running e =
      let f : ending given ≡ inside running = ap (λ p. progress_ended given p) (sym s.idle_is) ∙ e in cc f

  -- or its statement is done, and has locked no row
  committed_own : (IsBefore (statement_at script number session) session ⊎ IsDone world (statement_at script number session) session) → (new : World) →
      HoldsLocked script new number (acted world number (statement_at script number session) session entry.Committed)
  committed_own (inl s) new = nowhere entry.Committed refl (before_ending tag.Commit s) new
  committed_own (inr s) new = record {
    commanding = commanding_none script world number session is stable tidy locking new (without_transaction session (progress_ended tag.Commit session.progress)) refl;
    holding = λ running change name inside_is own_is stage_is.
        let e : inside s.opened.running ≡ inside running = ap (λ p. progress_ended tag.Commit p) (sym s.opened.inside_is) ∙ inside_is in
        let f : s.opened.running ≡ running = cc e in
        let own : Some (Ok s.opened.statement) ≡ Some (Ok (statement.Change change)) = sym s.opened.statement_is ∙ own_is in
        let same : s.opened.statement ≡ statement.Change change = cc own in
        absurd (locked_goes_on world.tables world.transactions s.opened.running change name (ap (λ r. r.stage) f ∙ stage_is)
        (subst (λ st. choices st world.tables world.transactions s.opened.running ≡ []) same s.done));
  }

  -- A row that is held is changed.

  pub changing : (act : EntryAct) (table row : ℕ) → IsChangeOf act table row → (s : IsLockedAt world (statement_at script number session) session act) →
      (change : Change) × (s.1.opened.statement ≡ statement.Change change) × Targets change (partners_in s.1.opened.running) table row
  changing act table row changes s =
      changing_change world.tables world.transactions s.1.opened.running s.1.candidates s.1.opened.candidates_are s.1.opened.statement s.0 act table row
      s.1.stage_is changes s.1.choice

  locking_updated : (table row : ℕ) → IsLockedAt world (statement_at script number session) session (entry.Updated table row) →
      IsLocking script (act_effect world number (statement_at script number session) session (entry.Updated table row))
  locking_updated table row s =
      let c = changing (entry.Updated table row) table row (inl refl) s in
      subst (λ a. IsLocking script (act_effect world number (statement_at script number session) session a))
      (ap (λ t. entry.Updated t (target_row (partners_in s.1.opened.running))) c.2.0 ∙ ap (λ r. entry.Updated table r) c.2.1)
      (changed_act script world number session is stable tidy locking s.1.opened.running s.1.opened.inside_is
      (open_at script world number session is stable (locked s.0) (entry.Updated table row) s.1) c.0
      (s.1.opened.statement_is ∙ ap (λ st. Some (Ok st)) c.1) s.0 s.1.stage_is
      (entry.Updated c.0.target.table (target_row (partners_in s.1.opened.running)))
      (Some (values_set (statement_at script number session) world.tables session.progress)) _ refl refl refl refl)

  locking_deleted : (table row : ℕ) → IsLockedAt world (statement_at script number session) session (entry.Deleted table row) →
      IsLocking script (act_effect world number (statement_at script number session) session (entry.Deleted table row))
  locking_deleted table row s =
      let c = changing (entry.Deleted table row) table row (inr refl) s in
      subst (λ a. IsLocking script (act_effect world number (statement_at script number session) session a))
      (ap (λ t. entry.Deleted t (target_row (partners_in s.1.opened.running))) c.2.0 ∙ ap (λ r. entry.Deleted table r) c.2.1)
      (changed_act script world number session is stable tidy locking s.1.opened.running s.1.opened.inside_is
      (open_at script world number session is stable (locked s.0) (entry.Deleted table row) s.1) c.0
      (s.1.opened.statement_is ∙ ap (λ st. Some (Ok st)) c.1) s.0 s.1.stage_is
      (entry.Deleted c.0.target.table (target_row (partners_in s.1.opened.running))) None _ refl refl refl refl)

  pub written_at : (act : EntryAct) (table row : ℕ) → IsChangeOf act table row →
      IsLockedAt world (statement_at script number session) session act → HasVersion world.tables table row
  written_at act table row changes s =
      let c = changing act table row changes s in
      subst (λ t. HasVersion world.tables t row) c.2.0
      (subst (λ r. HasVersion world.tables c.0.target.table r) c.2.1
      (has_version script world number session is stable tidy locking s.1.opened.running s.1.opened.inside_is
      (open_at script world number session is stable (locked s.0) act s.1) c.0
      (s.1.opened.statement_is ∙ ap (λ st. Some (Ok st)) c.1) s.0 s.1.stage_is))

  -- Each kind of entry.

  pub locking_act : (act : EntryAct) → Needs script world number (statement_at script number session) session act →
      IsLocking script (act_effect world number (statement_at script number session) session act)
  locking_act (entry.Snapped commits) needs = locking_snapped script world number session is stable tidy locking commits
  locking_act (entry.Found candidate) needs =
      locking_found script world number session is stable tidy locking candidate needs.0.opened.running needs.0.opened.inside_is
  locking_act (entry.Placed table row) needs =
      locking_placed script world number session is stable tidy locking table row needs.0.opened.running needs.0.opened.inside_is
  locking_act (entry.Locked table row strength) needs =
      locking_locked script world number session is stable tidy locking table row strength needs.0
  locking_act (entry.Inserted table row) needs = locking_inserted script world number session is stable tidy locking table row needs
  locking_act (entry.Updated table row) needs = locking_updated table row needs
  locking_act (entry.Deleted table row) needs = locking_deleted table row needs
  locking_act entry.Passed (inl s) =
      locking_passed script world number session is stable tidy locking s.opened.running s.opened.inside_is
  locking_act entry.Passed (inr s) =
      locking_passed script world number session is stable tidy locking s.1.opened.running s.1.opened.inside_is
  locking_act (entry.Waits other) needs = locking_waits script world number session is stable tidy locking other
  locking_act entry.Committed needs =
      ended_act entry.Committed commit (without_transaction session (progress_ended tag.Commit session.progress)) refl refl refl
      (committed_own needs.1)
  locking_act entry.RolledBack needs =
      ended_act entry.RolledBack rollback (without_transaction session (progress_ended tag.Rollback session.progress)) refl refl refl
      (nowhere entry.RolledBack refl (before_ending tag.Rollback needs.1))
  locking_act (entry.Replied reply) needs = locking_replied script world number session is stable tidy locking reply
  locking_act (entry.Failed error) needs =
      ended_act (entry.Failed error) rollback (session_failed session) refl refl refl (nowhere (entry.Failed error) refl (λ running e. cc e))
  locking_act entry.Closed needs =
      ended_act entry.Closed rollback (without_transaction session closed) refl refl refl (nowhere entry.Closed refl (λ running e. cc e))

-- After setup.

-- a row that setup has inserted
guarded_setup : (number : ℕ) (values : List Value) →
    IsGuarded no_transactions number (with_version (version_by setup_me values) (record { number = number; versions = [] })) []
guarded_setup number values = record {
  numbered = refl;
  ascending = tt;
  compatible = λ one other a b apart holds also. absurd (cc holds);
  running = λ xact held is. absurd (cc is);
  written = (inr (0, refl), tt);
  rising = (tt, tt);
  behind = λ xact runs. (λ e. tt, tt);
  held = (λ runs. absurd (cc runs), tt);
  free = λ runs. absurd (cc runs);
}

none_empty : (number : ℕ) (row : Row) → row_of [] number ≡ Some row → ⊥
none_empty zero row is = cc is
none_empty (suc before) row is = cc is

guarded_empty : IsGuardedTable no_transactions empty_table
guarded_empty = record { listed = refl; rows = λ number row is. absurd (none_empty number row is) }

guarded_added : (table : TableView) (values : List Value) → IsGuardedTable no_transactions table →
    IsGuardedTable no_transactions (row_added table setup_me values)
guarded_added table values guarded =
    table_step (IsStored fresh (locks_on drawn (next_row table)) version) no_transactions no_transactions drawn (row_added table setup_me values)
    (rows_stored drawn (row_added table setup_me values) (next_row table) fresh version there refl refl) stored guarded_drawn
  where
    free : locks_on (record table { rows = row_drawn table.rows; locks = table.locks ++ [] ∷ [] }) (next_row table) ≡ []
    free = nobody table.locks (next_row table) (let l = guarded.listed in omega (arith, l))

    drawn : TableView
    drawn = record table { rows = row_drawn table.rows; locks = table.locks ++ [] ∷ [] }

    fresh : Row
    fresh = record { number = next_row table; versions = [] }

    version : Version
    version = version_by setup_me values

    there : row_of (row_drawn table.rows) (next_row table) ≡ Some (record { number = next_row table; versions = [] })
    there = at (next_row table) (omega arith)
      where
        at : (n : ℕ) → n ≡ suc (length table.rows) → row_of (row_drawn table.rows) n ≡ Some (record { number = next_row table; versions = [] })
        at n is = rw is (slice_get-last table.rows (record { number = next_row table; versions = [] }))

    guarded_drawn : IsGuardedTable no_transactions drawn
    guarded_drawn =
        table_step IsSame no_transactions no_transactions table drawn (rows_drawn table drawn guarded.listed refl refl)
        (λ k row behind locks left same held. moved (λ r l. IsGuarded no_transactions k r l) row behind locks left same held) guarded

    stored : KeepsGuards (IsStored fresh (locks_on drawn (next_row table)) version) no_transactions no_transactions
    stored k row behind locks left (inl same) held = moved (λ r l. IsGuarded no_transactions k r l) row behind locks left same held
    stored k row behind locks left (inr h) held =
        subst (λ r. IsGuarded no_transactions k r left) (sym h.2)
        (subst (λ l. IsGuarded no_transactions k (with_version version fresh) l) (sym (h.3 ∙ free))
        (subst (λ n. IsGuarded no_transactions n (with_version version fresh) []) (ap (λ r. r.number) (sym h.0) ∙ held.numbered)
        (guarded_setup (next_row table) values)))

pub locking_first : (script : Script) → IsLocking script (first_world script)
locking_first script = record {
  tables = λ number table is.
      each_at (λ t. IsGuardedTable no_transactions t) (first_world script).tables number table
      (each_first (λ t. IsGuardedTable no_transactions t) guarded_empty guarded_added script) is;
  sessions = λ number session is.
      fresh number session (slice_get script.sessions number) (sym (slice_get-map (λ name. fresh_session) script.sessions number) ∙ is);
}
  where
    fresh : (number : ℕ) (session : SessionView) (name : Option (List ℕ)) → option_map (λ n. fresh_session) name ≡ Some session →
        HoldsLocked script (first_world script) number session
    fresh number session None is = absurd (cc is)
    fresh number session (Some name) is =
        let e : fresh_session ≡ session = cc is in
        subst (λ s. HoldsLocked script (first_world script) number s) e (record {
          commanding = record { within = λ xact open_is. absurd (cc open_is); latest = λ running xact inside_is. absurd (cc inside_is) };
          holding = λ running change name inside_is. absurd (cc inside_is);
        })

-- The world of a legal journal.

-- open statements read the same, placed rows wait, and rows are guarded
pub record IsSteady (script : Script) (world : World) : Type 0 where
  pub stable : IsStable script world
  pub tidy : IsTidy script world
  pub locking : IsLocking script world

pub steady_kept : (script : Script) (world : World) (entry : Entry) → IsSteady script world → IsPermitted script world entry →
    IsSteady script (effect script world entry)
steady_kept script world entry steady move = record {
  stable = stable_kept script world entry steady.stable move;
  tidy = tidy_kept_by script world entry steady.stable steady.tidy written move;
  locking = rw m.is (locking_act script world entry.session m.session m.is steady.stable steady.tidy steady.locking entry.act m.needs);
}
  where
    m : IsMove script world entry.session entry.act
    m = move_of script world entry move

    written : ChangesWritten script world entry.session
    written session is act table row changes s =
        written_at script world entry.session session is steady.stable steady.tidy steady.locking act table row changes s

pub steady_after : (script : Script) (journal : List Entry) → IsLegal script journal → IsSteady script (world_after script journal)
steady_after script journal legal =
    holds_from script (λ world. IsSteady script world) (λ world entry steady move. steady_kept script world entry steady move)
    (first_world script) journal
    (record { stable = stable_first script; tidy = tidy_first script; locking = locking_first script }) legal
