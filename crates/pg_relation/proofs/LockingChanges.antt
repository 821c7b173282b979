-- In every legal world rows are guarded, and statements hold what they have locked.
use Rattle.std.proofs.Common.{◌≡◌, ◌<◌, ℕ, suc, List, Option, Some, None, slice_get, refl, sym, ap, ◌∙◌, subst, inl, inr}
use Rattle.std.specs.List.{last_or}
use Rattle.std.specs.Prelude.{Ok, option_map}
use Rattle.std.specs.Option.{option_map_or}
use Rattle.pg_lists.specs.Numbered.{with_changed_item}
use Rattle.pg_values.specs.declared.value.Value.{Value}
use Rattle.pg_multi.specs.declared.strength.Strength.{Strength}
use Rattle.pg_multi.specs.declared.strength.Strength.TheVariants.{NoKeyUpdate}
use Rattle.pg_multi.specs.Locks.{blocker}
use Rattle.pg_heap.specs.Current.{newest}
use Rattle.pg_heap.proofs.Lists.{changed_here}
use Rattle.pg_model.specs.declared.journal.EntryAct.{EntryAct}
use Rattle.pg_model.specs.declared.journal.EntryAct.TheVariants as entry
use Rattle.pg_model.specs.declared.script.Script.{Script}
use Rattle.pg_model.specs.declared.statement.Change.{Change}
use Rattle.pg_model.specs.declared.statement.Statement.TheVariants as statement
use Rattle.pg_world.specs.Changes.{change_strength, current_name, is_of_command, name_of, partners_in, row_at, table_at, target_row}
use Rattle.pg_world.specs.declared.session.Progress.TheVariants.{Inside as inside}
use Rattle.pg_world.specs.declared.session.Running.{Running}
use Rattle.pg_world.specs.declared.session.SessionView.{SessionView}
use Rattle.pg_world.specs.declared.session.Stage.TheVariants.{Found as found, Locked as locked}
use Rattle.pg_world.specs.declared.session.VersionName.{VersionName}
use Rattle.pg_world.specs.declared.table.TableView.{TableView}
use Rattle.pg_world.specs.Tables.{locks_on, row_changed, row_locked}
use Rattle.pg_world.specs.Worlds.{World}
use Rattle.pg_relation.specs.Effect.{act_effect, me_in, with_running}
use Rattle.pg_relation.specs.Running.{current_in, running_acted, running_locked}
use Rattle.pg_relation.proofs.Running.{session_locked}
use Rattle.pg_relation.specs.Lines.{statement_at}
use Rattle.pg_relation.specs.Locking.{Each, HoldsAtLeast, IsGuarded, IsHeldRow, IsHolding, WroteWithin}
use Rattle.pg_relation.specs.Needs.{IsAtStage}
use Rattle.pg_relation.proofs.Deciding.{WouldLock, locking_change}
use Rattle.pg_relation.proofs.Guarded.{newest_current}
use Rattle.pg_relation.proofs.Holders.{holds_own}
use Rattle.pg_relation.proofs.Holding.{change_rank, holds_change, written_before}
use Rattle.pg_relation.proofs.Locking.{commanding_on, locking_step, own_commanding, owns, running_session, stored_act}
use Rattle.pg_relation.proofs.LockingSteps.{HoldsLocked, IsLocking, leaves_locked, locked_written}
use Rattle.pg_relation.proofs.Leaving.{HasVersion}
use Rattle.pg_relation.proofs.Placing.{IsTidy, same_statement}
use Rattle.pg_relation.proofs.Acted.{acted}
use Rattle.pg_relation.proofs.RowSteps.{IsLockedFor, RowsStep, TablesStep, locked_here, rows_locked, tables_changed}
use Rattle.pg_relation.proofs.Spares.{IsStable}
use Rattle.pg_relation.proofs.Stable.{open_at}
use Rattle.pg_relation.proofs.There.{IsThere, locks_there, row_there, there_at}

module _ (script : Script) (world : World) (number : ℕ) (session : SessionView) (is : slice_get world.sessions number ≡ Some session)
    (stable : IsStable script world) (tidy : IsTidy script world) (locking : IsLocking script world) where
  -- A statement locks the row of its candidate.
  module _ (running : Running) (inside_is : session.progress ≡ inside running) (open_is : session.transaction ≡ Some running.me.xact)
      (change : Change) (own_is : statement_at script number session ≡ Some (Ok (statement.Change change)))
      (would : WouldLock world.tables world.transactions running.me change (target_row (partners_in running)) change.target.table
      (target_row (partners_in running)) (change_strength change.action)) where
    abbrev table : ℕ
    table = change.target.table

    abbrev row : ℕ
    row = target_row (partners_in running)

    abbrev strength : Strength
    strength = change_strength change.action

    abbrev xact : ℕ
    xact = (me_in session.progress).xact

    abbrev after : List TableView
    after = with_changed_item (λ view. row_locked view xact row strength) world.tables table

    mine : running.me ≡ me_in session.progress
    mine = sym (ap me_in inside_is)

    would_mine : WouldLock world.tables world.transactions (me_in session.progress) change row table row strength
    would_mine = subst (λ m. WouldLock world.tables world.transactions m change row table row strength) mine would

    there : IsThere world.tables world.transactions table row xact
    there = there_at world.tables world.transactions table row xact would_mine.there

    guard : IsGuarded world.transactions row there.row (locks_on there.table row)
    guard = (locking.tables table there.table there.table_is).rows row there.row there.row_is

    free : blocker (locks_on there.table row) xact strength ≡ None
    free = ap (λ ls. blocker ls xact strength) (sym (locks_there world.tables table row there.table there.table_is)) ∙ would_mine.free

    newest_is : newest there.row ≡ Some there.version
    newest_is =
        newest_current world.transactions row there.row (locks_on there.table row) guard xact strength there.version (change_rank change.action)
        there.current_is free

    same_row : row_at (table_at world.tables table) row ≡ there.row
    same_row = row_there world.tables table row there.table there.row there.table_is there.row_is

    steps : TablesStep (IsLockedFor there.row (locks_on there.table row) xact strength) world.tables after
    steps =
        tables_changed (IsLockedFor there.row (locks_on there.table row) xact strength) (λ row locks. inl (refl, refl)) world.tables
        (λ view. row_locked view xact row strength) table
        (λ view view_is.
        let e : Some there.table ≡ Some view = sym there.table_is ∙ view_is in
        let f : there.table ≡ view = cc e in
        subst (λ v. RowsStep (IsLockedFor there.row (locks_on there.table row) xact strength) v (row_locked v xact row strength)) f
        (rows_locked there.table xact row strength there.row (locking.tables table there.table there.table_is).listed there.row_is))

    abbrev name : VersionName
    name = current_in world.tables world.transactions table row xact

    held : IsHeldRow world.transactions (me_in session.progress) change.action name row there.row (locks_on (row_locked there.table xact row strength) row)
    held = record {
      number_is = guard.numbered;
      holds = subst (λ ls. HoldsAtLeast ls xact strength)
          (sym (locked_here there.table xact row strength there.row (locking.tables table there.table there.table_is).listed there.row_is))
          (holds_own (locks_on there.table row) xact strength);
      version = there.version;
      newest_is = newest_is;
      current_is = there.current_is;
      name_is = sym (ap (λ r. current_name world.transactions xact r) same_row
          ∙ ap (λ o. option_map_or name_of o (record { writer = 0; command = 0 })) there.current_is);
      there = there.there;
      earlier = ap (λ o. is_of_command (me_in session.progress) o) (sym newest_is)
          ∙ (ap (λ r. is_of_command (me_in session.progress) (newest r)) (sym same_row) ∙ would_mine.earlier);
    }

    holding : (new : World) → new.tables ≡ after → new.transactions ≡ world.transactions → IsHolding new change (running_locked name running) name
    holding new tables transactions = record {
      table = row_locked there.table xact row strength;
      table_is = ap (λ ts. slice_get ts table) tables
          ∙ (changed_here (λ view. row_locked view xact row strength) world.tables (suc table)
          ∙ ap (λ o. option_map (λ view. row_locked view xact row strength) o) there.table_is);
      row = there.row;
      row_is = there.row_is;
      held = subst (λ t. IsHeldRow t running.me change.action name row there.row (locks_on (row_locked there.table xact row strength) row)) (sym transactions)
          (subst (λ m. IsHeldRow world.transactions m change.action name row there.row (locks_on (row_locked there.table xact row strength) row)) (sym mine) held);
    }

    locked_own : (new : World) → new.tables ≡ after → new.transactions ≡ world.transactions →
        HoldsLocked script new number (with_running (running_locked name) session session.progress)
    locked_own new tables transactions = record {
      commanding = commanding_on script world number session is stable tidy locking
          (IsLockedFor there.row (locks_on there.table row) xact strength) new (with_running (running_locked name) session session.progress)
          running (running_locked name running)
          (subst (λ ts. TablesStep (IsLockedFor there.row (locks_on there.table row) xact strength) world.tables ts) (sym tables) steps)
          (λ x x_is. locked_written there.row (locks_on there.table row) xact strength x session.command) inside_is behind refl;
      holding = λ other changed called inside_now own_now stage_now.
          let e : inside (running_locked name running) ≡ inside other = sym (ap (λ z. z.progress) behind) ∙ inside_now in
          let f : running_locked name running ≡ other = cc e in
          let g : locked name ≡ locked called = ap (λ r. r.stage) f ∙ stage_now in
          let h : name ≡ called = cc g in
          let s = same_statement (statement_at script number session) (statement.Change change) (statement.Change changed) own_is
          (sym (ap (λ z. statement_at script number z) behind) ∙ own_now) in
          let c : change ≡ changed = cc s in
          subst (λ r. IsHolding new changed r called) f
          (subst (λ k. IsHolding new k (running_locked name running) called) c
          (subst (λ n. IsHolding new change (running_locked name running) n) h (holding new tables transactions)));
    }
      where
        behind : with_running (running_locked name) session session.progress ≡ record session { progress = inside (running_locked name running) }
        behind = running_session script world number session is stable tidy locking (running_locked name) running inside_is

    pub locked_act : IsLocking script (act_effect world number (statement_at script number session) session (entry.Locked table row strength))
    locked_act =
        let own = owns script world number session is stable tidy locking running inside_is open_is in
        locking_step script world number session is stable tidy locking
        (IsLockedFor there.row (locks_on there.table row) xact strength) (entry.Locked table row strength) _ refl steps
        (leaves_locked world number there.row (locks_on there.table row) xact strength there.version (change_rank change.action) own.0 there.current_is free)
        (subst (λ s. HoldsLocked script (act_effect world number (statement_at script number session) session (entry.Locked table row strength)) number s)
        (sym (session_locked world session running table row strength inside_is)) (locked_own _ refl refl))

  pub locking_locked : (table row : ℕ) (strength : Strength) → IsAtStage world (statement_at script number session) session found (entry.Locked table row strength) →
      IsLocking script (act_effect world number (statement_at script number session) session (entry.Locked table row strength))
  locking_locked table row strength s =
      by (locking_change world.tables world.transactions s.opened.running s.candidates s.opened.candidates_are s.opened.statement table row strength s.stage_is s.choice)
    where
      by : (change : Change) × (s.opened.statement ≡ statement.Change change)
          × WouldLock world.tables world.transactions s.opened.running.me change (target_row (partners_in s.opened.running)) table row strength →
          IsLocking script (act_effect world number (statement_at script number session) session (entry.Locked table row strength))
      by of =
          subst (λ a. IsLocking script (act_effect world number (statement_at script number session) session a)) act_is
          (locked_act s.opened.running s.opened.inside_is (open_at script world number session is stable found (entry.Locked table row strength) s)
          of.0 (s.opened.statement_is ∙ ap (λ st. Some (Ok st)) of.1)
          (record { table_is = refl; row_is = refl; strength_is = refl; earlier = of.2.earlier; there = of.2.there; free = of.2.free }))
        where
          act_is : entry.Locked of.0.target.table (target_row (partners_in s.opened.running)) (change_strength of.0.action) ≡ entry.Locked table row strength
          act_is =
              ap (λ t. entry.Locked t (target_row (partners_in s.opened.running)) (change_strength of.0.action)) of.2.table_is
              ∙ (ap (λ r. entry.Locked table r (change_strength of.0.action)) of.2.row_is ∙ ap (λ q. entry.Locked table row q) of.2.strength_is)

  -- A statement changes the row that it holds.
  module _ (running : Running) (inside_is : session.progress ≡ inside running) (open_is : session.transaction ≡ Some running.me.xact)
      (change : Change) (own_is : statement_at script number session ≡ Some (Ok (statement.Change change)))
      (name : VersionName) (stage_is : running.stage ≡ locked name) where
    abbrev at : ℕ
    at = target_row (partners_in running)

    holding_now : IsHolding world change running name
    holding_now = (locking.sessions number session is).holding running change name inside_is own_is stage_is

    guard_now : IsGuarded world.transactions at holding_now.row (locks_on holding_now.table at)
    guard_now = (locking.tables change.target.table holding_now.table holding_now.table_is).rows at holding_now.row holding_now.row_is

    within_now : WroteWithin running.me.xact running.me.command holding_now.row.versions
    within_now =
        let own = own_commanding script world number session is stable tidy locking in
        subst (λ c. WroteWithin running.me.xact c holding_now.row.versions) (sym (own.latest running running.me.xact inside_is open_is))
        (own.within running.me.xact open_is change.target.table holding_now.table holding_now.table_is at holding_now.row holding_now.row_is)

    pub changed_act : (act : EntryAct) (values : Option (List Value)) (new : World) →
        act_effect world number (statement_at script number session) session act ≡ new →
        new.tables ≡ with_changed_item (λ view. row_changed view (me_in session.progress) at values) world.tables change.target.table →
        new.transactions ≡ world.transactions →
        acted world number (statement_at script number session) session act ≡ with_running running_acted session session.progress →
        IsLocking script (act_effect world number (statement_at script number session) session act)
    changed_act act values new same tables transactions acted_is =
        stored_act script world number session is stable tidy locking running inside_is open_is act change.target.table at holding_now.table holding_now.row values
        (λ view. row_changed view (me_in session.progress) at values) new same tables transactions acted_is holding_now.table_is holding_now.row_is refl refl
        (inr (subst (λ m. HoldsAtLeast (locks_on holding_now.table at) m.xact NoKeyUpdate) (sym (ap me_in inside_is))
        (holds_change (locks_on holding_now.table at) running.me.xact change.action holding_now.held.holds)))
        (subst (λ m. Each (λ one. m.xact ≡ one.writer → one.command < m.command) holding_now.row.versions) (sym (ap me_in inside_is))
        (written_before world.transactions running.me change.action name at holding_now.row (locks_on holding_now.table at) guard_now holding_now.held
        ((stable.each number session is).owner running.me.xact open_is).0 within_now))

    -- which has a version
    pub has_version : HasVersion world.tables change.target.table at
    has_version = (
      holding_now.table,
      holding_now.table_is,
      holding_now.row,
      holding_now.row_is,
      λ empty. let e : None ≡ Some holding_now.held.version = sym (ap (λ vs. last_or None vs) empty) ∙ holding_now.held.newest_is in cc e,
    )
