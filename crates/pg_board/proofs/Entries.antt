-- A machine has done its only choice: what that makes of the server is what the entry makes of the world.
use Rattle.std.proofs.Common.{◌≡◌, ◌+◌, ◌≤◌, ℕ, Bool, true, false, List, [], ◌∷◌, map, Option, Some, None, slice_get, slice_set, arith, refl, sym, ap, ◌∙◌, subst}
use Rattle.std.specs.Prelude.{Ok, Err, Result}
use Rattle.pg_lists.specs.Numbered.{with_changed_item}
use Rattle.pg_model.specs.declared.error.SqlError.{SqlError}
use Rattle.pg_model.specs.declared.journal.EntryAct.{EntryAct}
use Rattle.pg_model.specs.declared.journal.EntryAct.TheVariants as entry
use Rattle.pg_model.specs.declared.script.Script.{Script}
use Rattle.pg_model.specs.declared.statement.Change.{Change}
use Rattle.pg_model.specs.declared.statement.Insert.{Insert}
use Rattle.pg_model.specs.declared.statement.Select.{Select}
use Rattle.pg_model.specs.declared.statement.Statement.{Statement}
use Rattle.pg_model.specs.declared.statement.Statement.TheVariants as statement
use Rattle.pg_world.specs.declared.candidate.Candidate.{Candidate}
use Rattle.pg_world.specs.Choices.{choices, choices_by}
use Rattle.pg_world.specs.Choosing.{does}
use Rattle.pg_world.specs.Replies.{proposed_values}
use Rattle.pg_world.specs.declared.session.Progress.TheVariants.{Inside as inside}
use Rattle.pg_world.specs.declared.session.Running.{Running}
use Rattle.pg_world.specs.declared.session.Stage.TheVariants.{Locked as locked}
use Rattle.pg_world.specs.declared.session.VersionName.{VersionName}
use Rattle.pg_world.specs.Tables.{row_changed, row_inserted}
use Rattle.pg_world.specs.Worlds.{World}
use Rattle.pg_relation.specs.Effect.{act_effect, values_set, with_changed_row}
use Rattle.pg_relation.specs.Holds.{HoldsRow}
use Rattle.pg_relation.specs.Lines.{statement_at}
use Rattle.pg_relation.specs.Moves.{moves_of}
use Rattle.pg_relation.specs.Running.{current_in, running_acted, running_locked}
use Rattle.pg_relation.specs.Stepped.{first_of_list}
use Rattle.pg_relation.proofs.Held.{held_differ}
use Rattle.pg_relation.proofs.LockingKept.{IsSteady}
use Rattle.pg_table.specs.States.{TableState, row_erased_in, row_inserted_in, row_written_in}
use Rattle.pg_update.specs.Steps.{ChangeView, IsHolding, IsHoldingAt, IsStaged, IsStagedIf, change_choices_in, stagings_at, target_in, updated_in}
use Rattle.pg_board.specs.Counts.{HasFew, place_draws}
use Rattle.pg_board.specs.declared.server.Server.{Server}
use Rattle.pg_board.specs.declared.session.Machine.{Machine}
use Rattle.pg_board.specs.declared.session.Machine.TheVariants as machine_of
use Rattle.pg_board.specs.declared.session.Place.TheVariants as place_of
use Rattle.pg_board.specs.declared.session.Session.{Session}
use Rattle.pg_board.specs.Machines.{DoesEntry}
use Rattle.pg_board.specs.Servers.{IsHoldingBy, IsOfKind, IsServerOf, IsStagedBy, kept_progress, kept_session, running_of}
use Rattle.pg_board.specs.Steps.{HasActed}
use Rattle.pg_board.proofs.ChangeActs.{erased_lifts, locked_lifts, values_are, written_lifts}
use Rattle.pg_board.proofs.Few.{draws_one, few_moved, Grow, grow_erased, grow_held, grow_inserted, grow_none, grow_placed, grow_written}
use Rattle.pg_board.proofs.Going.{choices_are, effect_is, first_chosen, is_shown, opened, stands, stay}
use Rattle.pg_board.proofs.Lifting.{HoldsStay}
use Rattle.pg_board.proofs.MachineActs.{found_lifts, inserted_lifts, passed_lifts, placed_lifts}
use Rattle.pg_board.proofs.Shapes.{IsChangeAct, IsInsertAct, IsLockedRow, change_act, insert_act, select_act}

-- BEGIN, COMMIT and ROLLBACK have no machine
no_begin : (machine : Machine) → IsOfKind machine statement.Begin → ⊥
no_begin (machine_of.Insert machine) kind = kind
no_begin (machine_of.Select machine) kind = kind
no_begin (machine_of.Change machine) kind = kind

no_commit : (machine : Machine) → IsOfKind machine statement.Commit → ⊥
no_commit (machine_of.Insert machine) kind = kind
no_commit (machine_of.Select machine) kind = kind
no_commit (machine_of.Change machine) kind = kind

no_rollback : (machine : Machine) → IsOfKind machine statement.Rollback → ⊥
no_rollback (machine_of.Insert machine) kind = kind
no_rollback (machine_of.Select machine) kind = kind
no_rollback (machine_of.Change machine) kind = kind

-- a machine whose candidate has just had its act draws no version
draws_between : (change : Change) (running : Running) (one : Machine) → IsOfKind one (statement.Change change) →
    running_of one ≡ running_acted running → place_draws (place_of.Inside one) ≡ 0
draws_between change running (machine_of.Insert other) kind is = absurd kind
draws_between change running (machine_of.Select other) kind is = absurd kind
draws_between change running (machine_of.Change other) kind is = ap (λ r. stagings_at r.stage other.staged) is

module _ (script : Script) (server : Server) (world : World) (number : ℕ) (kept : Session)
    (is_kept : slice_get server.sessions number ≡ Some kept) (serves : IsServerOf script server world) (steady : IsSteady script world)
    (free : slice_get world.waits number ≡ Some None) where
  -- the server in which the machine of the session and the tables are those
  abbrev pub behind_it : List TableState → Machine → Server
  behind_it tables behind =
      record server { tables = tables; sessions = slice_set server.sessions number (record kept { place = place_of.Inside behind }) }

  -- no table has grown by more than a version, and by none where the machine may still draw one
  few_behind : (tables : List TableState) (behind : Machine) (grown : ℕ) → Grow server.tables tables grown →
      grown + place_draws (place_of.Inside behind) ≤ 1 → (most : ℕ) → HasFew most server → HasFew (most + 1) (behind_it tables behind)
  few_behind tables behind grown grow within =
      few_moved server (behind_it tables behind) number kept (record kept { place = place_of.Inside behind }) is_kept refl grown 1 grow
      (omega (arith, within))

  -- what an act makes of the server, it makes of the world, and it draws no more than one version
  pub record IsBehind (tables : List TableState) (behind : Machine) (own : Statement) (act : EntryAct) : Type 0 where
    pub served : IsServerOf script (behind_it tables behind) (act_effect world number (Some (Ok own)) (kept_session kept) act)
    pub few : (most : ℕ) → HasFew most server → HasFew (most + 1) (behind_it tables behind)

  -- the only choice of its machine is its move
  module _ (own : Statement) (own_is : statement_at script number (kept_session kept) ≡ Some (Ok own)) (machine : Machine)
      (inside_is : kept.place ≡ place_of.Inside machine) (behind : Machine) (tables : List TableState) (act : EntryAct)
      (done : DoesEntry own server.xacts server.tables tables machine behind act) where
    only_by : choices own world.tables world.transactions (running_of machine) ≡ does act ∷ []
    only_by = sym (choices_are script server world number kept is_kept serves steady own own_is machine inside_is done.planned) ∙ done.choice

    first_by : first_of_list (moves_of script world number) ≡ Some act
    first_by = first_chosen script server world number kept is_kept serves steady own own_is machine inside_is done.planned free (does act) only_by

    opens_by : kept.transaction ≡ Some (running_of machine).me.xact
    opens_by =
        opened script server world number kept is_kept serves steady own own_is machine inside_is done.planned
        (λ none. let e : [] ≡ does act ∷ [] = sym none ∙ only_by in cc e)

    rest_by : HoldsStay script world
        (act_effect world number (Some (Ok own)) (record (kept_session kept) { progress = inside (running_of machine) }) act).tables number
    rest_by = stay script server world number kept is_kept serves steady own own_is machine inside_is done.planned act first_by

    entered : IsBehind tables behind own act → HasActed script number world server (behind_it tables behind) act
    entered moved = record {
      first = first_by;
      serves = subst (λ w. IsServerOf script (behind_it tables behind) w)
          (sym (effect_is script server world number kept is_kept serves steady own own_is machine inside_is done.planned act)) moved.served;
      few = moved.few;
    }

  -- An INSERT.
  module _ (insert : Insert) (running : Running) (own_is : statement_at script number (kept_session kept) ≡ Some (Ok (statement.Insert insert)))
      (inside_is : kept.place ≡ place_of.Inside (machine_of.Insert running)) (behind : Machine) where
    abbrev own : Statement
    own = statement.Insert insert

    shown_there : slice_get world.sessions number ≡ Some (kept_session kept)
    shown_there = is_shown script server world number kept is_kept serves steady own own_is (machine_of.Insert running) inside_is refl

    -- an INSERT draws no version beside its acts
    draws_nothing : (one : Machine) → IsOfKind one own → place_draws (place_of.Inside one) ≡ 0
    draws_nothing (machine_of.Insert other) kind = refl
    draws_nothing (machine_of.Select other) kind = absurd kind
    draws_nothing (machine_of.Change other) kind = absurd kind

    insert_behind : (act : EntryAct) (tables : List TableState) → DoesEntry own server.xacts server.tables tables (machine_of.Insert running) behind act →
        kept.transaction ≡ Some running.me.xact → IsInsertAct insert running act →
        HoldsStay script world (act_effect world number (Some (Ok own)) (record (kept_session kept) { progress = inside running }) act).tables number →
        IsBehind tables behind own act
    insert_behind (entry.Found candidate) tables done opens shape rest =
        subst (λ t. IsBehind t behind own (entry.Found candidate)) (sym done.tables_are)
        (record {
          served = found_lifts script server world number kept is_kept shown_there serves steady.stable (machine_of.Insert running) behind own inside_is own_is
              done.kind done.stays done.staged refl candidate done.running;
          few = few_behind server.tables behind 0 (grow_none server.tables) (let d = draws_nothing behind done.kind in omega (arith, d));
        })
    insert_behind (entry.Placed table row) tables done opens shape rest =
        subst (λ t. IsBehind t behind own (entry.Placed table row)) (sym done.tables_are)
        (record {
          served = placed_lifts script server world number kept is_kept shown_there serves steady.stable (machine_of.Insert running) behind own inside_is own_is
              done.kind done.stays done.staged refl table row rest done.running;
          few = few_behind _ behind 1 (grow_placed server.tables table running.me (proposed_values running))
              (let d = draws_nothing behind done.kind in omega (arith, d));
        })
    insert_behind (entry.Inserted table row) tables done opens shape rest =
        subst (λ t. IsBehind t behind own (entry.Inserted table row)) (sym done.tables_are)
        (subst (λ t. IsBehind (with_changed_item (λ state. row_inserted_in state row) server.tables t) behind own (entry.Inserted t row)) (sym shape.0)
        (record {
          served = inserted_lifts script server world number kept is_kept shown_there serves steady.stable (machine_of.Insert running) behind own inside_is own_is
              done.kind done.stays done.staged refl insert row refl shape.1 steady.tidy
              (subst (λ t. HoldsStay script world (with_changed_item (λ view. row_inserted view running.me row) world.tables t) number) shape.0 rest)
              opens done.running;
          few = few_behind _ behind 0 (grow_inserted server.tables insert.target.table row) (let d = draws_nothing behind done.kind in omega (arith, d));
        }))
    insert_behind (entry.Snapped commits) tables done opens shape rest = absurd shape
    insert_behind (entry.Locked table row strength) tables done opens shape rest = absurd shape
    insert_behind (entry.Updated table row) tables done opens shape rest = absurd shape
    insert_behind (entry.Deleted table row) tables done opens shape rest = absurd shape
    insert_behind entry.Passed tables done opens shape rest = absurd shape
    insert_behind (entry.Waits other) tables done opens shape rest = absurd shape
    insert_behind entry.Committed tables done opens shape rest = absurd shape
    insert_behind entry.RolledBack tables done opens shape rest = absurd shape
    insert_behind (entry.Replied reply) tables done opens shape rest = absurd shape
    insert_behind (entry.Failed error) tables done opens shape rest = absurd shape
    insert_behind entry.Closed tables done opens shape rest = absurd shape

    pub inserts : (act : EntryAct) (tables : List TableState) → DoesEntry own server.xacts server.tables tables (machine_of.Insert running) behind act →
        HasActed script number world server (behind_it tables behind) act
    inserts act tables done =
        entered own own_is (machine_of.Insert running) inside_is behind tables act done
        (insert_behind act tables done
        (opens_by own own_is (machine_of.Insert running) inside_is behind tables act done)
        (insert_act insert world.tables world.transactions running act (only_by own own_is (machine_of.Insert running) inside_is behind tables act done))
        (rest_by own own_is (machine_of.Insert running) inside_is behind tables act done))

  -- An UPDATE or DELETE.
  module _ (change : Change) (machine : ChangeView) (own_is : statement_at script number (kept_session kept) ≡ Some (Ok (statement.Change change)))
      (inside_is : kept.place ≡ place_of.Inside (machine_of.Change machine)) (behind : Machine)
      (staged_by : machine.staged ≡ true → IsStaged change server.tables server.xacts machine.running)
      (holding : IsHolding change server.tables server.xacts machine) where
    abbrev own_change : Statement
    own_change = statement.Change change

    abbrev at_work : Running
    at_work = machine.running

    -- nothing is staged where the act is not to write it
    unstaged : (act : EntryAct) → change_choices_in change server.tables server.xacts machine.running ≡ does act ∷ [] →
        (updated_in change machine.running ≡ act → ⊥) → machine.staged ≡ false
    unstaged act only other = at machine.staged refl
      where
        at : (b : Bool) → machine.staged ≡ b → b ≡ false
        at false is = refl
        at true is =
            let e : does (updated_in change machine.running) ∷ [] ≡ does act ∷ [] = sym (staged_by is).choice ∙ only in
            absurd (other (cc e))

    module _ (act : EntryAct) (tables : List TableState)
        (done : DoesEntry own_change server.xacts server.tables tables (machine_of.Change machine) behind act) where
      -- the session stands in the world as it is kept, and holds the row of its candidate
      shown_here : slice_get world.sessions number ≡ Some (kept_session kept)
      shown_here = is_shown script server world number kept is_kept serves steady own_change own_is (machine_of.Change machine) inside_is done.planned

      holds_own : (name : VersionName) → at_work.stage ≡ locked name → HoldsRow script world number change.target.table (target_in at_work)
      holds_own name stage_is = record {
        session = kept_session kept;
        is = shown_here;
        running = at_work;
        inside_is = ap kept_progress inside_is;
        change = change;
        statement_is = own_is;
        name = name;
        stage_is = stage_is;
        table_is = refl;
        row_is = refl;
      }

      -- what holds of the row that it has locked
      held_row : (name : VersionName) → at_work.stage ≡ locked name → IsHoldingAt (locked name) change server.tables server.xacts machine
      held_row name stage_is = subst (λ s. IsHoldingAt s change server.tables server.xacts machine) stage_is holding

    abbrev Rest : EntryAct → Type 0
    Rest act = HoldsStay script world (act_effect world number (Some (Ok own_change)) (record (kept_session kept) { progress = inside at_work }) act).tables number

    change_behind : (act : EntryAct) (tables : List TableState) →
        DoesEntry own_change server.xacts server.tables tables (machine_of.Change machine) behind act →
        kept.transaction ≡ Some at_work.me.xact → IsChangeAct change at_work act → Rest act → IsBehind tables behind own_change act
    change_behind (entry.Found candidate) tables done opens shape rest =
        let off = unstaged (entry.Found candidate) done.choice (λ e. cc e) in
        subst (λ t. IsBehind t behind own_change (entry.Found candidate)) (sym done.tables_are)
        (record {
          served = found_lifts script server world number kept is_kept (shown_here (entry.Found candidate) tables done) serves steady.stable
              (machine_of.Change machine) behind own_change inside_is own_is done.kind done.stays (done.staged ∙ off) off candidate done.running;
          few = few_behind server.tables behind 0 (grow_none server.tables) (let d = draws_one behind in omega (arith, d));
        })
    change_behind entry.Passed tables done opens shape rest =
        let off = unstaged entry.Passed done.choice (λ e. cc e) in
        subst (λ t. IsBehind t behind own_change entry.Passed) (sym done.tables_are)
        (record {
          served = passed_lifts script server world number kept is_kept (shown_here entry.Passed tables done) serves steady.stable
              (machine_of.Change machine) behind own_change inside_is own_is done.kind done.stays (done.staged ∙ off) off done.running;
          few = few_behind server.tables behind 0 (grow_none server.tables) (let d = draws_one behind in omega (arith, d));
        })
    change_behind (entry.Locked table row strength) tables done opens shape rest =
        let off = unstaged (entry.Locked table row strength) done.choice (λ e. cc e) in
        subst (λ t. IsBehind t behind own_change (entry.Locked table row strength)) (sym done.tables_are)
        (record {
          served = locked_lifts script server world number kept is_kept (shown_here (entry.Locked table row strength) tables done) serves steady.stable
              machine behind change inside_is own_is done.kind done.stays done.staged off table row strength rest
              (done.running
              ∙ (ap (λ views. running_locked (current_in views server.xacts table row at_work.me.xact) at_work) serves.tables
              ∙ ap (λ t. running_locked (current_in world.tables t table row at_work.me.xact) at_work) serves.transactions));
          few = few_behind _ behind 0 (grow_held server.tables table at_work.me.xact row strength) (let d = draws_one behind in omega (arith, d));
        })
    change_behind (entry.Updated table row) tables done opens shape rest =
        let staged = staged_by done.written in
        let shown = shown_here (entry.Updated table row) tables done in
        let values =
        values_are script server world number kept is_kept shown serves steady.stable machine behind change inside_is own_is done.kind done.stays done.staged staged in
        let own_row = holds_own (entry.Updated table row) tables done shape.name shape.stage_is in
        subst (λ t. IsBehind t behind own_change (entry.Updated table row)) (sym done.tables_are)
        (subst (λ t. IsBehind (with_changed_item (λ state. row_written_in state row) server.tables t) behind own_change (entry.Updated t row))
        (sym shape.table_is)
        (subst (λ r. IsBehind (with_changed_item (λ state. row_written_in state r) server.tables change.target.table) behind own_change
        (entry.Updated change.target.table r)) (sym shape.row_is)
        (record {
          served = subst (λ v. IsServerOf script
              (behind_it (with_changed_item (λ state. row_written_in state (target_in at_work)) server.tables change.target.table) behind)
              (with_changed_row world number (kept_session kept) change.target.table (target_in at_work) (Some v)))
              (sym (ap (λ p. values_set (Some (Ok own_change)) world.tables (kept_progress p)) inside_is ∙ values))
              (written_lifts script server world number kept is_kept shown serves steady.stable machine behind change inside_is own_is
              done.kind done.stays done.staged staged
              (λ other holds. held_differ script world steady other number change.target.table (target_in at_work) holds own_row)
              (subst (λ v. HoldsStay script world
              (with_changed_item (λ view. row_changed view at_work.me (target_in at_work) (Some v)) world.tables change.target.table) number) values
              (subst (λ r. Rest (entry.Updated change.target.table r)) shape.row_is
              (subst (λ t. Rest (entry.Updated t row)) shape.table_is rest)))
              opens done.running);
          few = few_behind _ behind 0 (grow_written server.tables change.target.table (target_in at_work)) (let d = draws_one behind in omega (arith, d));
        })))
    change_behind (entry.Deleted table row) tables done opens shape rest =
        let off = unstaged (entry.Deleted table row) done.choice (λ e. cc e) in
        let held = held_row (entry.Deleted table row) tables done shape.name shape.stage_is in
        subst (λ t. IsBehind t behind own_change (entry.Deleted table row)) (sym done.tables_are)
        (subst (λ t. IsBehind (with_changed_item (λ state. row_erased_in state at_work.me row) server.tables t) behind own_change (entry.Deleted t row))
        (sym shape.table_is)
        (subst (λ r. IsBehind (with_changed_item (λ state. row_erased_in state at_work.me r) server.tables change.target.table) behind own_change
        (entry.Deleted change.target.table r)) (sym shape.row_is)
        (record {
          served = erased_lifts script server world number kept is_kept (shown_here (entry.Deleted table row) tables done) serves steady.stable machine behind
              change inside_is own_is done.kind done.stays (done.staged ∙ off) off shape.name held.0
              (subst (λ b. IsStagedIf b change server.tables server.xacts at_work) off held.1)
              (subst (λ r. Rest (entry.Deleted change.target.table r)) shape.row_is (subst (λ t. Rest (entry.Deleted t row)) shape.table_is rest))
              opens done.running;
          few = few_behind _ behind 1 (grow_erased server.tables change.target.table at_work.me (target_in at_work))
              (let d = draws_between change at_work behind done.kind done.running in omega (arith, d));
        })))
    change_behind (entry.Snapped commits) tables done opens shape rest = absurd shape
    change_behind (entry.Placed table row) tables done opens shape rest = absurd shape
    change_behind (entry.Inserted table row) tables done opens shape rest = absurd shape
    change_behind (entry.Waits other) tables done opens shape rest = absurd shape
    change_behind entry.Committed tables done opens shape rest = absurd shape
    change_behind entry.RolledBack tables done opens shape rest = absurd shape
    change_behind (entry.Replied reply) tables done opens shape rest = absurd shape
    change_behind (entry.Failed error) tables done opens shape rest = absurd shape
    change_behind entry.Closed tables done opens shape rest = absurd shape

    pub changes : (act : EntryAct) (tables : List TableState) →
        DoesEntry own_change server.xacts server.tables tables (machine_of.Change machine) behind act →
        HasActed script number world server (behind_it tables behind) act
    changes act tables done =
        entered own_change own_is (machine_of.Change machine) inside_is behind tables act done
        (change_behind act tables done
        (opens_by own_change own_is (machine_of.Change machine) inside_is behind tables act done)
        (change_act change world.tables world.transactions at_work act
        (only_by own_change own_is (machine_of.Change machine) inside_is behind tables act done))
        (rest_by own_change own_is (machine_of.Change machine) inside_is behind tables act done))

  -- a machine has done its only choice
  pub entry_step : (own : Statement) (machine : Machine) → statement_at script number (kept_session kept) ≡ Some (Ok own) →
      kept.place ≡ place_of.Inside machine → IsOfKind machine own → IsStagedBy server.tables server.xacts own machine →
      IsHoldingBy server.tables server.xacts own machine → (behind : Machine) (tables : List TableState) (act : EntryAct) →
      DoesEntry own server.xacts server.tables tables machine behind act → HasActed script number world server (behind_it tables behind) act
  entry_step (statement.Insert insert) (machine_of.Insert running) own_is inside_is kind staged holding behind tables act done =
      inserts insert running own_is inside_is behind act tables done
  entry_step (statement.Change change) (machine_of.Change machine) own_is inside_is kind staged holding behind tables act done =
      changes change machine own_is inside_is behind staged holding act tables done
  entry_step (statement.Select select) (machine_of.Select machine) own_is inside_is kind staged holding behind tables act done =
      absurd (select_act select world.tables world.transactions machine.running act (only_by (statement.Select select) own_is (machine_of.Select machine) inside_is behind tables act done))
  entry_step (statement.Insert insert) (machine_of.Select machine) own_is inside_is kind staged holding behind tables act done = absurd kind
  entry_step (statement.Insert insert) (machine_of.Change machine) own_is inside_is kind staged holding behind tables act done = absurd kind
  entry_step (statement.Change change) (machine_of.Insert machine) own_is inside_is kind staged holding behind tables act done = absurd kind
  entry_step (statement.Change change) (machine_of.Select machine) own_is inside_is kind staged holding behind tables act done = absurd kind
  entry_step (statement.Select select) (machine_of.Insert machine) own_is inside_is kind staged holding behind tables act done = absurd kind
  entry_step (statement.Select select) (machine_of.Change machine) own_is inside_is kind staged holding behind tables act done = absurd kind
  entry_step statement.Begin machine own_is inside_is kind staged holding behind tables act done = absurd (no_begin machine kind)
  entry_step statement.Commit machine own_is inside_is kind staged holding behind tables act done = absurd (no_commit machine kind)
  entry_step statement.Rollback machine own_is inside_is kind staged holding behind tables act done = absurd (no_rollback machine kind)
