-- What an UPDATE or DELETE does with a row is what its entry makes of the world.
use Rattle.std.proofs.Common.{◌≡◌, ◌≢◌, ◌⊎◌, inl, inr, ◌<◌, ◌≤◌, ℕ, zero, suc, true, false, cond, List, [], length, map, Option, Some, None, slice_get, slice_set, nat_eq, option_and_then, arith, refl, sym, ap, ◌∙◌, subst, eq-eqb, ne_eqb}
use Rattle.std.proofs.lemmas.Bool.{cases_eq}
use Rattle.std.specs.Prelude.{Ok, option_map, unwrap_or}
use Rattle.std.proofs.lemmas.Option.{slice_get_within}
use Rattle.pg_lists.specs.Numbered.{item_at, with_changed_item}
use Rattle.pg_multi.specs.declared.strength.Strength.{Strength}
use Rattle.pg_multi.specs.Locks.{lock_joined}
use Rattle.pg_values.specs.declared.value.Value.{Value}
use Rattle.pg_xacts.specs.declared.me.Me.{Me}
use Rattle.pg_xacts.proofs.Lists.{length_changed_from_one}
use Rattle.pg_heap.specs.Current.{newest}
use Rattle.pg_heap.specs.declared.row.Row.{Row}
use Rattle.pg_heap.specs.declared.version.Version.{Version}
use Rattle.pg_rows.proofs.Rows.{length_rows}
use Rattle.pg_model.specs.declared.script.Script.{Script}
use Rattle.pg_model.specs.declared.statement.Change.{Change}
use Rattle.pg_model.specs.declared.statement.Statement.TheVariants as statement
use Rattle.pg_world.specs.Changes.{row_at, table_at, values_to_hold}
use Rattle.pg_world.specs.declared.placed.PlacedRow.{PlacedRow}
use Rattle.pg_world.specs.declared.session.Progress.TheVariants.{Inside as inside}
use Rattle.pg_world.specs.declared.session.Running.{Running}
use Rattle.pg_world.specs.declared.session.SessionView.{SessionView}
use Rattle.pg_world.specs.declared.session.VersionName.{VersionName}
use Rattle.pg_world.specs.declared.table.TableView.{TableView}
use Rattle.pg_world.specs.Tables.{empty_table, row_changed, row_locked}
use Rattle.pg_world.specs.Worlds.{World}
use Rattle.pg_relation.specs.Effect.{values_held, with_changed_row, with_locked_row}
use Rattle.pg_relation.specs.Holds.{HoldsRow}
use Rattle.pg_relation.specs.Lines.{statement_at}
use Rattle.pg_relation.specs.Running.{current_in, running_acted, running_locked}
use Rattle.pg_relation.proofs.Spares.{IsReading as Stays, IsStable, not_owner}
use Rattle.pg_scans.specs.Readings.{IsReading, ReadingView}
use Rattle.pg_scans.proofs.Commits.{running_unseen}
use Rattle.pg_scans.proofs.Kept.{erasing_keeps, locking_keeps, writing_keeps}
use Rattle.pg_table.specs.Scanned.{IsUnseen}
use Rattle.pg_table.specs.States.{IsTable, TableState, row_erased_in, row_held_in, row_written_in, staged_at, table_shown}
use Rattle.pg_table.proofs.Changed.{erased_shown, written_shown}
use Rattle.pg_table.proofs.Drafted.{table_erased}
use Rattle.pg_table.proofs.Kept.{table_settled}
use Rattle.pg_table.specs.declared.placing.DraftKind.TheVariants.{Next}
use Rattle.pg_table.proofs.Staged.{staged_erased, staged_written}
use Rattle.pg_update.specs.Steps.{ChangeView, HoldsItsRow, IsStaged, IsUndrafted, staged_in, target_in, target_shown}
use Rattle.pg_board.specs.declared.server.Server.{Server}
use Rattle.pg_board.specs.declared.session.Machine.{Machine}
use Rattle.pg_board.specs.declared.session.Machine.TheVariants as machine_of
use Rattle.pg_board.specs.declared.session.Place.TheVariants as place_of
use Rattle.pg_board.specs.declared.session.Session.{Session}
use Rattle.pg_board.specs.Machines.{IsPlanned}
use Rattle.pg_board.specs.Servers.{AreDrafts, IsDraftOf, IsOfKind, IsServerOf, has_staged, kept_session, running_of}
use Rattle.pg_board.proofs.Drafts.{changed_table, staged_in_row, staged_where}
use Rattle.pg_board.proofs.Ending.{runs}
use Rattle.pg_board.proofs.Lifting.{HoldsStay, LeavesOthers, drafts_left}
use Rattle.pg_board.proofs.MachineActs.{changed_tables, drafts_stay, leaves_changed, lifts}
use Rattle.pg_board.proofs.Shown.{changed_in, shown_at}

-- a table of which a row is held
table_held : (state : TableState) (xact row : ℕ) (strength : Strength) → IsTable state → IsTable (row_held_in state xact row strength)
table_held state xact row strength is = record {
  count = is.count;
  locked = length_changed_from_one (λ locks. lock_joined locks xact strength) state.locks row ∙ is.locked;
  within = is.within;
  named = is.named;
  waits = is.waits;
  last = is.last;
}

-- a row that has a version was drawn
pub drawn_where : (state : TableState) (row : ℕ) (version : Version) → newest (row_at (table_shown state) row) ≡ Some version →
    (0 < row) × (row ≤ state.store.drawn)
drawn_where state zero version is = absurd (cc is)
drawn_where state (suc before) version is = at (slice_get (table_shown state).rows before) refl is
  where
    at : (o : Option Row) → slice_get (table_shown state).rows before ≡ o →
        newest (unwrap_or o (record { number = suc before; versions = [] })) ≡ Some version → (0 < suc before) × (suc before ≤ state.store.drawn)
    at None there e = absurd (cc e)
    at (Some row) there e =
        let within = slice_get_within (table_shown state).rows before row there in
        let all = length_rows 1 state.store.drawn state.store.versions in
        (omega arith, omega (arith, within, all))

module _ (script : Script) (server : Server) (world : World) (number : ℕ) (kept : Session)
    (is_kept : slice_get server.sessions number ≡ Some kept)
    (is_shown : slice_get world.sessions number ≡ Some (kept_session kept))
    (serves : IsServerOf script server world) (stable : IsStable script world)
    (machine : ChangeView) (behind : Machine) (change : Change) (inside_is : kept.place ≡ place_of.Inside (machine_of.Change machine))
    (own_is : statement_at script number (kept_session kept) ≡ Some (Ok (statement.Change change)))
    (kind : IsOfKind behind (statement.Change change)) (stays : IsPlanned behind) (off : has_staged behind ≡ false) where
  abbrev me : Me
  me = machine.running.me

  abbrev after : Session
  after = record kept { place = place_of.Inside behind }

  -- the row is locked
  module _ (unstaged : machine.staged ≡ false) (table row : ℕ) (strength : Strength)
      (stay : HoldsStay script world (with_changed_item (λ view. row_locked view me.xact row strength) world.tables table) number) where
    holding_shown : map table_shown (with_changed_item (λ state. row_held_in state me.xact row strength) server.tables table)
        ≡ with_changed_item (λ view. row_locked view me.xact row strength) world.tables table
    holding_shown =
        changed_in (λ state. row_held_in state me.xact row strength) (λ view. row_locked view me.xact row strength) server.tables table
        (λ state there. refl)
        ∙ ap (λ tables. with_changed_item (λ view. row_locked view me.xact row strength) tables table) serves.tables

    pub locked_lifts : running_of behind ≡ running_locked (current_in world.tables world.transactions table row me.xact) machine.running →
        IsServerOf script
        (record server {
          tables = with_changed_item (λ state. row_held_in state me.xact row strength) server.tables table;
          sessions = slice_set server.sessions number after;
        })
        (with_locked_row world number (kept_session kept) table row strength)
    locked_lifts is =
        rw inside_is
        (lifts script server world number kept is_kept is_shown serves stable (machine_of.Change machine) behind (statement.Change change) inside_is
        own_is kind stays off (with_changed_item (λ state. row_held_in state me.xact row strength) server.tables table)
        (with_changed_item (λ view. row_locked view me.xact row strength) world.tables table)
        (running_locked (current_in world.tables world.transactions table row me.xact) machine.running) holding_shown
        (changed_tables (λ state. row_held_in state me.xact row strength) server.tables table
        (λ state there valid. table_held state me.xact row strength valid) serves.valid)
        (leaves_changed script server world number kept is_kept is_shown serves stable (machine_of.Change machine) behind (statement.Change change)
        inside_is own_is kind stays off unstaged (λ state. row_held_in state me.xact row strength) table (λ state r there. refl)
        (with_changed_item (λ view. row_locked view me.xact row strength) world.tables table) holding_shown stay
        (λ other session running reading apart theirs same commits reads.
        locking_keeps server.tables server.xacts reading table me.xact row strength reads))
        (drafts_stay script server world number kept is_kept is_shown serves stable (machine_of.Change machine) behind (statement.Change change)
        inside_is own_is kind stays off unstaged (λ state. row_held_in state me.xact row strength) table (λ state r there. refl)) is)

  abbrev target : ℕ
  target = change.target.table

  abbrev row : ℕ
  row = target_in machine.running

  -- no other statement sees what the session writes
  unseen : kept.transaction ≡ Some me.xact → (other : ℕ) (session : SessionView) (running : Running) (reading : ReadingView) →
      (other ≡ number → ⊥) → Stays script world other session running → reading.me ≡ running.me →
      IsUnseen server.xacts reading.snapshot.commits reading.me me.xact
  unseen opened other session running reading apart theirs same =
      running_unseen server.xacts reading.snapshot.commits reading.me me.xact (runs script server world number kept is_shown serves stable me.xact opened)
      (λ e. not_owner world me.xact running.me.xact other number ((stable.each number (kept_session kept) is_shown).owner me.xact opened).1
      theirs.owned apart (e ∙ ap (λ m. m.xact) same))

  -- the row is erased
  module _ (unstaged : machine.staged ≡ false) (name : VersionName) (holds : HoldsItsRow change server.tables server.xacts machine.running name)
      (free : IsUndrafted change server.tables machine.running)
      (stay : HoldsStay script world (with_changed_item (λ view. row_changed view me row None) world.tables target) number) where
    drawn : (state : TableState) → item_at server.tables target ≡ Some state → (0 < row) × (row ≤ state.store.drawn)
    drawn state there =
        drawn_where state row holds.version
        (ap (λ view. newest (row_at view row)) (sym (ap (λ o. unwrap_or o empty_table) (shown_at server.tables target ∙ ap (λ o. option_map table_shown o) there)))
        ∙ holds.newest_is)

    erasing_shown : map table_shown (with_changed_item (λ state. row_erased_in state me row) server.tables target)
        ≡ with_changed_item (λ view. row_changed view me row None) world.tables target
    erasing_shown =
        changed_in (λ state. row_erased_in state me row) (λ view. row_changed view me row None) server.tables target
        (λ state there. erased_shown state me row (serves.valid target state there) (drawn state there))
        ∙ ap (λ tables. with_changed_item (λ view. row_changed view me row None) tables target) serves.tables

    erasing_same : (state : TableState) (r : ℕ) → slice_get server.tables target ≡ Some state → staged_at (row_erased_in state me row) r ≡ staged_at state r
    erasing_same state r there = staged_erased state me row r (serves.valid target state there)

    pub erased_lifts : kept.transaction ≡ Some me.xact → running_of behind ≡ running_acted machine.running →
        IsServerOf script
        (record server {
          tables = with_changed_item (λ state. row_erased_in state me row) server.tables target;
          sessions = slice_set server.sessions number after;
        })
        (with_changed_row world number (kept_session kept) target row None)
    erased_lifts opened is =
        rw inside_is
        (lifts script server world number kept is_kept is_shown serves stable (machine_of.Change machine) behind (statement.Change change) inside_is
        own_is kind stays off (with_changed_item (λ state. row_erased_in state me row) server.tables target)
        (with_changed_item (λ view. row_changed view me row None) world.tables target) (running_acted machine.running) erasing_shown
        (changed_tables (λ state. row_erased_in state me row) server.tables target
        (λ state there valid. table_erased state me row valid (drawn state there) (free state there)) serves.valid)
        (leaves_changed script server world number kept is_kept is_shown serves stable (machine_of.Change machine) behind (statement.Change change)
        inside_is own_is kind stays off unstaged (λ state. row_erased_in state me row) target erasing_same
        (with_changed_item (λ view. row_changed view me row None) world.tables target) erasing_shown stay
        (λ other session running reading apart theirs same commits reads.
        erasing_keeps server.tables server.xacts reading target me row (unseen opened other session running reading apart theirs same) reads))
        (drafts_stay script server world number kept is_kept is_shown serves stable (machine_of.Change machine) behind (statement.Change change)
        inside_is own_is kind stays off unstaged (λ state. row_erased_in state me row) target erasing_same) is)

  -- what is staged for it is what the world gives it
  pub values_are : (staged : IsStaged change server.tables server.xacts machine.running) →
      values_held (values_to_hold change world.tables machine.running) ≡ staged.values
  values_are staged = ap values_held (ap (λ views. values_to_hold change views machine.running) (sym serves.tables) ∙ staged.made)

  -- and it is written
  module _ (staged : IsStaged change server.tables server.xacts machine.running)
      (differ : (other : ℕ) → HoldsRow script world other target row → other ≡ number)
      (stay : HoldsStay script world (with_changed_item (λ view. row_changed view me row (Some staged.values)) world.tables target) number) where
    abbrev written : List TableState
    written = with_changed_item (λ state. row_written_in state row) server.tables target

    abbrev draft : PlacedRow
    draft = record { row = row; me = me; values = staged.values }

    there_staged : (state : TableState) → item_at server.tables target ≡ Some state → staged_at state row ≡ Some draft
    there_staged state there = sym (ap (λ o. option_and_then (λ one. staged_at one row) o) there) ∙ staged.staged

    writing_shown : map table_shown written ≡ with_changed_item (λ view. row_changed view me row (Some staged.values)) world.tables target
    writing_shown =
        changed_in (λ state. row_written_in state row) (λ view. row_changed view me row (Some staged.values)) server.tables target
        (λ state there. written_shown state row draft (serves.valid target state there) (there_staged state there))
        ∙ ap (λ tables. with_changed_item (λ view. row_changed view me row (Some staged.values)) tables target) serves.tables

    -- what is staged for other rows stays, and nothing is staged for this one
    elsewhere : (table r : ℕ) → (table ≡ target → r ≢ row) → staged_in written table r ≡ staged_in server.tables table r
    elsewhere table r apart =
        staged_where (λ state. row_written_in state row) server.tables target (λ r. r ≢ row)
        (λ state r there other. staged_written state row r (serves.valid target state there) ∙ ap (λ b. cond b None (staged_at state r)) (ne_eqb r row other))
        table r apart

    gone : (one : PlacedRow) → staged_in written target row ≡ Some one → ⊥
    gone one is = at (item_at server.tables target) refl
      where
        at : (o : Option TableState) → item_at server.tables target ≡ o → ⊥
        at None there = let e : None ≡ Some draft = sym (ap (λ o. option_and_then (λ s. staged_at s row) o) there) ∙ staged.staged in cc e
        at (Some state) there =
            let e : None ≡ Some one =
            sym
            (ap (λ o. option_and_then (λ s. staged_at s row) o) (changed_table (λ state. row_written_in state row) server.tables target state there)
            ∙ (staged_written state row row (serves.valid target state there) ∙ ap (λ b. cond b None (staged_at state row)) (eq-eqb row row refl)))
            ∙ is in
            cc e

    before : (table r : ℕ) (one : PlacedRow) → staged_in written table r ≡ Some one → staged_in server.tables table r ≡ Some one
    before table r one is = at (cases_eq table target) (cases_eq r row)
      where
        at : (table ≡ target) ⊎ (table ≡ target → ⊥) → (r ≡ row) ⊎ (r ≡ row → ⊥) → staged_in server.tables table r ≡ Some one
        at (inl e) (inl f) = absurd (gone one (subst (λ t. staged_in written t row ≡ Some one) e (subst (λ n. staged_in written table n ≡ Some one) f is)))
        at (inl e) (inr apart) = sym (elsewhere table r (λ same. apart)) ∙ is
        at (inr apart) any = sym (elsewhere table r (λ same. absurd (apart same))) ∙ is

    not_own : (table r : ℕ) (one : PlacedRow) → staged_in written table r ≡ Some one → (of : IsDraftOf script server.sessions table one) →
        of.number ≡ number → ⊥
    not_own table r one is of same =
        let e : Some kept ≡ Some of.session = sym is_kept ∙ (ap (λ n. slice_get server.sessions n) (sym same) ∙ of.is) in
        let f : kept ≡ of.session = cc e in
        let g : place_of.Inside (machine_of.Change machine) ≡ place_of.Inside (machine_of.Change of.machine) =
        sym inside_is ∙ (ap (λ s. s.place) f ∙ of.inside) in
        let machines : machine ≡ of.machine = cc g in
        let h : Some (Ok (statement.Change change)) ≡ Some (Ok (statement.Change of.change)) =
        sym own_is ∙ (ap (λ s. statement_at script number (kept_session s)) f ∙ (ap (λ n. statement_at script n (kept_session of.session)) (sym same) ∙ of.given)) in
        let changes : change ≡ of.change = cc h in
        let at_table : table ≡ target = sym of.table_is ∙ ap (λ c. c.target.table) (sym changes) in
        let at_row : r ≡ row = sym (staged_in_row written table r one is) ∙ (sym of.row_is ∙ ap (λ m. target_in m.running) (sym machines)) in
        gone one (subst (λ t. staged_in written t row ≡ Some one) at_table (subst (λ n. staged_in written table n ≡ Some one) at_row is))

    leaves_written : kept.transaction ≡ Some me.xact → LeavesOthers script server world number written server.xacts
    leaves_written opened = record {
      reads = λ other session running reading apart theirs same commits reads.
          writing_keeps server.tables server.xacts reading target row serves.valid
          (λ state there found is.
          let e : Some draft ≡ Some found = sym (there_staged state there) ∙ is in
          let f : draft ≡ found = cc e in
          subst (λ d. IsUnseen server.xacts reading.snapshot.commits reading.me d.me.xact) f (unseen opened other session running reading apart theirs same))
          reads;
      held = subst (λ v. HoldsStay script world v number) (sym writing_shown) stay;
      staged = λ other table r one has.
          elsewhere table r (λ same at_row. has.apart (differ other
          (subst (λ t. HoldsRow script world other t row) same (subst (λ n. HoldsRow script world other table n) at_row has.holds))))
          ∙ has.there;
    }

    pub written_lifts : kept.transaction ≡ Some me.xact → running_of behind ≡ running_acted machine.running →
        IsServerOf script (record server { tables = written; sessions = slice_set server.sessions number after })
        (with_changed_row world number (kept_session kept) target row (Some staged.values))
    written_lifts opened is =
        rw inside_is
        (lifts script server world number kept is_kept is_shown serves stable (machine_of.Change machine) behind (statement.Change change) inside_is
        own_is kind stays off written (with_changed_item (λ view. row_changed view me row (Some staged.values)) world.tables target)
        (running_acted machine.running) writing_shown
        (changed_tables (λ state. row_written_in state row) server.tables target (λ state there valid. table_settled Next state row valid) serves.valid)
        (leaves_written opened)
        (drafts_left script server world number serves stable written after before not_own) is)
