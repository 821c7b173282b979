-- A permitted entry of another session leaves the row that a session holds.
use Rattle.std.proofs.Common.{◌≡◌, ◌≢◌, ◌⊎◌, ℕ, zero, suc, Bool, true, not, List, [], ◌∷◌, filter, Option, Some, None, slice_get, refl, sym, ap, ◌∙◌, inl, inr}
use Rattle.std.specs.Prelude.{Ok, option_map}
use Rattle.std.proofs.lemmas.Option.{slice_get-map}
use Rattle.pg_lists.specs.Numbered.{with_changed_item}
use Rattle.pg_values.specs.declared.value.Value.{Value}
use Rattle.pg_xacts.specs.declared.me.Me.{Me}
use Rattle.pg_heap.specs.declared.row.Row.{Row}
use Rattle.pg_heap.specs.Rows.{is_written_by, row_drawn, row_of, row_without, with_version}
use Rattle.pg_heap.proofs.Lists.{changed_other, get_before}
use Rattle.pg_model.specs.declared.journal.Entry.{Entry}
use Rattle.pg_model.specs.declared.journal.EntryAct.{EntryAct}
use Rattle.pg_model.specs.declared.journal.EntryAct.TheVariants as entry
use Rattle.pg_model.specs.declared.script.Script.{Script}
use Rattle.pg_world.specs.declared.placed.PlacedRow.{PlacedRow}
use Rattle.pg_world.specs.declared.session.SessionView.{SessionView}
use Rattle.pg_world.specs.declared.session.Stage.TheVariants.{Placed as placed}
use Rattle.pg_world.specs.declared.table.TableView.{TableView}
use Rattle.pg_world.specs.Tables.{TransactionEnd, commit, rollback, locks_on, placed_at, placed_stored, row_changed, row_inserted, row_locked, row_placed, rows_after_end, table_after_end, version_by}
use Rattle.pg_world.specs.Worlds.{World, with_end_of}
use Rattle.pg_relation.specs.Effect.{act_effect, effect, me_in, proposed_in, values_set}
use Rattle.pg_relation.specs.Holds.{HoldsRow, StaysHeld}
use Rattle.pg_relation.specs.Lines.{statement_at}
use Rattle.pg_relation.specs.Locking.{Each}
use Rattle.pg_relation.specs.Moves.{IsPermitted}
use Rattle.pg_relation.specs.Needs.{IsLockedFor, Needs}
use Rattle.pg_relation.proofs.Deciding.{IsChangeOf}
use Rattle.pg_relation.proofs.Guarded.{no_other_held}
use Rattle.pg_relation.proofs.Held.{IsHeldAt, held_at, held_differ, holding_of}
use Rattle.pg_relation.proofs.Leaving.{Waits}
use Rattle.pg_relation.proofs.LockingKept.{IsSteady, changing, steady_kept}
use Rattle.pg_relation.proofs.Needs.{IsMove, move_of}
use Rattle.pg_relation.proofs.Placing.{inserting}
use Rattle.pg_relation.proofs.Acted.{effect_other}
use Rattle.pg_relation.proofs.RowSteps.{nth_map}
use Rattle.pg_relation.proofs.Spares.{not_owner}
use Rattle.pg_relation.proofs.There.{row_there}
use Rattle.pg_relation.proofs.Versions.{each_map, not_written}
use Rattle.pg_relation.proofs.Waiting.{table_changed}

-- a list of which each item passes
pub all_passing : {X : Type 0} (p : X → Bool) (xs : List X) → Each (λ x. p x ≡ true) xs → filter p xs ≡ xs
all_passing p [] all = refl
all_passing p (x ∷ xs) all = rw all.0 (ap (λ ys. x ∷ ys) (all_passing p xs all.1))

-- that row stands under its number in a table
abbrev pub IsRowAt : List TableView → ℕ → ℕ → Row → Type 0
IsRowAt tables table row one =
    (view : TableView) × (slice_get tables table ≡ Some view) × (row_of view.rows row ≡ Some one)

-- where a table is changed
pub row_at_changed : (change : TableView → TableView) (tables : List TableView) (place table row : ℕ) (one : Row) (view : TableView) →
    slice_get tables table ≡ Some view → row_of view.rows row ≡ Some one →
    (table ≡ place → row_of (change view).rows row ≡ Some one) → IsRowAt (with_changed_item change tables place) table row one
row_at_changed change tables place table row one view view_is one_is keeps =
    at (table_changed change tables place table view view_is)
  where
    at : ((table ≡ place) × (slice_get (with_changed_item change tables place) table ≡ Some (change view)))
        ⊎ (slice_get (with_changed_item change tables place) table ≡ Some view) →
        IsRowAt (with_changed_item change tables place) table row one
    at (inl h) = (change view, h.1, keeps h.0)
    at (inr h) = (view, h, one_is)

-- where a number is drawn
pub row_at_drawn : (rows : List Row) (row : ℕ) (one : Row) → row_of rows row ≡ Some one → row_of (row_drawn rows) row ≡ Some one
row_at_drawn rows zero one is = absurd (cc is)
row_at_drawn rows (suc before) one is = get_before rows _ before one is

-- where another row is stored
pub row_at_inserted : (view : TableView) (me : Me) (stored row : ℕ) → row ≢ stored →
    row_of (row_inserted view me stored).rows row ≡ row_of view.rows row
row_at_inserted view me stored row apart = at (placed_at view.placed stored)
  where
    at : (o : Option PlacedRow) → row_of (placed_stored view me stored o).rows row ≡ row_of view.rows row
    at None = refl
    at (Some one) = changed_other (with_version (version_by me one.values)) view.rows stored row apart

-- a row that has no version of a transaction
pub without_none : (xact : ℕ) (row : Row) → Each (λ version. version.writer ≢ xact) row.versions → row_without xact row ≡ row
without_none xact row none =
    ap (λ vs. record row { versions = vs })
    (all_passing (λ version. not (is_written_by xact version)) row.versions
    (each_map (λ version. version.writer ≢ xact) (λ version. not (is_written_by xact version) ≡ true)
    (λ version apart. not_written version xact apart) row.versions none))

module _ (script : Script) (world : World) (number : ℕ) (session : SessionView) (is : slice_get world.sessions number ≡ Some session)
    (steady : IsSteady script world) (other table row : ℕ) (held : HoldsRow script world other table row) (apart : number ≢ other)
    (h : IsHeldAt world other table row held.running.me.xact) where
  unchanged : IsRowAt world.tables table row h.one
  unchanged = (h.view, h.view_is, h.one_is)

  -- what is stored is another row: it has no version yet
  pub not_stored : (place stored : ℕ) → Waits world.tables place stored (me_in session.progress) (proposed_in session.progress) →
      table ≡ place → row ≢ stored
  not_stored place stored waits same equal =
      let e : Some h.view ≡ Some waits.0 = sym h.view_is ∙ (ap (λ k. slice_get world.tables k) same ∙ waits.1) in
      let f : h.view ≡ waits.0 = cc e in
      let g : Some h.one ≡ Some (record { number = stored; versions = [] }) =
      sym h.one_is ∙ (ap (λ v. row_of v.rows row) f ∙ (ap (λ k. row_of waits.0.rows k) equal ∙ waits.2.fresh)) in
      let one : h.one ≡ record { number = stored; versions = [] } = cc g in
      h.some (ap (λ r. r.versions) one)

  -- and so is what is changed: the session that changes it holds it
  pub not_changed : (act : EntryAct) (place changed : ℕ) → IsChangeOf act place changed →
      IsLockedFor world (statement_at script number session) session act → table ≡ place → row ≢ changed
  not_changed act place changed changes s same equal =
      let c = changing script world number session is steady.stable steady.tidy steady.locking act place changed changes s in
      apart (held_differ script world steady number other table row (record {
        session = session;
        is = is;
        running = s.1.opened.running;
        inside_is = s.1.opened.inside_is;
        change = c.0;
        statement_is = s.1.opened.statement_is ∙ ap (λ st. Some (Ok st)) c.1;
        name = s.0;
        stage_is = s.1.stage_is;
        table_is = c.2.0 ∙ sym same;
        row_is = c.2.1 ∙ sym equal;
      }) held)

  row_at_change : (act : EntryAct) (place changed : ℕ) (values : Option (List Value)) → IsChangeOf act place changed →
      IsLockedFor world (statement_at script number session) session act →
      IsRowAt (with_changed_item (λ v. row_changed v (me_in session.progress) changed values) world.tables place) table row h.one
  row_at_change act place changed values changes s =
      row_at_changed (λ v. row_changed v (me_in session.progress) changed values) world.tables place table row h.one h.view h.view_is h.one_is
      (λ same.
      changed_other (with_version (record {
        values = values;
        writer = (me_in session.progress).xact;
        command = (me_in session.progress).command;
      })) h.view.rows changed row (not_changed act place changed changes s same) ∙ h.one_is)

  -- the session's transaction ends, which has no version of the row
  row_at_end : (transaction : Option ℕ) (end : TransactionEnd) → session.transaction ≡ transaction →
      IsRowAt (with_end_of world number transaction end).tables table row h.one
  row_at_end None end t_is = unchanged
  row_at_end (Some xact) end t_is = (
    table_after_end xact end h.view,
    slice_get-map (table_after_end xact end) world.tables table ∙ ap (λ o. option_map (table_after_end xact end) o) h.view_is,
    left end,
  )
    where
      own : xact ≢ held.running.me.xact
      own =
          not_owner world xact held.running.me.xact other number ((steady.stable.each number session is).owner xact t_is).1 h.owned
          (λ e. apart (sym e))

      left : (end : TransactionEnd) → row_of (rows_after_end xact end h.view.rows) row ≡ Some h.one
      left commit = h.one_is
      left rollback =
          nth_map (row_without xact) h.view.rows row
          ∙ (ap (λ o. option_map (row_without xact) o) h.one_is
          ∙ ap (λ r. Some r)
          (without_none xact h.one
          (no_other_held world.transactions row h.one (locks_on h.view row) h.guard held.running.me.xact xact h.holds
          ((steady.stable.each number session is).owner xact t_is).0 own)))

  row_at_act : (act : EntryAct) → Needs script world number (statement_at script number session) session act →
      IsRowAt (act_effect world number (statement_at script number session) session act).tables table row h.one
  row_at_act (entry.Snapped commits) needs = unchanged
  row_at_act (entry.Found candidate) needs = unchanged
  row_at_act (entry.Placed place drawn) needs =
      row_at_changed (λ v. row_placed v (me_in session.progress) (proposed_in session.progress)) world.tables place table row h.one h.view
      h.view_is h.one_is (λ same. row_at_drawn h.view.rows row h.one h.one_is)
  row_at_act (entry.Locked place taken strength) needs =
      row_at_changed (λ v. row_locked v (me_in session.progress).xact taken strength) world.tables place table row h.one h.view
      h.view_is h.one_is (λ same. h.one_is)
  row_at_act (entry.Inserted place stored) needs =
      row_at_changed (λ v. row_inserted v (me_in session.progress) stored) world.tables place table row h.one h.view h.view_is h.one_is
      (λ same.
      row_at_inserted h.view (me_in session.progress) stored row
      (not_stored place stored (inserting script world number session is steady.stable steady.tidy place stored needs) same) ∙ h.one_is)
  row_at_act (entry.Updated place changed) needs =
      row_at_change (entry.Updated place changed) place changed
      (Some (values_set (statement_at script number session) world.tables session.progress)) (inl refl) needs
  row_at_act (entry.Deleted place changed) needs =
      row_at_change (entry.Deleted place changed) place changed None (inr refl) needs
  row_at_act entry.Passed needs = unchanged
  row_at_act (entry.Waits on) needs = unchanged
  row_at_act entry.Committed needs = row_at_end session.transaction commit refl
  row_at_act entry.RolledBack needs = row_at_end session.transaction rollback refl
  row_at_act (entry.Replied reply) needs = unchanged
  row_at_act (entry.Failed error) needs = row_at_end session.transaction rollback refl
  row_at_act entry.Closed needs = row_at_end session.transaction rollback refl

-- the session goes on to hold it
abbrev pub held_on : (script : Script) (world new : World) (number table row : ℕ) (held : HoldsRow script world number table row) →
    slice_get new.sessions number ≡ Some held.session → HoldsRow script new number table row
held_on script world new number table row held is = record {
  session = held.session;
  is = is;
  running = held.running;
  inside_is = held.inside_is;
  change = held.change;
  statement_is = held.statement_is;
  name = held.name;
  stage_is = held.stage_is;
  table_is = held.table_is;
  row_is = held.row_is;
}

pub held_stays : (script : Script) (world : World) (entry : Entry) → IsSteady script world → IsPermitted script world entry →
    (number table row : ℕ) (held : HoldsRow script world number table row) → entry.session ≢ number →
    StaysHeld script world (effect script world entry) number table row held
held_stays script world entry steady move number table row held apart = record {
  same_row = row_there new.tables table row behind.0 h.one behind.1 behind.2 ∙ sym (row_there world.tables table row h.view h.one h.view_is h.one_is);
  is = stands;
  holding = holding_of script new (steady_kept script world entry steady move) number table row (held_on script world new number table row held stands);
}
  where
    new : World
    new = effect script world entry

    m : IsMove script world entry.session entry.act
    m = move_of script world entry move

    h : IsHeldAt world number table row held.running.me.xact
    h = held_at script world steady number table row held

    stands : slice_get new.sessions number ≡ Some held.session
    stands = effect_other script world entry number (λ e. apart (sym e)) ∙ held.is

    behind : IsRowAt new.tables table row h.one
    behind = rw m.is (row_at_act script world entry.session m.session m.is steady number table row held apart h entry.act m.needs)
