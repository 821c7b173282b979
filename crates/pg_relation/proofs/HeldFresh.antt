-- In every legal world what is placed in a table is placed under the number of a row that has no
-- version yet, and under its own number; nobody holds such a row.
use Rattle.std.proofs.Common.{◌≡◌, ◌≢◌, ◌⊎◌, ◌==◌, ℕ, suc, Bool, true, false, cond, Contains, List, [], ◌∷◌, map, Option, Some, None, slice_get, refl, sym, ap, ◌∙◌, subst, inl, inr, eqb-true}
use Rattle.std.specs.Prelude.{option_map}
use Rattle.std.proofs.lemmas.Option.{slice_get-map}
use Rattle.pg_lists.specs.Numbered.{with_changed_item}
use Rattle.pg_values.specs.declared.value.Value.{Value}
use Rattle.pg_xacts.specs.declared.me.Me.{Me}
use Rattle.pg_xacts.specs.Transactions.{beginner_of}
use Rattle.pg_heap.specs.Rows.{row_of}
use Rattle.pg_model.specs.declared.journal.Entry.{Entry}
use Rattle.pg_model.specs.declared.journal.EntryAct.{EntryAct}
use Rattle.pg_model.specs.declared.journal.EntryAct.TheVariants as entry
use Rattle.pg_model.specs.declared.script.Script.{Script}
use Rattle.pg_world.specs.declared.placed.PlacedRow.{PlacedRow}
use Rattle.pg_world.specs.declared.session.SessionView.{SessionView}
use Rattle.pg_world.specs.declared.table.TableView.{TableView}
use Rattle.pg_world.specs.Changes.{row_at}
use Rattle.pg_world.specs.Replies.{proposed_values}
use Rattle.pg_world.specs.Tables.{TransactionEnd, commit, rollback, placed_at, row_changed, row_inserted, row_locked, row_placed, table_after_end}
use Rattle.pg_world.specs.Worlds.{World, with_end_of}
use Rattle.pg_relation.specs.Effect.{act_effect, effect, me_in, proposed_in, values_set}
use Rattle.pg_relation.specs.Holds.{HoldsRow, IsPlacedFresh, PlacesRow}
use Rattle.pg_relation.specs.Journals.{IsLegal, world_after}
use Rattle.pg_relation.specs.Lines.{statement_at}
use Rattle.pg_relation.specs.Locking.{Each}
use Rattle.pg_relation.specs.Moves.{IsPermitted}
use Rattle.pg_relation.specs.Needs.{IsLockedFor, Needs}
use Rattle.pg_relation.specs.Setup.{first_world}
use Rattle.pg_relation.proofs.Deciding.{IsChangeOf}
use Rattle.pg_relation.proofs.Held.{IsHeldAt, held_at}
use Rattle.pg_relation.proofs.Journals.{holds_from}
use Rattle.pg_relation.proofs.Leaving.{HasVersion, Waits, placed_row}
use Rattle.pg_relation.proofs.LockingKept.{IsSteady, locking_first, steady_kept, written_at}
use Rattle.pg_relation.proofs.Needs.{IsMove, move_of}
use Rattle.pg_relation.proofs.Placing.{tidy_first}
use Rattle.pg_relation.proofs.RowSteps.{changed_back}
use Rattle.pg_relation.proofs.SettingUp.{each_at, each_first}
use Rattle.pg_relation.proofs.Stable.{stable_first}
use Rattle.pg_relation.proofs.Waiting.{Drawn}
use Rattle.pg_relation.proofs.HeldPlaced.{AreFresh, IsFreshIn, AreApart, fresh_changed, fresh_contained, fresh_ended, fresh_inserted, fresh_placed}

-- All tables.

pub record IsFresh (world : World) : Type 0 where
  pub tables : (number : ℕ) (table : TableView) → slice_get world.tables number ≡ Some table → AreFresh table

abbrev AllFresh : List TableView → Type 0
AllFresh tables = (number : ℕ) (table : TableView) → slice_get tables number ≡ Some table → AreFresh table

fresh_at_change : (change : TableView → TableView) (tables : List TableView) (place : ℕ) → AllFresh tables →
    ((table : TableView) → slice_get tables place ≡ Some table → AreFresh table → AreFresh (change table)) →
    AllFresh (with_changed_item change tables place)
fresh_at_change change tables place all keeps number table is =
    at (changed_back change tables (suc place) (suc number) table is)
  where
    at : ((suc number ≡ suc place) × ((one : TableView) × (slice_get tables place ≡ Some one) × (table ≡ change one)))
        ⊎ ((suc number ≢ suc place) × (slice_get tables number ≡ Some table)) → AreFresh table
    at (inl h) = subst (λ t. AreFresh t) (sym h.1.2) (keeps h.1.0 h.1.1 (all place h.1.0 h.1.1))
    at (inr h) = all number table h.1

fresh_at_end : (xact : ℕ) (end : TransactionEnd) (tables : List TableView) → AllFresh tables →
    AllFresh (map (table_after_end xact end) tables)
fresh_at_end xact end tables all number table is =
    at (slice_get tables number) refl (sym (slice_get-map (table_after_end xact end) tables number) ∙ is)
  where
    at : (o : Option TableView) → slice_get tables number ≡ o → option_map (table_after_end xact end) o ≡ Some table → AreFresh table
    at None there e = absurd (cc e)
    at (Some one) there e =
        let f : table_after_end xact end one ≡ table = cc e in
        subst (λ t. AreFresh t) f (fresh_ended xact end one (all number one there))

module _ (script : Script) (world : World) (number : ℕ) (session : SessionView) (is : slice_get world.sessions number ≡ Some session)
    (steady : IsSteady script world) (fresh : IsFresh world) where
  end_of : (transaction : Option ℕ) (end : TransactionEnd) → AllFresh (with_end_of world number transaction end).tables
  end_of None end = fresh.tables
  end_of (Some xact) end = fresh_at_end xact end world.tables fresh.tables

  changed : (act : EntryAct) (place row : ℕ) (values : Option (List Value)) → IsChangeOf act place row →
      IsLockedFor world (statement_at script number session) session act →
      AllFresh (with_changed_item (λ v. row_changed v (me_in session.progress) row values) world.tables place)
  changed act place row values changes s =
      fresh_at_change (λ v. row_changed v (me_in session.progress) row values) world.tables place fresh.tables
      (λ table table_is old. keeps table table_is old (written_at script world number session is steady.stable steady.tidy steady.locking act place row changes s))
    where
      keeps : (table : TableView) → slice_get world.tables place ≡ Some table → AreFresh table → HasVersion world.tables place row →
          AreFresh (row_changed table (me_in session.progress) row values)
      keeps table table_is old has =
          let e : Some has.0 ≡ Some table = sym has.1 ∙ table_is in
          let f : has.0 ≡ table = cc e in
          fresh_changed table (me_in session.progress) row values has.2 (ap (λ v. row_of v.rows row) (sym f) ∙ has.3) has.4 old

  fresh_act : (act : EntryAct) → Needs script world number (statement_at script number session) session act →
      AllFresh (act_effect world number (statement_at script number session) session act).tables
  fresh_act (entry.Snapped commits) needs = fresh.tables
  fresh_act (entry.Found candidate) needs = fresh.tables
  fresh_act (entry.Placed place row) needs =
      fresh_at_change (λ v. row_placed v (me_in session.progress) (proposed_in session.progress)) world.tables place fresh.tables
      (λ table table_is old.
      fresh_placed table (me_in session.progress) (proposed_in session.progress)
      (each_at (λ t. Drawn t) world.tables place table steady.tidy.drawn table_is) old)
  fresh_act (entry.Locked place row strength) needs =
      fresh_at_change (λ v. row_locked v (me_in session.progress).xact row strength) world.tables place fresh.tables
      (λ table table_is old. record { fresh = old.fresh; apart = old.apart })
  fresh_act (entry.Inserted place row) needs =
      fresh_at_change (λ v. row_inserted v (me_in session.progress) row) world.tables place fresh.tables
      (λ table table_is old. fresh_inserted table (me_in session.progress) row old)
  fresh_act (entry.Updated place row) needs =
      changed (entry.Updated place row) place row (Some (values_set (statement_at script number session) world.tables session.progress))
      (inl refl) needs
  fresh_act (entry.Deleted place row) needs = changed (entry.Deleted place row) place row None (inr refl) needs
  fresh_act entry.Passed needs = fresh.tables
  fresh_act (entry.Waits on) needs = fresh.tables
  fresh_act entry.Committed needs = end_of session.transaction commit
  fresh_act entry.RolledBack needs = end_of session.transaction rollback
  fresh_act (entry.Replied reply) needs = fresh.tables
  fresh_act (entry.Failed error) needs = end_of session.transaction rollback
  fresh_act entry.Closed needs = end_of session.transaction rollback

-- Every legal world.

-- nothing is placed after setup
pub fresh_first : (script : Script) → IsFresh (first_world script)
fresh_first script = record {
  tables = λ number table is.
      let empty = each_at (λ t. t.placed ≡ []) (first_world script).tables number table
      (each_first (λ t. t.placed ≡ []) refl (λ table values none. none) script) is in
      record {
        fresh = subst (λ ps. Each (λ one. IsFreshIn table.rows one) ps) (sym empty) tt;
        apart = subst (λ ps. AreApart ps) (sym empty) tt;
      };
}

pub fresh_kept : (script : Script) (world : World) (entry : Entry) → IsSteady script world → IsFresh world →
    IsPermitted script world entry → IsFresh (effect script world entry)
fresh_kept script world entry steady fresh move = record {
  tables = rw m.is (fresh_act script world entry.session m.session m.is steady fresh entry.act m.needs);
}
  where
    m : IsMove script world entry.session entry.act
    m = move_of script world entry move

-- rows are guarded, and what is placed is placed under fresh numbers
pub record IsOrderly (script : Script) (world : World) : Type 0 where
  pub steady : IsSteady script world
  pub fresh : IsFresh world

pub orderly_kept : (script : Script) (world : World) (entry : Entry) → IsOrderly script world → IsPermitted script world entry →
    IsOrderly script (effect script world entry)
orderly_kept script world entry orderly move = record {
  steady = steady_kept script world entry orderly.steady move;
  fresh = fresh_kept script world entry orderly.steady orderly.fresh move;
}

pub orderly_first : (script : Script) → IsOrderly script (first_world script)
orderly_first script = record {
  steady = record { stable = stable_first script; tidy = tidy_first script; locking = locking_first script };
  fresh = fresh_first script;
}

pub orderly_after : (script : Script) (journal : List Entry) → IsLegal script journal → IsOrderly script (world_after script journal)
orderly_after script journal legal =
    holds_from script (λ world. IsOrderly script world) (λ world entry orderly move. orderly_kept script world entry orderly move)
    (first_world script) journal (orderly_first script) legal

-- What is placed, and what is held.

pub placed_is_fresh : (world : World) (number : ℕ) (table : TableView) → IsFresh world → slice_get world.tables number ≡ Some table →
    IsPlacedFresh table
placed_is_fresh world number table fresh is = fresh_contained table (fresh.tables number table is)

-- what is placed has no version
pub placed_versions : (table : TableView) (placed : PlacedRow) → IsPlacedFresh table → Contains table.placed placed →
    (row_at table placed.row).versions ≡ []
placed_versions table placed fresh has = rw (fresh.fresh placed has) refl

-- what stands under a number is placed under that
pub placed_each : (P : PlacedRow → Type 0) (placed : List PlacedRow) (row : ℕ) (one : PlacedRow) → Each P placed →
    placed_at placed row ≡ Some one → P one × (one.row ≡ row)
placed_each P [] row one all is = absurd (cc is)
placed_each P (first ∷ placed) row one all is = at (first.row == row) refl is (λ e. placed_each P placed row one all.1 e)
  where
    at : (b : Bool) → (first.row == row) ≡ b → cond b (Some first) (placed_at placed row) ≡ Some one →
        (placed_at placed row ≡ Some one → P one × (one.row ≡ row)) → P one × (one.row ≡ row)
    at true same is rest =
        let e : first ≡ one = cc is in (subst P e all.0, ap (λ p. p.row) (sym e) ∙ eqb-true first.row row same)
    at false other is rest = rest is

-- the same, by its number
pub fresh_under : (world : World) (number row : ℕ) (table : TableView) (one : PlacedRow) → IsFresh world →
    slice_get world.tables number ≡ Some table → placed_at table.placed row ≡ Some one →
    row_of table.rows row ≡ Some (record { number = row; versions = [] })
fresh_under world number row table one fresh is under =
    let h = placed_each (λ p. IsFreshIn table.rows p) table.placed row one (fresh.tables number table is).fresh under in
    subst (λ n. row_of table.rows n ≡ Some (record { number = n; versions = [] })) h.1 h.0

-- nobody holds it
pub placed_unheld : (script : Script) (world : World) (holder number row : ℕ) (table : TableView) (placed : PlacedRow) →
    IsSteady script world → IsFresh world → HoldsRow script world holder number row → slice_get world.tables number ≡ Some table →
    Contains table.placed placed → placed.row ≢ row
placed_unheld script world holder number row table placed steady fresh held is has same =
    let h = held_at script world steady holder number row held in
    let e : Some h.view ≡ Some table = sym h.view_is ∙ is in
    let f : h.view ≡ table = cc e in
    let g : Some h.one ≡ Some (record { number = placed.row; versions = [] }) =
    sym h.one_is ∙ (ap (λ v. row_of v.rows row) f ∙ (ap (λ k. row_of table.rows k) (sym same) ∙ (placed_is_fresh world number table fresh is).fresh placed has)) in
    let one : h.one ≡ record { number = placed.row; versions = [] } = cc g in
    h.some (ap (λ r. r.versions) one)

-- What a session has placed.

-- the row that a session has placed waits for it
pub record IsPlacedFor (world : World) (number table row : ℕ) : Type 0 where
  pub me : Me
  pub values : List Value
  pub waits : Waits world.tables table row me values
  pub owned : beginner_of world.transactions me.xact ≡ Some number

pub placed_for : (script : Script) (world : World) (number table row : ℕ) → IsSteady script world →
    PlacesRow script world number table row → IsPlacedFor world number table row
placed_for script world number table row steady places = record {
  me = places.running.me;
  values = proposed_values places.running;
  waits = subst (λ t. Waits world.tables t row places.running.me (proposed_values places.running)) places.table_is
      (steady.tidy.waits number places.session places.is places.running places.insert row places.inside_is places.statement_is places.stage_is);
  owned = ((steady.stable.each number places.session places.is).reading places.running places.inside_is).owned;
}

-- two sessions have placed different rows
pub places_differ : (script : Script) (world : World) (one other table row : ℕ) → IsSteady script world →
    PlacesRow script world one table row → PlacesRow script world other table row → one ≡ other
places_differ script world one other table row steady places also =
    at (placed_for script world one table row steady places) (placed_for script world other table row steady also)
  where
    at : IsPlacedFor world one table row → IsPlacedFor world other table row → one ≡ other
    at a b =
        let e : Some a.waits.0 ≡ Some b.waits.0 = sym a.waits.1 ∙ b.waits.1 in
        let view : a.waits.0 ≡ b.waits.0 = cc e in
        let p : Some (placed_row row a.me a.values) ≡ Some (placed_row row b.me b.values) =
        sym a.waits.2.placed ∙ (ap (λ v. placed_at v.placed row) view ∙ b.waits.2.placed) in
        let q : placed_row row a.me a.values ≡ placed_row row b.me b.values = cc p in
        let both : Some one ≡ Some other =
        sym a.owned ∙ (ap (λ m. beginner_of world.transactions m.xact) (ap (λ o. o.me) q) ∙ b.owned) in
        cc both

-- and nobody holds one
pub places_unheld : (script : Script) (world : World) (number holder table row : ℕ) → IsSteady script world →
    PlacesRow script world number table row → HoldsRow script world holder table row → ⊥
places_unheld script world number holder table row steady places held =
    at (placed_for script world number table row steady places) (held_at script world steady holder table row held)
  where
    at : IsPlacedFor world number table row → IsHeldAt world holder table row held.running.me.xact → ⊥
    at a h =
        let e : Some h.view ≡ Some a.waits.0 = sym h.view_is ∙ a.waits.1 in
        let view : h.view ≡ a.waits.0 = cc e in
        let g : Some h.one ≡ Some (record { number = row; versions = [] }) =
        sym h.one_is ∙ (ap (λ v. row_of v.rows row) view ∙ a.waits.2.fresh) in
        let one : h.one ≡ record { number = row; versions = [] } = cc g in
        h.some (ap (λ r. r.versions) one)
