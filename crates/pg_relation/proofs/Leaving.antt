-- What an entry of a session leaves of the rows that wait for statements of others.
use Rattle.std.proofs.Common.{◌≡◌, ◌⊎◌, ℕ, List, [], Option, Some, slice_get, sym, ap, ◌∙◌, inl, inr}
use Rattle.std.specs.Prelude.{option_map}
use Rattle.std.proofs.lemmas.Option.{slice_get-map}
use Rattle.pg_lists.specs.Numbered.{with_changed_item}
use Rattle.pg_values.specs.declared.value.Value.{Value}
use Rattle.pg_multi.specs.declared.strength.Strength.{Strength}
use Rattle.pg_heap.specs.declared.row.Row.{Row}
use Rattle.pg_heap.specs.Rows.{row_of}
use Rattle.pg_xacts.specs.declared.me.Me.{Me}
use Rattle.pg_xacts.specs.Transactions.{beginner_of}
use Rattle.pg_world.specs.declared.placed.PlacedRow.{PlacedRow}
use Rattle.pg_world.specs.declared.table.TableView.{TableView}
use Rattle.pg_world.specs.Tables.{placed_at, TransactionEnd, row_changed, row_inserted, row_locked, row_placed, table_after_end}
use Rattle.pg_world.specs.Worlds.{World, with_end}
use Rattle.pg_relation.specs.Sound.{IsWaiting}
use Rattle.pg_relation.proofs.Spares.{not_owner}
use Rattle.pg_relation.proofs.Waiting.{table_changed, waiting_changed, waiting_ended, waiting_inserted, waiting_locked, waiting_placed}

-- the row waits in the table of that number
abbrev pub Waits : List TableView → ℕ → ℕ → Me → List Value → Type 0
Waits tables number row me values =
    (table : TableView) × (slice_get tables number ≡ Some table) × IsWaiting table row me values

abbrev pub placed_row : ℕ → Me → List Value → PlacedRow
placed_row row me values = record { row = row; me = me; values = values }

-- what waits for a statement of another session waits on
abbrev pub LeavesWaiting : World → List TableView → ℕ → Type 0
LeavesWaiting world after number = (table row owner : ℕ) (me : Me) (values : List Value) →
    beginner_of world.transactions me.xact ≡ Some owner → (owner ≡ number → ⊥) →
    Waits world.tables table row me values → Waits after table row me values

-- a row that an UPDATE or DELETE changes has a version
abbrev pub HasVersion : List TableView → ℕ → ℕ → Type 0
HasVersion tables number row_number =
    (table : TableView) × (slice_get tables number ≡ Some table)
    × (row : Row) × (row_of table.rows row_number ≡ Some row) × (row.versions ≡ [] → ⊥)

module _ (world : World) (number : ℕ) where
  pub leaves_same : LeavesWaiting world world.tables number
  leaves_same table row owner me values mine apart waits = waits

  pub leaves_placed : (table : ℕ) (by : Me) (others : List Value) →
      LeavesWaiting world (with_changed_item (λ view. row_placed view by others) world.tables table) number
  leaves_placed table by others n row owner me values mine apart waits =
      at (table_changed (λ view. row_placed view by others) world.tables table n waits.0 waits.1)
    where
      at : ((n ≡ table) × (slice_get (with_changed_item (λ view. row_placed view by others) world.tables table) n ≡ Some (row_placed waits.0 by others)))
          ⊎ (slice_get (with_changed_item (λ view. row_placed view by others) world.tables table) n ≡ Some waits.0) →
          Waits (with_changed_item (λ view. row_placed view by others) world.tables table) n row me values
      at (inl h) = (row_placed waits.0 by others, h.1, waiting_placed waits.0 by me others values row waits.2)
      at (inr h) = (waits.0, h, waits.2)

  -- what is stored was another's
  pub leaves_inserted : (table stored : ℕ) (by : Me) (own : List Value) → beginner_of world.transactions by.xact ≡ Some number →
      Waits world.tables table stored by own →
      LeavesWaiting world (with_changed_item (λ view. row_inserted view by stored) world.tables table) number
  leaves_inserted table stored by own mine here n row owner me values theirs apart waits =
      at (table_changed (λ view. row_inserted view by stored) world.tables table n waits.0 waits.1)
    where
      distinct : n ≡ table → row ≡ stored → ⊥
      distinct same equal =
          let t : Some here.0 ≡ Some waits.0 = sym here.1 ∙ (ap (λ k. slice_get world.tables k) (sym same) ∙ waits.1) in
          let view : here.0 ≡ waits.0 = cc t in
          let p : Some (placed_row stored by own) ≡ Some (placed_row row me values) =
          sym here.2.placed ∙ (ap (λ v. placed_at v.placed stored) view ∙ (ap (λ k. placed_at waits.0.placed k) (sym equal) ∙ waits.2.placed)) in
          let q : placed_row stored by own ≡ placed_row row me values = cc p in
          not_owner world by.xact me.xact owner number mine theirs apart (ap (λ one. one.me.xact) q)

      at : ((n ≡ table) × (slice_get (with_changed_item (λ view. row_inserted view by stored) world.tables table) n ≡ Some (row_inserted waits.0 by stored)))
          ⊎ (slice_get (with_changed_item (λ view. row_inserted view by stored) world.tables table) n ≡ Some waits.0) →
          Waits (with_changed_item (λ view. row_inserted view by stored) world.tables table) n row me values
      at (inl h) = (row_inserted waits.0 by stored, h.1, waiting_inserted waits.0 by me values stored row (distinct h.0) waits.2)
      at (inr h) = (waits.0, h, waits.2)

  pub leaves_locked : (table xact stored : ℕ) (strength : Strength) →
      LeavesWaiting world (with_changed_item (λ view. row_locked view xact stored strength) world.tables table) number
  leaves_locked table xact stored strength n row owner me values mine apart waits =
      at (table_changed (λ view. row_locked view xact stored strength) world.tables table n waits.0 waits.1)
    where
      at : ((n ≡ table) × (slice_get (with_changed_item (λ view. row_locked view xact stored strength) world.tables table) n ≡ Some (row_locked waits.0 xact stored strength)))
          ⊎ (slice_get (with_changed_item (λ view. row_locked view xact stored strength) world.tables table) n ≡ Some waits.0) →
          Waits (with_changed_item (λ view. row_locked view xact stored strength) world.tables table) n row me values
      at (inl h) = (row_locked waits.0 xact stored strength, h.1, waiting_locked waits.0 me values xact stored row strength waits.2)
      at (inr h) = (waits.0, h, waits.2)

  -- what is changed has a version, and what waits has none
  pub leaves_changed : (table stored : ℕ) (by : Me) (held : Option (List Value)) → HasVersion world.tables table stored →
      LeavesWaiting world (with_changed_item (λ view. row_changed view by stored held) world.tables table) number
  leaves_changed table stored by held here n row owner me values mine apart waits =
      at (table_changed (λ view. row_changed view by stored held) world.tables table n waits.0 waits.1)
    where
      distinct : n ≡ table → row ≡ stored → ⊥
      distinct same equal =
          let t : Some here.0 ≡ Some waits.0 = sym here.1 ∙ (ap (λ k. slice_get world.tables k) (sym same) ∙ waits.1) in
          let view : here.0 ≡ waits.0 = cc t in
          let r : Some here.2 ≡ Some (record { number = row; versions = [] }) =
          sym here.3 ∙ (ap (λ v. row_of v.rows stored) view ∙ (ap (λ k. row_of waits.0.rows k) (sym equal) ∙ waits.2.fresh)) in
          let one : here.2 ≡ record { number = row; versions = [] } = cc r in
          here.4 (ap (λ o. o.versions) one)

      at : ((n ≡ table) × (slice_get (with_changed_item (λ view. row_changed view by stored held) world.tables table) n ≡ Some (row_changed waits.0 by stored held)))
          ⊎ (slice_get (with_changed_item (λ view. row_changed view by stored held) world.tables table) n ≡ Some waits.0) →
          Waits (with_changed_item (λ view. row_changed view by stored held) world.tables table) n row me values
      at (inl h) = (row_changed waits.0 by stored held, h.1, waiting_changed waits.0 by me values stored row held (distinct h.0) waits.2)
      at (inr h) = (waits.0, h, waits.2)

  pub leaves_end : (xact : ℕ) (end : TransactionEnd) → beginner_of world.transactions xact ≡ Some number →
      LeavesWaiting world (with_end world number xact end).tables number
  leaves_end xact end mine n row owner me values theirs apart waits = (
    table_after_end xact end waits.0,
    slice_get-map (table_after_end xact end) world.tables n ∙ ap (λ o. option_map (table_after_end xact end) o) waits.1,
    waiting_ended waits.0 me values row xact end (λ e. not_owner world xact me.xact owner number mine theirs apart (sym e)) waits.2,
  )
