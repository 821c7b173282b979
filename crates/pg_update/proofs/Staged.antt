-- New values of a row that is locked are staged in its table.
use Rattle.std.proofs.Common.{◌≡◌, ◌⊎◌, inl, inr, ◌<◌, ◌≤◌, ℕ, zero, suc, List, [], ◌∷◌, Option, Some, None, map, option_and_then, slice_get, slice_set, refl, ap, sym, ◌∙◌, arith}
use Rattle.std.specs.Option.{option_map_or}
use Rattle.std.proofs.lemmas.Bool.{cases_lt}
use Rattle.pg_lists.specs.Numbered.{item_at, with_changed_item, with_item}
use Rattle.pg_values.specs.declared.value.Value.{Value}
use Rattle.pg_xacts.specs.declared.me.Me.{Me}
use Rattle.pg_xacts.specs.Transactions.{Transactions}
use Rattle.pg_heap.specs.Current.{newest}
use Rattle.pg_heap.specs.declared.version.Version.{Version}
use Rattle.pg_model.specs.declared.statement.Change.{Change}
use Rattle.pg_world.specs.Changes.{row_at, table_at}
use Rattle.pg_world.specs.declared.session.Running.{Running}
use Rattle.pg_world.specs.declared.session.VersionName.{VersionName}
use Rattle.pg_table.specs.States.{IsTable, TableState, row_staged_in, staged_at, table_shown}
use Rattle.pg_table.proofs.Changed.{staged_shown, staged_there}
use Rattle.pg_update.specs.Steps.{CanChange, HoldsItsRow, IsUndrafted, staged_in, target_in}
use Rattle.pg_update.proofs.Rows.{first_row, no_row, no_table, undrawn}

-- a row that has a version was drawn
module _ (tables : List TableState) (number row : ℕ) (version : Version)
    (there : newest (row_at (table_at (map table_shown tables) number) row) ≡ Some version) where
  not_undrawn : row_at (table_at (map table_shown tables) number) row ≡ undrawn row → ⊥
  not_undrawn is = let e : None ≡ Some version = sym (ap newest is) ∙ there in cc e

  drawn_first : (n : ℕ) → row ≡ n → 0 < row
  drawn_first zero is = absurd (not_undrawn (first_row tables number row is))
  drawn_first (suc before) is = rw is (omega arith)

  drawn_within : (state : TableState) → item_at tables number ≡ Some state → row ≤ state.store.drawn
  drawn_within state is = at (cases_lt state.store.drawn row)
    where
      at : (state.store.drawn < row) ⊎ (row ≤ state.store.drawn) → row ≤ state.store.drawn
      at (inl past) = absurd (not_undrawn (no_row tables number row state is past))
      at (inr within) = within

  pub table_there : (state : TableState) × (item_at tables number ≡ Some state)
  table_there = at (item_at tables number) refl
    where
      at : (found : Option TableState) → item_at tables number ≡ found → (state : TableState) × (item_at tables number ≡ Some state)
      at None is = absurd (not_undrawn (no_table tables number row is))
      at (Some state) is = (state, is)

  pub drawn_there : (state : TableState) → item_at tables number ≡ Some state → (0 < row) × (row ≤ state.store.drawn)
  drawn_there state is = (drawn_first row refl, drawn_within state is)

-- the row that is locked can get a version
pub can_change : (change : Change) (tables : List TableState) (transactions : Transactions) (running : Running) (name : VersionName) →
    HoldsItsRow change tables transactions running name → IsUndrafted change tables running → CanChange tables change.target.table (target_in running)
can_change change tables transactions running name holds free state is =
    let d = drawn_there tables change.target.table (target_in running) holds.version holds.newest_is state is in
    (d.0, d.1, free state is)

-- the tables show the same
shown_same : (tables : List TableState) (number : ℕ) (state later : TableState) → slice_get tables number ≡ Some state → table_shown later ≡ table_shown state →
    map table_shown (slice_set tables number later) ≡ map table_shown tables
shown_same [] number state later is same = refl
shown_same (first ∷ tables) zero state later is same =
    let e : first ≡ state = cc is in
    ap (λ t. t ∷ map table_shown tables) (same ∙ ap table_shown (sym e))
shown_same (first ∷ tables) (suc number) state later is same = ap (λ ts. table_shown first ∷ ts) (shown_same tables number state later is same)

get_set : (tables : List TableState) (number : ℕ) (state later : TableState) → slice_get tables number ≡ Some state →
    slice_get (slice_set tables number later) number ≡ Some later
get_set [] number state later is = absurd (cc is)
get_set (first ∷ tables) zero state later is = refl
get_set (first ∷ tables) (suc number) state later is = get_set tables number state later is

module _ (tables : List TableState) (number row : ℕ) (me : Me) (values : List Value) (can : CanChange tables number row)
    (kept : (state : TableState) → item_at tables number ≡ Some state → IsTable state) where
  abbrev staged_one : TableState → TableState
  staged_one state = row_staged_in state me row values

  abbrev changed_by : Option TableState → List TableState
  changed_by found = option_map_or (λ state. with_item tables number (staged_one state)) found tables

  pub staging_shown : map table_shown (with_changed_item (λ state. row_staged_in state me row values) tables number) ≡ map table_shown tables
  staging_shown = at (item_at tables number) refl
    where
      at : (found : Option TableState) → item_at tables number ≡ found → map table_shown (changed_by found) ≡ map table_shown tables
      at None is = refl
      at (Some state) is =
          shown_same tables number state (staged_one state) is (staged_shown state me row values (kept state is) (can state is).2)

  pub staging_staged : (state : TableState) → item_at tables number ≡ Some state →
      staged_in (with_changed_item (λ state. row_staged_in state me row values) tables number) number row
      ≡ Some (record { row = row; me = me; values = values })
  staging_staged state is =
      ap (λ changed. staged_in changed number row) (ap changed_by is)
      ∙ ap (λ o. option_and_then (λ one. staged_at one row) o) (get_set tables number state (staged_one state) is)
      ∙ staged_there state me row values (kept state is) ((can state is).0, (can state is).1)
