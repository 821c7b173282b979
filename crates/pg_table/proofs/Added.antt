-- A row that is added to a table is added to the part of the world that it shows.
use Rattle.std.proofs.Common.{◌≡◌, ◌+◌, ◌++◌, ℕ, Bool, true, false, cond, List, [], ◌∷◌, Some, None, length, not, option_and_then, refl, ap, ap₂, ◌∙◌, arith, append-nil, eq-eqb}
use Rattle.std.specs.Prelude.{◌==◌}
use Rattle.std.proofs.lemmas.List.Elements.{filter-append}
use Rattle.std.proofs.lemmas.Option.{slice_get_past}
use Rattle.pg_values.specs.declared.value.Value.{Value}
use Rattle.pg_xacts.specs.declared.me.Me.{Me}
use Rattle.pg_heap.specs.Rows.{row_drawn, row_stored}
use Rattle.pg_locks.specs.Locks.{locks_of_row_added}
use Rattle.pg_rows.proofs.Rows.{length_rows}
use Rattle.pg_world.specs.declared.placed.PlacedRow.{PlacedRow}
use Rattle.pg_world.specs.Tables.{next_row, placed_at, placed_beside, placed_stored, row_added, row_inserted, row_placed, version_by}
use Rattle.pg_table.specs.States.{IsPlacedBy, IsTable, TableState, placed_under, row_added_in, row_inserted_in, row_placed_in, table_shown}
use Rattle.pg_table.proofs.Kept.{table_placed}
use Rattle.pg_table.proofs.Placed.{placed_none}
use Rattle.pg_table.proofs.Shown.{inserted_shown, placed_lookup, placed_shown, view_of}

-- what is placed behind others of which none has its number
placed_last : (placed : List PlacedRow) (one : PlacedRow) → placed_at placed one.row ≡ None → placed_at (placed ++ one ∷ []) one.row ≡ Some one
placed_last [] one none = rw (eq-eqb one.row one.row refl) refl
placed_last (x ∷ xs) one none = at (λ e. placed_last xs one e) (x.row == one.row) none
  where
    at : (placed_at xs one.row ≡ None → placed_at (xs ++ one ∷ []) one.row ≡ Some one) → (b : Bool) → cond b (Some x) (placed_at xs one.row) ≡ None → cond b (Some x) (placed_at (xs ++ one ∷ []) one.row) ≡ Some one
    at behind true none = absurd (cc none)
    at behind false none = behind none

beside_last : (placed : List PlacedRow) (one : PlacedRow) → placed_at placed one.row ≡ None → placed_beside (placed ++ one ∷ []) one.row ≡ placed
beside_last placed one none =
    filter-append (λ x. not (x.row == one.row)) placed (one ∷ [])
    ∙ (ap₂ (λ xs ys. xs ++ ys) (placed_none placed one.row none) (out (one.row == one.row) (eq-eqb one.row one.row refl)) ∙ append-nil placed)
  where
    out : (b : Bool) → b ≡ true → cond (not b) (one ∷ []) [] ≡ []
    out true is = refl
    out false is = absurd (cc is)

-- a row is added
module _ (state : TableState) (me : Me) (values : List Value) (table : IsTable state) where
  abbrev one : PlacedRow
  one = record { row = next_row (table_shown state); me = me; values = values }

  row_next : state.store.drawn + 1 ≡ next_row (table_shown state)
  row_next = let l = length_rows 1 state.store.drawn state.store.versions in omega (arith, l)

  free : placed_at (table_shown state).placed one.row ≡ None
  free =
      ap (placed_at (table_shown state).placed) (row_at (length state.placings) (let c = table.count in let l = length_rows 1 state.store.drawn state.store.versions in omega (arith, c, l)))
      ∙ (placed_lookup 1 state.placings state.store.versions (length state.placings)
      ∙ ap (λ o. option_and_then (placed_under state.store.versions (1 + length state.placings)) o) (slice_get_past state.placings (length state.placings) (omega arith)))
    where
      row_at : (n : ℕ) → next_row (table_shown state) ≡ 1 + n → one.row ≡ 1 + n
      row_at n is = is

  there : placed_at (row_placed (table_shown state) me values).placed one.row ≡ Some one
  there = placed_last (table_shown state).placed one free

  own : IsPlacedBy (row_placed_in state me values) me one.row
  own found is =
      let shown = ap (λ t. placed_at t.placed one.row) (placed_shown state me values table) in
      let same : found ≡ one = cc (is, shown, there) in ap (λ x. x.me) same

  pub added_shown : table_shown (row_added_in state me values) ≡ row_added (table_shown state) me values
  added_shown =
      ap (λ row. table_shown (row_inserted_in (row_placed_in state me values) row)) row_next
      ∙ (inserted_shown (row_placed_in state me values) me (table_placed state me values table) one.row own
      ∙ (ap (λ t. row_inserted t me one.row) (placed_shown state me values table)
      ∙ (ap (placed_stored (row_placed (table_shown state) me values) me one.row) there
      ∙ ap (λ placed. view_of (row_stored (row_drawn (table_shown state).rows) one.row (version_by me values)) placed (locks_of_row_added state.locks))
      (beside_last (table_shown state).placed one free))))
