-- What is placed last in a table, where nothing was placed under its number.
use Rattle.std.proofs.Common.{◌≡◌, ◌==◌, ◌++◌, ℕ, Bool, true, false, not, cond, List, [], ◌∷◌, Some, None, refl, ap, eq-eqb}
use Rattle.pg_values.specs.declared.value.Value.{Value}
use Rattle.pg_xacts.specs.declared.me.Me.{Me}
use Rattle.pg_world.specs.declared.placed.PlacedRow.{PlacedRow}
use Rattle.pg_world.specs.declared.table.TableView.{TableView}
use Rattle.pg_world.specs.Tables.{next_row, placed_at, placed_beside, row_added, row_inserted, row_placed}

-- it is found under its number
found_last : (placed : List PlacedRow) (last : PlacedRow) (row : ℕ) → last.row ≡ row →
    placed_at placed row ≡ None → placed_at (placed ++ last ∷ []) row ≡ Some last
found_last [] last row is none = rw (is, eq-eqb row row refl) refl
found_last (first ∷ others) last row is none =
    at (first.row == row) (found_last others last row is) none
  where
    at : (b : Bool) → (placed_at others row ≡ None → placed_at (others ++ last ∷ []) row ≡ Some last) →
        cond b (Some first) (placed_at others row) ≡ None →
        cond b (Some first) (placed_at (others ++ last ∷ []) row) ≡ Some last
    at true behind none = absurd (cc none)
    at false behind none = behind none

-- and all else stands beside it
beside_last : (placed : List PlacedRow) (last : PlacedRow) (row : ℕ) → last.row ≡ row →
    placed_at placed row ≡ None → placed_beside (placed ++ last ∷ []) row ≡ placed
beside_last [] last row is none = rw (is, eq-eqb row row refl) refl
beside_last (first ∷ others) last row is none =
    at (first.row == row) (beside_last others last row is) none
  where
    at : (b : Bool) → (placed_at others row ≡ None → placed_beside (others ++ last ∷ []) row ≡ others) →
        cond b (Some first) (placed_at others row) ≡ None →
        cond (not b) (first ∷ placed_beside (others ++ last ∷ []) row) (placed_beside (others ++ last ∷ []) row)
        ≡ first ∷ others
    at true behind none = absurd (cc none)
    at false behind none = ap (λ xs. first ∷ xs) (behind none)

-- so a row that is placed and inserted is a row added
pub row_added_by_parts : (table : TableView) (me : Me) (values : List Value) →
    placed_at table.placed (next_row table) ≡ None →
    row_inserted (row_placed table me values) me (next_row table) ≡ row_added table me values
row_added_by_parts table me values none =
    let last : PlacedRow = record { row = next_row table; me = me; values = values } in
    rw (found_last table.placed last (next_row table) refl none, beside_last table.placed last (next_row table) refl none) refl
