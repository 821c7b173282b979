-- What is placed under a row number.
use Rattle.std.proofs.Common.{◌≡◌, ℕ, Bool, true, false, cond, List, [], ◌∷◌, Some, None, not, refl, ap}
use Rattle.std.specs.Prelude.{◌==◌}
use Rattle.pg_world.specs.declared.placed.PlacedRow.{PlacedRow}
use Rattle.pg_world.specs.Tables.{placed_at, placed_beside}

-- where nothing is found, all is placed under other numbers
pub placed_none : (xs : List PlacedRow) (row : ℕ) → placed_at xs row ≡ None →
    placed_beside xs row ≡ xs
placed_none [] row is = refl
placed_none (y ∷ ys) row is = at (y.row == row) (placed_none ys row) is
  where
    at : (b : Bool) → (placed_at ys row ≡ None → placed_beside ys row ≡ ys) →
        cond b (Some y) (placed_at ys row) ≡ None →
        cond (not b) (y ∷ placed_beside ys row) (placed_beside ys row) ≡ y ∷ ys
    at true more is = absurd (cc is)
    at false more is = ap (λ zs. y ∷ zs) (more is)
