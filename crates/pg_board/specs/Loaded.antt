-- The tables that setup leaves.
use Rattle.std.specs.Prelude.{ℕ, ◌≡◌, List, length, None, Some}
use Rattle.pg_lists.specs.Numbered.{item_at}
use Rattle.pg_table.specs.States.{IsTable, TableState, staged_at}

-- what setup leaves of a table: it keeps what a table keeps, nothing is staged there, and for each row
-- one version was drawn
pub record IsLoaded (state : TableState) : Type 0 where
  pub table : IsTable state
  pub unstaged : (row : ℕ) → staged_at state row ≡ None
  pub versions : length state.store.versions ≡ state.store.drawn

-- so it leaves each table
abbrev pub AreLoaded : List TableState → Type 0
AreLoaded tables =
    (number : ℕ) (state : TableState) → item_at tables number ≡ Some state → IsLoaded state
