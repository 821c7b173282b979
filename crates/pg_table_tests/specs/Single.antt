-- Tables into which rows are only inserted.
use Rattle.std.specs.Prelude.{ℕ, ◌≡◌, List, Some, option_map}
use Rattle.pg_lists.specs.Numbered.{item_at, nth_item}
use Rattle.pg_rows.specs.Stores.{Stored, stored_of}
use Rattle.pg_table.specs.States.{TableState}

-- no version was drawn for a row but the one that its placing names
abbrev pub AreSingle : TableState → Type 0
AreSingle state =
    (number : ℕ) (stored : Stored) → stored_of state.store.versions number ≡ Some stored →
    option_map (λ placing. placing.version) (nth_item state.placings stored.row) ≡ Some number

-- and so in each table of a set
abbrev pub AllAreSingle : List TableState → Type 0
AllAreSingle tables =
    (number : ℕ) (state : TableState) → item_at tables number ≡ Some state → AreSingle state
