-- The tables of a server, as the part of the world that they are.
use Rattle.std.specs.Prelude.{ℕ, ◌≡◌, List, map, Some}
use Rattle.pg_lists.specs.Numbered.{item_at}
use Rattle.pg_xacts.specs.declared.me.Me.{Me}
use Rattle.pg_world.specs.declared.placed.PlacedRow.{PlacedRow}
use Rattle.pg_world.specs.declared.table.TableView.{TableView}
use Rattle.pg_world.specs.Tables.{placed_at}
use Rattle.pg_table.specs.States.{TableState, table_shown}

-- the tables, as each is seen
abbrev pub tables_shown : List TableState → List TableView
tables_shown tables = map table_shown tables

-- what waits in the table of that number under a row number, if anything does, was placed by that
-- command
abbrev pub IsPlacedIn : List TableView → ℕ → Me → ℕ → Type 0
IsPlacedIn tables number me row =
    (table : TableView) (placed : PlacedRow) → item_at tables number ≡ Some table →
    placed_at table.placed row ≡ Some placed → placed.me ≡ me
