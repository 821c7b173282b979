-- A table of the world, and what an entry does to it. All that is not named stays as it was.
use Rattle.std.specs.Prelude.{ℕ, ◌+◌, ◌==◌, not, if◌then◌else◌, List, [], ◌∷◌, ◌++◌, filter, length, map, Option, None, Some, unwrap_or}
use Rattle.pg_lists.specs.Numbered.{nth_item, with_changed_nth_item}
use Rattle.pg_multi.specs.declared.row_lock.RowLock.{RowLock}
use Rattle.pg_multi.specs.declared.strength.Strength.{Strength}
use Rattle.pg_multi.specs.Locks.{lock_joined, locks_left}
use Rattle.pg_values.specs.declared.value.Value.{Value}
use Rattle.pg_xacts.specs.declared.me.Me.{Me}
use Rattle.pg_heap.specs.declared.version.Version.{Version}
use Rattle.pg_world.specs.declared.placed.PlacedRow.{PlacedRow}
use Rattle.pg_world.specs.declared.table.TableView.{TableView}
use Rattle.pg_heap.specs.declared.row.Row.{Row}
use Rattle.pg_heap.specs.Rows.{row_drawn, row_stored, rows_without}

-- how a transaction ends
pub data TransactionEnd : Type 0 where
  commit : TransactionEnd
  rollback : TransactionEnd

-- a table of which no row number was drawn
abbrev pub empty_table : TableView
empty_table = record { rows = []; placed = []; locks = [] }

-- the row number that the table draws next
abbrev pub next_row : TableView → ℕ
next_row table = length table.rows + 1

-- what is placed under that row number
abbrev pub placed_at : List PlacedRow → ℕ → Option PlacedRow
placed_at [] row = None
placed_at (placed ∷ others) row = if placed.row == row then Some placed else placed_at others row

-- what is placed under other row numbers
abbrev pub placed_beside : List PlacedRow → ℕ → List PlacedRow
placed_beside placed row = filter (λ one. not (one.row == row)) placed

-- what other transactions have placed
abbrev pub placed_by_others : List PlacedRow → ℕ → List PlacedRow
placed_by_others placed xact = filter (λ one. not (one.me.xact == xact)) placed

-- the version that a command writes
abbrev pub version_by : Me → List Value → Version
version_by me values = record { values = Some values; writer = me.xact; command = me.command }

-- the locks on the row of that number
abbrev pub locks_on : TableView → ℕ → List RowLock
locks_on table row = unwrap_or (nth_item table.locks row) []

-- the table draws a number for a proposed row, whose values wait there to be stored; nobody holds a
-- lock on it
abbrev pub row_placed : TableView → Me → List Value → TableView
row_placed table me values =
    record table {
      rows = row_drawn table.rows;
      placed = table.placed ++ record { row = next_row table; me = me; values = values } ∷ [];
      locks = table.locks ++ [] ∷ [];
    }

-- what is placed becomes the row's first version, by the command that stores it
abbrev pub placed_stored : TableView → Me → ℕ → Option PlacedRow → TableView
placed_stored table me row None = table
placed_stored table me row (Some placed) =
    record table {
      rows = row_stored table.rows row (version_by me placed.values);
      placed = placed_beside table.placed row;
    }

-- the row that is placed under that number is stored, where one is
abbrev pub row_inserted : TableView → Me → ℕ → TableView
row_inserted table me row = placed_stored table me row (placed_at table.placed row)

-- a row is drawn and stored at once
abbrev pub row_added : TableView → Me → List Value → TableView
row_added table me values =
    record table {
      rows = row_stored (row_drawn table.rows) (next_row table) (version_by me values);
      locks = table.locks ++ [] ∷ [];
    }

-- the transaction holds the row at that strength too
abbrev pub row_locked : TableView → ℕ → ℕ → Strength → TableView
row_locked table xact row strength =
    record table {
      locks =
          with_changed_nth_item (λ locks. lock_joined locks xact strength) table.locks row;
    }

-- the row gets a newest version: with new values, or without any, which says that it is gone
abbrev pub row_changed : TableView → Me → ℕ → Option (List Value) → TableView
row_changed table me row values =
    record table {
      rows =
          row_stored table.rows row
          (record { values = values; writer = me.xact; command = me.command });
    }

-- the rows behind the end of a transaction: a rollback takes its versions away
abbrev pub rows_after_end : ℕ → TransactionEnd → List Row → List Row
rows_after_end xact commit rows = rows
rows_after_end xact rollback rows = rows_without xact rows

-- a transaction ends: what it has placed there is given up, its locks end, and a rollback takes its
-- versions away
abbrev pub table_after_end : ℕ → TransactionEnd → TableView → TableView
table_after_end xact end table =
    record {
      rows = rows_after_end xact end table.rows;
      placed = placed_by_others table.placed xact;
      locks = map (λ locks. locks_left locks xact) table.locks;
    }
