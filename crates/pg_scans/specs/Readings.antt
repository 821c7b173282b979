-- A statement that still reads its tables, piece by piece: how far it has come, and that what it
-- has collected is what it sees.
use Rattle.std.specs.Prelude.{ℕ, ◌≡◌, ◌+◌, ◌-◌, ◌*◌, ◌<◌, ◌≤◌, ◌++◌, All, Bool, nat_le, List, [], ◌∷◌, drop, length, map, take, Option, Some}
use Rattle.std.specs.Option.{option_map_or}
use Rattle.pg_lists.specs.Numbered.{item_at}
use Rattle.pg_xacts.specs.declared.me.Me.{Me}
use Rattle.pg_xacts.specs.Snapshots.{SnapshotView, WasTakenOf}
use Rattle.pg_xacts.specs.Transactions.{Transactions}
use Rattle.pg_heap.specs.Pieces.{piece_from}
use Rattle.pg_rows.specs.Scans.{seen_below, seen_in_piece}
use Rattle.pg_rows.specs.Stores.{Stored}
use Rattle.pg_rows.specs.declared.scan.SeenVersion.{SeenVersion}
use Rattle.pg_world.specs.Candidates.{seen_of_table}
use Rattle.pg_world.specs.declared.candidate.SeenRow.{SeenRow}
use Rattle.pg_table.specs.Scanned.{in_row_order, seen_row_of}
use Rattle.pg_table.specs.States.{IsTable, TableState, table_shown}

-- who reads, by which snapshot, and which tables, in the order written; what was seen of the tables
-- gone through; and of the present table the rows collected so far, in order of version number, and
-- the version number from which it goes on
pub record ReadingView : Type 0 where
  pub me : Me
  pub snapshot : SnapshotView
  pub tables : List ℕ
  pub seen : List (List SeenRow)
  pub part : List SeenRow
  pub from : ℕ

-- nothing was read yet
abbrev pub new_reading : Me → SnapshotView → List ℕ → ReadingView
new_reading me snapshot tables =
    record { me = me; snapshot = snapshot; tables = tables; seen = []; part = []; from = 1 }

-- all tables were gone through
abbrev pub is_all_read : ReadingView → Bool
is_all_read reading = nat_le (length reading.tables) (length reading.seen)

-- the tables that are left, the present one first
abbrev pub tables_left : ReadingView → List ℕ
tables_left reading = drop (length reading.seen) reading.tables

-- the versions of the table of that number, by number; none where there is no such table
abbrev pub versions_in : List TableState → ℕ → List Stored
versions_in tables number =
    option_map_or (λ state. state.store.versions) (item_at tables number) []

-- the versions of the present table; none where all tables were gone through
abbrev pub present_versions : List TableState → ReadingView → List Stored
present_versions tables reading =
    option_map_or (versions_in tables) (item_at reading.tables (length reading.seen)) []

-- what the reader sees of the table of that number
abbrev pub seen_in : List TableState → Transactions → ReadingView → ℕ → List SeenRow
seen_in tables transactions reading table =
    seen_of_table (map table_shown tables) transactions reading.snapshot.commits reading.me table

-- The snapshot was taken of these transactions; what was seen of the tables gone through is what
-- the reader sees of them; and of the present table what it sees below the number from which it
-- goes on.
pub record IsReading (tables : List TableState) (transactions : Transactions)
    (reading : ReadingView) : Type 0 where
  pub taken : WasTakenOf transactions reading.snapshot
  pub count : length reading.seen ≤ length reading.tables
  pub seen : reading.seen
      ≡ map (seen_in tables transactions reading) (take (length reading.seen) reading.tables)
  pub part : reading.part
      ≡ map seen_row_of
      (seen_below transactions reading.snapshot.commits reading.me (present_versions tables reading)
      reading.from)
  pub first : 0 < reading.from
  pub within : reading.from ≤ length (present_versions tables reading) + 1

-- How many pieces are left at most.

-- no table has more than so many versions
abbrev pub HaveVersions : ℕ → List TableState → Type 0
HaveVersions most tables =
    (number : ℕ) (state : TableState) → item_at tables number ≡ Some state →
    length state.store.versions ≤ most

-- where no table has more than so many versions: for each table left one, and one for each of so
-- many version numbers, less those that were gone over; each piece goes over one at least, or ends
-- its table
abbrev pub pieces_left : ℕ → ReadingView → ℕ
pieces_left most reading = length (tables_left reading) * (1 + most) - (reading.from - 1)

-- What a piece makes of a reading.

-- what the reader sees in the piece of the present table that comes next
abbrev pub found_in : Transactions → TableState → ReadingView → List SeenVersion
found_in transactions state reading =
    seen_in_piece transactions reading.snapshot.commits reading.me state.store.versions reading.from

-- the version number behind that piece, if any is left
abbrev pub next_in : TableState → ReadingView → Option ℕ
next_in state reading = (piece_from (length state.store.versions) reading.from).next

-- the rows collected, with those that were found
abbrev pub rows_with : ReadingView → List SeenVersion → List SeenRow
rows_with reading found = reading.part ++ map seen_row_of found

-- what was found is collected, and the next piece begins with that version number
abbrev pub reading_gone_on : ReadingView → List SeenVersion → ℕ → ReadingView
reading_gone_on reading found next =
    record reading { part = rows_with reading found; from = next }

-- the present table, of which so many row numbers were drawn, is gone through, and the next begins
abbrev pub table_gone_through : ℕ → ReadingView → List SeenVersion → ReadingView
table_gone_through drawn reading found =
    record reading {
      seen = reading.seen ++ in_row_order drawn (rows_with reading found) ∷ [];
      part = [];
      from = 1;
    }

-- each row has one of the row numbers that were drawn, so many
abbrev pub AreDrawn : ℕ → List SeenRow → Type 0
AreDrawn drawn rows = All (λ seen. (0 < seen.row) × (seen.row ≤ drawn)) rows

-- each table keeps what a table keeps
abbrev pub AreTables : List TableState → Type 0
AreTables tables =
    (number : ℕ) (state : TableState) → item_at tables number ≡ Some state → IsTable state
