-- The version of a row that a statement sees, and the rows that are visible to it.
use Rattle.std.specs.Prelude.{ℕ, ◌≡◌, ◌&&◌, ◌||◌, Bool, true, nat_lt, List, filter, Option, is_some}
use Rattle.pg_values.specs.declared.value.Value.{Value}
use Rattle.pg_xacts.specs.declared.me.Me.{Me}
use Rattle.pg_xacts.specs.Transactions.{Transactions, is_among_commits}
use Rattle.pg_heap.specs.declared.version.Version.{Version}
use Rattle.pg_heap.specs.declared.row.Row.{Row}
use Rattle.pg_heap.specs.Rows.{is_written_by, last_version, values_of}

-- whether an earlier command of the transaction wrote the version
abbrev pub is_own_earlier : Me → Version → Bool
is_own_earlier me version = is_written_by me.xact version && nat_lt version.command me.command

-- whether a statement sees the version: its writer is among the commits that the snapshot sees, so
-- many, or an earlier command of the statement's own transaction wrote it
abbrev pub is_seen : Transactions → ℕ → Me → Version → Bool
is_seen transactions commits me version =
    is_among_commits transactions commits version.writer || is_own_earlier me version

-- the version of a row that a statement sees: the last of them
abbrev pub seen : Transactions → ℕ → Me → Row → Option Version
seen transactions commits me row =
    last_version (filter (is_seen transactions commits me) row.versions)

-- the values of a row that a statement sees: none where it sees no version, or one that says that
-- the row is gone
abbrev pub seen_values : Transactions → ℕ → Me → Row → Option (List Value)
seen_values transactions commits me row = values_of (seen transactions commits me row)

-- whether a statement sees that the row is there
abbrev pub is_visible : Transactions → ℕ → Me → Row → Bool
is_visible transactions commits me row = is_some (seen_values transactions commits me row)

-- a statement sees that the row is there
abbrev pub IsVisible : Transactions → ℕ → Me → Row → Type 0
IsVisible transactions commits me row = is_visible transactions commits me row ≡ true

-- the rows that a statement sees, in order of row number
abbrev pub visible_rows : Transactions → ℕ → Me → List Row → List Row
visible_rows transactions commits me rows = filter (is_visible transactions commits me) rows
