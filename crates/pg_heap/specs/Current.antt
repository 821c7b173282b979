-- The newest and the current version of a row, and what is left of it once transactions have ended.
use Rattle.std.specs.Prelude.{ℕ, ◌||◌, Bool, not, nat_eq, List, filter, filter_map, Option}
use Rattle.std.specs.List.{list_any}
use Rattle.pg_values.specs.declared.value.Value.{Value}
use Rattle.pg_xacts.specs.Transactions.{Transactions, is_committed, is_running_beside}
use Rattle.pg_heap.specs.declared.version.Version.{Version}
use Rattle.pg_heap.specs.declared.row.Row.{Row}
use Rattle.pg_heap.specs.Rows.{last_version, values_of}

-- the newest version of a row: the last
abbrev pub newest : Row → Option Version
newest row = last_version row.versions

-- the current version of a row for a transaction: the last that no other running transaction wrote
abbrev pub current : Transactions → ℕ → Row → Option Version
current transactions xact row =
    last_version
    (filter (λ version. not (is_running_beside transactions xact version.writer)) row.versions)

-- the values of the current version: none where the row is gone, also where no version is left
abbrev pub current_values : Transactions → ℕ → Row → Option (List Value)
current_values transactions xact row = values_of (current transactions xact row)

-- the versions of a row that stand for a transaction: those whose keys its claims have to mind
pub record Standing : Type 0 where
  pub newest : Option Version
  pub current : Option Version

-- the newest and the current version of a row
abbrev pub standing : Transactions → ℕ → Row → Standing
standing transactions xact row =
    record { newest = newest row; current = current transactions xact row }

-- whether the writer of a version has committed, or is one of the given transactions
abbrev pub is_live : Transactions → List ℕ → Version → Bool
is_live transactions ending version =
    is_committed transactions version.writer || list_any (nat_eq version.writer) ending

-- the live version of a row, if the given transactions all committed: the last that is live
abbrev pub live : Transactions → List ℕ → Row → Option Version
live transactions ending row = last_version (filter (is_live transactions ending) row.versions)

-- the values of the live version: none where the row is gone
abbrev pub live_values : Transactions → List ℕ → Row → Option (List Value)
live_values transactions ending row = values_of (live transactions ending row)

-- the values of the rows that are live, in order of row number
abbrev pub live_rows : Transactions → List ℕ → List Row → List (List Value)
live_rows transactions ending rows = filter_map (live_values transactions ending) rows
