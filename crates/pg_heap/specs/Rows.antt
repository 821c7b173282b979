-- The rows of a table, and what an entry does to them. All that is not named stays as it was.
use Rattle.std.specs.Prelude.{ℕ, ◌≡◌, ◌+◌, ◌++◌, ◌&&◌, Bool, not, nat_eq, List, [], ◌∷◌, filter, length, map, Option, None, Some}
use Rattle.std.specs.List.{last_or}
use Rattle.pg_values.specs.declared.value.Value.{Value}
use Rattle.pg_heap.specs.declared.row.Row.{Row}
use Rattle.pg_heap.specs.declared.version.Version.{Version}
use Rattle.pg_lists.specs.Numbered.{with_changed_nth_item, nth_item}

-- the row of that number, if that number was drawn
abbrev pub row_of : List Row → ℕ → Option Row
row_of rows number = nth_item rows number

-- each row stands at the place of its number, from 1: so there is a row for each number drawn
abbrev pub AreNumbered : List Row → Type 0
AreNumbered rows = (number : ℕ) (row : Row) → row_of rows number ≡ Some row → row.number ≡ number

-- the last of a list of versions
abbrev pub last_version : List Version → Option Version
last_version versions = last_or None versions

-- the values of a version, where there is one and it does not say that the row is gone
abbrev pub values_of : Option Version → Option (List Value)
values_of (Some version) = version.values
values_of None = None

-- whether a version was written by that transaction
abbrev pub is_written_by : ℕ → Version → Bool
is_written_by xact version = nat_eq version.writer xact

-- the version of a row that a command of a transaction wrote, by which it is named: there is at
-- most one
abbrev pub version_by : ℕ → ℕ → Row → Option Version
version_by xact command row =
    last_version
    (filter (λ version. is_written_by xact version && nat_eq version.command command) row.versions)

-- the next row number is drawn: that row has no version yet
abbrev pub row_drawn : List Row → List Row
row_drawn rows = rows ++ record { number = length rows + 1; versions = [] } ∷ []

-- the row with one version more, which is then its newest
abbrev pub with_version : Version → Row → Row
with_version version row = record row { versions = row.versions ++ version ∷ [] }

-- the row of that number has one version more, which is then its newest
abbrev pub row_stored : List Row → ℕ → Version → List Row
row_stored rows number version = with_changed_nth_item (with_version version) rows number

-- the row without the versions of a transaction
abbrev pub row_without : ℕ → Row → Row
row_without xact row =
    record row { versions = filter (λ version. not (is_written_by xact version)) row.versions }

-- the rows without the versions of a transaction, as its rollback leaves them
abbrev pub rows_without : ℕ → List Row → List Row
rows_without xact rows = map (row_without xact) rows
