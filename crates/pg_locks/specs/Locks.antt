-- The locks on the rows of a table: for each row, in order of number, those on it.
use Rattle.std.specs.Prelude.{ℕ, Bool, true, false, List, [], ◌∷◌, ◌++◌, map, Option, None, Some, is_some, unwrap_or}
use Rattle.pg_lists.specs.Numbered.{nth_item, with_changed_nth_item}
use Rattle.pg_multi.specs.declared.row_lock.RowLock.{RowLock}
use Rattle.pg_multi.specs.declared.strength.Strength.{Strength}
use Rattle.pg_multi.specs.Locks.{lock_joined, locks_left, strongest_of}

-- the locks on the row of that number; none where there is no such row
abbrev pub locks_at : List (List RowLock) → ℕ → List RowLock
locks_at rows row = unwrap_or (nth_item rows row) []

-- whether a transaction holds the row of that number
abbrev pub is_held : List (List RowLock) → ℕ → ℕ → Bool
is_held rows row xact = is_some (strongest_of (locks_at rows row) xact)

-- one row more, on which nobody holds a lock
abbrev pub locks_of_row_added : List (List RowLock) → List (List RowLock)
locks_of_row_added rows = rows ++ [] ∷ []

-- the transaction holds the row at that strength too
abbrev pub locks_held : List (List RowLock) → ℕ → ℕ → Strength → List (List RowLock)
locks_held rows xact row strength =
    with_changed_nth_item (λ locks. lock_joined locks xact strength) rows row

-- the transaction asks for the row at that strength, and holds it, unless it has to wait for another
abbrev pub locks_asked : Option ℕ → List (List RowLock) → ℕ → ℕ → Strength → List (List RowLock)
locks_asked None rows xact row strength = locks_held rows xact row strength
locks_asked (Some other) rows xact row strength = rows

-- all that the transaction holds ends
abbrev pub locks_ended : ℕ → List (List RowLock) → List (List RowLock)
locks_ended xact rows = map (λ locks. locks_left locks xact) rows

-- the locks of a row, without that of the transaction where this is so
abbrev pub locks_left_where : Bool → ℕ → List RowLock → List RowLock
locks_left_where true xact locks = locks_left locks xact
locks_left_where false xact locks = locks
