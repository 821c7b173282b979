-- What is noted for each transaction: the rows that it has locked.
use Rattle.std.specs.Prelude.{ℕ, ◌≡◌, true, nat_eq, List, [], unwrap_or}
use Rattle.std.specs.List.{list_any}
use Rattle.std.specs.Map.{lookup}
use Rattle.pg_multi.specs.declared.row_lock.RowLock.{RowLock}
use Rattle.pg_locks.specs.Locks.{is_held}

-- the rows that are noted for a transaction
abbrev pub rows_noted : List (ℕ × List ℕ) → ℕ → List ℕ
rows_noted notes xact = unwrap_or (lookup (nat_eq xact) notes) []

-- a row is noted for a transaction
abbrev pub IsNoted : List (ℕ × List ℕ) → ℕ → ℕ → Type 0
IsNoted notes xact row = list_any (nat_eq row) (rows_noted notes xact) ≡ true

-- what was noted is still noted
abbrev pub KeepsNotes : List (ℕ × List ℕ) → List (ℕ × List ℕ) → Type 0
KeepsNotes before after = (xact row : ℕ) → IsNoted before xact row → IsNoted after xact row

-- each row that a transaction holds is noted for it
abbrev pub AreNoted : List (List RowLock) → List (ℕ × List ℕ) → Type 0
AreNoted rows notes = (row xact : ℕ) → is_held rows row xact ≡ true → IsNoted notes xact row
