-- The locks of one row: who holds it at which strength, ascending by transaction, one of each.
use Rattle.std.specs.Prelude.{ℕ, ◌≡◌, ◌≢◌, ◌+◌, ◌≤◌, ◌&&◌, Bool, true, false, not, nat_eq, nat_lt, List, [], ◌∷◌, ◌++◌, filter, find, Option, None, Some, option_map}
use Rattle.pg_multi.specs.declared.row_lock.RowLock.{RowLock}
use Rattle.pg_multi.specs.declared.strength.Strength.{Strength}
use Rattle.pg_multi.specs.Strengths.{conflicts, stronger}

-- each lock is of a higher transaction than the one before it, and the first of `lowest` at least
abbrev pub AscendFrom : ℕ → List RowLock → Type 0
AscendFrom lowest [] = Unit {0}
AscendFrom lowest (lock ∷ locks) = (lowest ≤ lock.xact) × AscendFrom (lock.xact + 1) locks

-- each lock is of a higher transaction than the one before it
abbrev pub AreAscending : List RowLock → Type 0
AreAscending locks = AscendFrom 0 locks

-- the strength at which a transaction holds the row, if it does
abbrev pub strongest_of : List RowLock → ℕ → Option Strength
strongest_of locks xact =
    option_map (λ lock. lock.strength) (find (λ lock. nat_eq lock.xact xact) locks)

-- whether the transaction `me`, if it asks for that strength, has to wait for a lock: another one
-- holds it, and the two conflict
abbrev pub is_blocking : ℕ → Strength → RowLock → Bool
is_blocking me strength lock = not (nat_eq lock.xact me) && conflicts strength lock.strength

-- the transaction that `me`, if it asks for that strength, has to wait for: the first whose lock
-- blocks it, which is the lowest
abbrev pub blocker : List RowLock → ℕ → Strength → Option ℕ
blocker locks me strength = option_map (λ lock. lock.xact) (find (is_blocking me strength) locks)

-- `me`, if it asks for that strength, is blocked by a transaction: that is another one, and the
-- strength at which it holds the row conflicts
abbrev pub IsBlockedBy : List RowLock → ℕ → Strength → ℕ → Type 0
IsBlockedBy locks me strength xact =
    (xact ≢ me) × (held : Strength) × (strongest_of locks xact ≡ Some held) × (conflicts strength held ≡ true)

-- the locks of lower transactions
abbrev pub locks_below : List RowLock → ℕ → List RowLock
locks_below locks xact = filter (λ lock. nat_lt lock.xact xact) locks

-- the locks of higher transactions
abbrev pub locks_above : List RowLock → ℕ → List RowLock
locks_above locks xact = filter (λ lock. nat_lt xact lock.xact) locks

-- the strength of a lock that is asked for by who may hold one: the stronger of the two
abbrev pub strength_joined : Option Strength → Strength → Strength
strength_joined None asked = asked
strength_joined (Some held) asked = stronger held asked

-- the locks, where the transaction holds the row at that strength too: its lock, at the stronger of
-- the strength that it had and that one, stands between the locks of lower and of higher transactions
abbrev pub lock_joined : List RowLock → ℕ → Strength → List RowLock
lock_joined locks xact strength =
    locks_below locks xact
    ++ record { xact = xact; strength = strength_joined (strongest_of locks xact) strength }
    ∷ locks_above locks xact

-- the locks, where what the transaction held has ended
abbrev pub locks_left : List RowLock → ℕ → List RowLock
locks_left locks xact = filter (λ lock. not (nat_eq lock.xact xact)) locks

-- no two transactions hold the row at strengths that conflict
abbrev pub AreCompatible : List RowLock → Type 0
AreCompatible locks =
    (one other : ℕ) (a b : Strength) → one ≢ other →
    strongest_of locks one ≡ Some a → strongest_of locks other ≡ Some b →
    conflicts a b ≡ false
