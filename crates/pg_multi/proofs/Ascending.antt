-- Locks that ascend: what joins them stands at one place, and they ascend with it.
use Rattle.std.proofs.Common.{◌≡◌, ◌≢◌, ◌<◌, ◌≤◌, ◌+◌, ◌⊎◌, inl, inr, ℕ, suc, Bool, true, false, not, cond, nat_eq, nat_le, List, [], ◌∷◌, length, None, Some, filter, find, insert, option_map, slice_get, slice_set, refl, ap, sym, ◌∙◌, arith, eq-eqb, ne_eqb}
use Rattle.std.specs.List.{position_or_len}
use Rattle.std.proofs.lemmas.Bool.{cases_lt, cases_order, lt-ltb, le-ltb, le-leb, lt-leb}
use Rattle.pg_multi.specs.declared.row_lock.RowLock.{RowLock}
use Rattle.pg_multi.specs.declared.strength.Strength.{Strength}
use Rattle.pg_multi.specs.Strengths.{stronger}
use Rattle.pg_multi.specs.Locks.{AscendFrom, locks_above, locks_below, lock_joined, strongest_of}

-- locks that ascend from a number on ascend from each lower one
pub ascend_lower : (lowest lower : ℕ) (locks : List RowLock) → lower ≤ lowest → AscendFrom lowest locks →
    AscendFrom lower locks
ascend_lower lowest lower [] below ascend = tt
ascend_lower lowest lower (lock ∷ locks) below ascend = (let h = ascend.0 in omega (arith, below, h), ascend.1)

-- and where some of them have gone
pub ascend_filter : (test : RowLock → Bool) (lowest : ℕ) (locks : List RowLock) → AscendFrom lowest locks →
    AscendFrom lowest (filter test locks)
ascend_filter test lowest [] ascend = tt
ascend_filter test lowest (lock ∷ locks) ascend = at (test lock) (ascend_filter test (lock.xact + 1) locks ascend.1)
  where
    at : (b : Bool) → AscendFrom (lock.xact + 1) (filter test locks) →
        AscendFrom lowest (cond b (lock ∷ filter test locks) (filter test locks))
    at true behind = (ascend.0, behind)
    at false behind =
        ascend_lower (lock.xact + 1) lowest (filter test locks) (let h = ascend.0 in omega (arith, h)) behind

-- none of them is of a transaction below the first number
pub none_below : (lowest : ℕ) (locks : List RowLock) (xact : ℕ) → xact ≤ lowest → AscendFrom lowest locks →
    locks_below locks xact ≡ []
none_below lowest [] xact below ascend = refl
none_below lowest (lock ∷ locks) xact below ascend =
    let h = ascend.0 in
    rw (le-ltb lock.xact xact (omega (arith, below, h)))
    (none_below (lock.xact + 1) locks xact (omega (arith, below, h)) ascend.1)

pub all_above : (lowest : ℕ) (locks : List RowLock) (xact : ℕ) → xact < lowest → AscendFrom lowest locks →
    locks_above locks xact ≡ locks
all_above lowest [] xact below ascend = refl
all_above lowest (lock ∷ locks) xact below ascend =
    let h = ascend.0 in
    rw (lt-ltb xact lock.xact (omega (arith, below, h)))
    (ap (λ rest. lock ∷ rest) (all_above (lock.xact + 1) locks xact (omega (arith, below, h)) ascend.1))

pub not_found : (lowest : ℕ) (locks : List RowLock) (xact : ℕ) → xact < lowest → AscendFrom lowest locks →
    find (λ lock. nat_eq lock.xact xact) locks ≡ None
not_found lowest [] xact below ascend = refl
not_found lowest (lock ∷ locks) xact below ascend =
    let h = ascend.0 in
    rw (ne_eqb lock.xact xact (λ e. omega (arith, below, h, e)))
    (not_found (lock.xact + 1) locks xact (omega (arith, below, h)) ascend.1)

-- who joins behind the first lock, at it and before it
pub joined_behind : (lock : RowLock) (locks : List RowLock) (xact : ℕ) (strength : Strength) → lock.xact < xact →
    lock_joined (lock ∷ locks) xact strength ≡ lock ∷ lock_joined locks xact strength
joined_behind lock locks xact strength lower =
    rw (lt-ltb lock.xact xact lower, ne_eqb lock.xact xact (λ e. omega (arith, lower, e)), le-ltb xact lock.xact (omega (arith, lower)))
    refl

pub joined_here : (lowest : ℕ) (lock : RowLock) (locks : List RowLock) (xact : ℕ) (strength : Strength) →
    AscendFrom lowest (lock ∷ locks) → lock.xact ≡ xact →
    lock_joined (lock ∷ locks) xact strength ≡ record { xact = xact; strength = stronger lock.strength strength } ∷ locks
joined_here lowest lock locks xact strength ascend same =
    rw (le-ltb lock.xact xact (omega (arith, same)), eq-eqb lock.xact xact same, le-ltb xact lock.xact (omega (arith, same)), none_below (lock.xact + 1) locks xact (omega (arith, same)) ascend.1, all_above (lock.xact + 1) locks xact (omega (arith, same)) ascend.1)
    refl

pub joined_before : (lowest : ℕ) (locks : List RowLock) (xact : ℕ) (strength : Strength) → xact < lowest →
    AscendFrom lowest locks →
    lock_joined locks xact strength ≡ record { xact = xact; strength = strength } ∷ locks
joined_before lowest locks xact strength below ascend =
    rw (none_below lowest locks xact (omega (arith, below)) ascend, not_found lowest locks xact below ascend, all_above lowest locks xact below ascend)
    refl

-- they ascend with who joined them
pub ascend_joined : (lowest : ℕ) (locks : List RowLock) (xact : ℕ) (strength : Strength) → lowest ≤ xact →
    AscendFrom lowest locks → AscendFrom lowest (lock_joined locks xact strength)
ascend_joined lowest [] xact strength least ascend = (least, tt)
ascend_joined lowest (lock ∷ locks) xact strength least ascend =
    at (cases_order lock.xact xact)
    (λ (least : lock.xact + 1 ≤ xact). ascend_joined (lock.xact + 1) locks xact strength least ascend.1)
  where
    at : (lock.xact ≡ xact) ⊎ ((lock.xact < xact) ⊎ (xact < lock.xact)) →
        (lock.xact + 1 ≤ xact → AscendFrom (lock.xact + 1) (lock_joined locks xact strength)) →
        AscendFrom lowest (lock_joined (lock ∷ locks) xact strength)
    at (inl same) more =
        rw (joined_here lowest lock locks xact strength ascend same)
        (least, ascend_lower (lock.xact + 1) (xact + 1) locks (omega (arith, same)) ascend.1)
    at (inr (inl lower)) more =
        rw (joined_behind lock locks xact strength lower) (ascend.0, more (omega (arith, lower)))
    at (inr (inr higher)) more =
        rw (joined_before (xact + 1) (lock ∷ locks) xact strength (omega arith) (omega (arith, higher), ascend.1))
        (least, (omega (arith, higher), ascend.1))

-- the place of the first lock that no lower transaction holds
abbrev pub place_in : List RowLock → ℕ → ℕ
place_in locks xact = position_or_len (λ lock. nat_le xact lock.xact) locks

one_more : (n : ℕ) → 1 + n ≡ suc n
one_more n = omega arith

-- the lock there is the transaction's, where it holds one: it is made stronger
pub strengthened : (lowest : ℕ) (locks : List RowLock) (xact : ℕ) (strength held : Strength) →
    AscendFrom lowest locks → strongest_of locks xact ≡ Some held →
    (place_in locks xact < length locks)
    × (slice_set locks (place_in locks xact) (record { xact = xact; strength = stronger held strength })
    ≡ lock_joined locks xact strength)
strengthened lowest [] xact strength held ascend holds = absurd (cc holds)
strengthened lowest (lock ∷ locks) xact strength held ascend holds =
    at (cases_order lock.xact xact) holds
    (λ holds. strengthened (lock.xact + 1) locks xact strength held ascend.1 holds)
  where
    at : (lock.xact ≡ xact) ⊎ ((lock.xact < xact) ⊎ (xact < lock.xact)) →
        strongest_of (lock ∷ locks) xact ≡ Some held →
        (strongest_of locks xact ≡ Some held →
        (place_in locks xact < length locks)
        × (slice_set locks (place_in locks xact) (record { xact = xact; strength = stronger held strength })
        ≡ lock_joined locks xact strength)) →
        (place_in (lock ∷ locks) xact < length (lock ∷ locks))
        × (slice_set (lock ∷ locks) (place_in (lock ∷ locks) xact) (record { xact = xact; strength = stronger held strength })
        ≡ lock_joined (lock ∷ locks) xact strength)
    at (inl here) holds more =
        let own : Some lock.strength ≡ Some held = rw (eq-eqb lock.xact xact here) at holds in
        let same : lock.strength ≡ held = cc in
        rw (le-leb xact lock.xact (omega (arith, here)), joined_here lowest lock locks xact strength ascend here, same)
        (omega arith, refl)
    at (inr (inl lower)) holds more =
        let behind = more (rw (ne_eqb lock.xact xact (λ e. omega (arith, lower, e))) at holds) in
        rw (lt-leb xact lock.xact lower, one_more (place_in locks xact), joined_behind lock locks xact strength lower)
        (let h = behind.0 in omega (arith, h), ap (λ rest. lock ∷ rest) behind.1)
    at (inr (inr higher)) holds more =
        let none = not_found (xact + 1) (lock ∷ locks) xact (omega arith) (omega (arith, higher), ascend.1) in
        let e : None ≡ Some held = rw none at holds in absurd (cc)

-- the strength that it has is that of the lock there
pub held_there : (lowest : ℕ) (locks : List RowLock) (xact : ℕ) (there : RowLock) → AscendFrom lowest locks →
    slice_get locks (place_in locks xact) ≡ Some there → there.xact ≡ xact →
    strongest_of locks xact ≡ Some there.strength
held_there lowest [] xact there ascend is own = absurd (cc is)
held_there lowest (lock ∷ locks) xact there ascend is own =
    at (cases_order lock.xact xact) is (λ is. held_there (lock.xact + 1) locks xact there ascend.1 is own)
  where
    at : (lock.xact ≡ xact) ⊎ ((lock.xact < xact) ⊎ (xact < lock.xact)) →
        slice_get (lock ∷ locks) (place_in (lock ∷ locks) xact) ≡ Some there →
        (slice_get locks (place_in locks xact) ≡ Some there → strongest_of locks xact ≡ Some there.strength) →
        strongest_of (lock ∷ locks) xact ≡ Some there.strength
    at (inl here) is more =
        let e : Some lock ≡ Some there = rw (le-leb xact lock.xact (omega (arith, here))) at is in
        let first : lock ≡ there = cc in
        rw (eq-eqb lock.xact xact here, first) refl
    at (inr (inl lower)) is more =
        rw (ne_eqb lock.xact xact (λ e. omega (arith, lower, e)))
        (more (rw (lt-leb xact lock.xact lower, one_more (place_in locks xact)) at is))
    at (inr (inr higher)) is more =
        let e : Some lock ≡ Some there = rw (le-leb xact lock.xact (omega (arith, higher))) at is in
        let first : lock ≡ there = cc in
        let same : lock.xact ≡ there.xact = ap (λ l. l.xact) first in
        absurd (omega (arith, same, own, higher))

-- another's lock stands there: the transaction holds none
pub not_held_there : (lowest : ℕ) (locks : List RowLock) (xact : ℕ) (there : RowLock) → AscendFrom lowest locks →
    slice_get locks (place_in locks xact) ≡ Some there → there.xact ≢ xact → strongest_of locks xact ≡ None
not_held_there lowest [] xact there ascend is other = refl
not_held_there lowest (lock ∷ locks) xact there ascend is other =
    at (cases_order lock.xact xact) is (λ is. not_held_there (lock.xact + 1) locks xact there ascend.1 is other)
  where
    at : (lock.xact ≡ xact) ⊎ ((lock.xact < xact) ⊎ (xact < lock.xact)) →
        slice_get (lock ∷ locks) (place_in (lock ∷ locks) xact) ≡ Some there →
        (slice_get locks (place_in locks xact) ≡ Some there → strongest_of locks xact ≡ None) →
        strongest_of (lock ∷ locks) xact ≡ None
    at (inl here) is more =
        let e : Some lock ≡ Some there = rw (le-leb xact lock.xact (omega (arith, here))) at is in
        let first : lock ≡ there = cc in
        absurd (other (ap (λ l. l.xact) (sym first) ∙ here))
    at (inr (inl lower)) is more =
        rw (ne_eqb lock.xact xact (λ e. omega (arith, lower, e)))
        (more (rw (lt-leb xact lock.xact lower, one_more (place_in locks xact)) at is))
    at (inr (inr higher)) is more =
        ap (λ found. option_map (λ one. one.strength) found)
        (not_found (xact + 1) (lock ∷ locks) xact (omega arith) (omega (arith, higher), ascend.1))

-- no lock stands there: it holds none
pub not_held_past : (locks : List RowLock) (xact : ℕ) → slice_get locks (place_in locks xact) ≡ None →
    strongest_of locks xact ≡ None
not_held_past [] xact past = refl
not_held_past (lock ∷ locks) xact past = at (cases_lt lock.xact xact) past (λ past. not_held_past locks xact past)
  where
    at : (lock.xact < xact) ⊎ (xact ≤ lock.xact) → slice_get (lock ∷ locks) (place_in (lock ∷ locks) xact) ≡ None →
        (slice_get locks (place_in locks xact) ≡ None → strongest_of locks xact ≡ None) →
        strongest_of (lock ∷ locks) xact ≡ None
    at (inl lower) past more =
        rw (ne_eqb lock.xact xact (λ e. omega (arith, lower, e)))
        (more (rw (lt-leb xact lock.xact lower, one_more (place_in locks xact)) at past))
    at (inr higher) past more =
        let e : Some lock ≡ None = rw (le-leb xact lock.xact higher) at past in absurd (cc)

-- its lock is put there
pub inserted : (lowest : ℕ) (locks : List RowLock) (xact : ℕ) (strength : Strength) → AscendFrom lowest locks →
    strongest_of locks xact ≡ None →
    insert locks (place_in locks xact) (record { xact = xact; strength = strength }) ≡ lock_joined locks xact strength
inserted lowest [] xact strength ascend none = refl
inserted lowest (lock ∷ locks) xact strength ascend none =
    at (cases_order lock.xact xact) none (λ none. inserted (lock.xact + 1) locks xact strength ascend.1 none)
  where
    at : (lock.xact ≡ xact) ⊎ ((lock.xact < xact) ⊎ (xact < lock.xact)) →
        strongest_of (lock ∷ locks) xact ≡ None →
        (strongest_of locks xact ≡ None →
        insert locks (place_in locks xact) (record { xact = xact; strength = strength }) ≡ lock_joined locks xact strength) →
        insert (lock ∷ locks) (place_in (lock ∷ locks) xact) (record { xact = xact; strength = strength })
        ≡ lock_joined (lock ∷ locks) xact strength
    at (inl here) none more =
        let e : Some lock.strength ≡ None = rw (eq-eqb lock.xact xact here) at none in absurd (cc)
    at (inr (inl lower)) none more =
        rw (lt-leb xact lock.xact lower, one_more (place_in locks xact), joined_behind lock locks xact strength lower)
        (ap (λ rest. lock ∷ rest) (more (rw (ne_eqb lock.xact xact (λ e. omega (arith, lower, e))) at none)))
    at (inr (inr higher)) none more =
        rw (le-leb xact lock.xact (omega (arith, higher)), joined_before (xact + 1) (lock ∷ locks) xact strength (omega arith) (omega (arith, higher), ascend.1))
        refl

-- the place is one where a lock can be put
pub place_within : (locks : List RowLock) (xact : ℕ) → place_in locks xact ≤ length locks
place_within [] xact = omega arith
place_within (lock ∷ locks) xact = at (nat_le xact lock.xact) (place_within locks xact)
  where
    at : (b : Bool) → place_in locks xact ≤ length locks →
        cond (not b) (1 + place_in locks xact) 0 ≤ suc (length locks)
    at true h = omega arith
    at false h = omega (arith, h)
