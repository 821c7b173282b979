-- Who holds a row at which strength, after somebody joined or left.
use Rattle.std.proofs.Common.{◌≡◌, ◌≢◌, ◌<◌, ◌⊎◌, inl, inr, ℕ, Bool, true, false, not, nat_eq, nat_lt, List, ◌∷◌, Option, None, Some, find, option_map, refl, ap, sym, ◌∙◌, arith, eq-eqb, ne_eqb}
use Rattle.std.proofs.lemmas.Bool.{cases_order, eqb-true, le-ltb, lt-ltb}
use Rattle.pg_multi.specs.declared.row_lock.RowLock.{RowLock}
use Rattle.pg_multi.specs.declared.strength.Strength.{Strength}
use Rattle.pg_multi.specs.Locks.{lock_joined, locks_above, locks_below, locks_left, strength_joined, strongest_of}
use Rattle.pg_multi.proofs.Finds.{find_behind, find_dropped, find_front, find_kept, find_none}

-- the test for the locks of a transaction
abbrev pub is_of : ℕ → RowLock → Bool
is_of xact lock = nat_eq lock.xact xact

pub of_other : (one other : ℕ) (lock : RowLock) → one ≢ other → is_of one lock ≡ true → is_of other lock ≡ false
of_other one other lock apart is =
    let e : lock.xact ≡ one = eqb-true lock.xact one is in
    ne_eqb lock.xact other (λ same. apart (sym e ∙ same))

-- what nobody has joined and nobody has left is found as before
find_joined : (locks : List RowLock) (xact other : ℕ) (strength : Strength) → other ≢ xact →
    find (is_of other) (lock_joined locks xact strength) ≡ find (is_of other) locks
find_joined locks xact other strength apart = at (cases_order other xact)
  where
    at : (other ≡ xact) ⊎ ((other < xact) ⊎ (xact < other)) →
        find (is_of other) (lock_joined locks xact strength) ≡ find (is_of other) locks
    at (inl same) = absurd (apart same)
    at (inr (inl lower)) = in_front (find (is_of other) locks) refl
      where
        below : find (is_of other) (locks_below locks xact) ≡ find (is_of other) locks
        below =
            find_kept (is_of other) (λ lock. nat_lt lock.xact xact) locks
            (λ lock is. let e : lock.xact ≡ other = eqb-true lock.xact other is in lt-ltb lock.xact xact (omega (arith, e, lower)))

        in_front : (o : Option RowLock) → find (is_of other) locks ≡ o →
            find (is_of other) (lock_joined locks xact strength) ≡ find (is_of other) locks
        in_front (Some lock) is =
            find_front (is_of other) (locks_below locks xact) _ lock (below ∙ is) ∙ sym is
        in_front None is =
            find_behind (is_of other) (locks_below locks xact) _ (below ∙ is)
            ∙ rw (ne_eqb xact other (λ e. apart (sym e)))
            (find_none (is_of other) (λ lock. nat_lt xact lock.xact) locks is ∙ sym is)
    at (inr (inr higher)) =
        find_behind (is_of other) (locks_below locks xact) _
        (find_dropped (is_of other) (λ lock. nat_lt lock.xact xact) locks
        (λ lock is. let e : lock.xact ≡ other = eqb-true lock.xact other is in le-ltb lock.xact xact (omega (arith, e, higher))))
        ∙ rw (ne_eqb xact other (λ e. apart (sym e)))
        (find_kept (is_of other) (λ lock. nat_lt xact lock.xact) locks
        (λ lock is. let e : lock.xact ≡ other = eqb-true lock.xact other is in lt-ltb xact lock.xact (omega (arith, e, higher))))

pub joined_other : (locks : List RowLock) (xact other : ℕ) (strength : Strength) → other ≢ xact →
    strongest_of (lock_joined locks xact strength) other ≡ strongest_of locks other
joined_other locks xact other strength apart =
    ap (λ found. option_map (λ lock. lock.strength) found) (find_joined locks xact other strength apart)

pub joined_own : (locks : List RowLock) (xact : ℕ) (strength : Strength) →
    strongest_of (lock_joined locks xact strength) xact ≡ Some (strength_joined (strongest_of locks xact) strength)
joined_own locks xact strength =
    let lock : RowLock = record { xact = xact; strength = strength_joined (strongest_of locks xact) strength } in
    let none = find_dropped (is_of xact) (λ lock. nat_lt lock.xact xact) locks
    (λ lock is. let e : lock.xact ≡ xact = eqb-true lock.xact xact is in le-ltb lock.xact xact (omega (arith, e))) in
    let here : find (is_of xact) (lock ∷ locks_above locks xact) ≡ Some lock = rw (eq-eqb xact xact refl) refl in
    ap (λ found. option_map (λ lock. lock.strength) found)
    (find_behind (is_of xact) (locks_below locks xact) (lock ∷ locks_above locks xact) none ∙ here)

pub left_other : (locks : List RowLock) (xact other : ℕ) → other ≢ xact →
    strongest_of (locks_left locks xact) other ≡ strongest_of locks other
left_other locks xact other apart =
    ap (λ found. option_map (λ lock. lock.strength) found)
    (find_kept (is_of other) (λ lock. not (is_of xact lock)) locks
    (λ lock is. rw (of_other other xact lock apart is) refl))

pub left_own : (locks : List RowLock) (xact : ℕ) → strongest_of (locks_left locks xact) xact ≡ None
left_own locks xact =
    ap (λ found. option_map (λ lock. lock.strength) found)
    (find_dropped (is_of xact) (λ lock. not (is_of xact lock)) locks (λ lock is. rw is refl))
