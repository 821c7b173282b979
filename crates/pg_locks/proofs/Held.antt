-- The locks on the rows of a table, as rows are added and locks begin and end.
use Rattle.std.proofs.Common.{◌≡◌, ◌≢◌, ◌++◌, ◌⊎◌, ◌||◌, inl, inr, ℕ, zero, suc, Bool, true, false, cond, not, nat_eq, List, [], ◌∷◌, Option, None, Some, find, is_some, option_map, slice_get, slice_set, take, unwrap_or, refl, ap, sym, ◌∙◌, eq-eqb, ne_eqb}
use Rattle.std.specs.List.{list_any}
use Rattle.std.specs.Option.{option_map_or}
use Rattle.std.proofs.lemmas.Bool.{cases_eq}
use Rattle.pg_lists.specs.Numbered.{nth_item, with_changed_nth_item}
use Rattle.pg_multi.specs.declared.row_lock.RowLock.{RowLock}
use Rattle.pg_multi.specs.declared.strength.Strength.{Strength}
use Rattle.pg_multi.specs.Locks.{lock_joined, locks_left, strongest_of}
use Rattle.pg_multi.proofs.Holders.{joined_other, left_other, left_own}
use Rattle.pg_locks.specs.Locks.{is_held, locks_at, locks_ended, locks_held, locks_left_where, locks_of_row_added}

-- whether a transaction has one of the locks
abbrev has_lock : ℕ → List RowLock → Bool
has_lock xact locks = is_some (strongest_of locks xact)

-- nobody holds a row that was added
pub added_at : (rows : List (List RowLock)) (row : ℕ) → locks_at (locks_of_row_added rows) row ≡ locks_at rows row
added_at rows zero = refl
added_at rows (suc before) = at rows before
  where
    at : (rows : List (List RowLock)) (before : ℕ) → unwrap_or (slice_get (rows ++ [] ∷ []) before) [] ≡ unwrap_or (slice_get rows before) []
    at [] zero = refl
    at [] (suc before) = refl
    at (locks ∷ rows) zero = refl
    at (locks ∷ rows) (suc before) = at rows before

-- who holds one of the first rows holds it
first_held : (count : ℕ) (rows : List (List RowLock)) (before xact : ℕ) → has_lock xact (unwrap_or (slice_get (take count rows) before) []) ≡ true →
    has_lock xact (unwrap_or (slice_get rows before) []) ≡ true
first_held zero rows before xact is = absurd (cc is)
first_held (suc count) [] before xact is = is
first_held (suc count) (locks ∷ rows) zero xact is = is
first_held (suc count) (locks ∷ rows) (suc before) xact is = first_held count rows before xact is

pub fewer_held : (count : ℕ) (rows : List (List RowLock)) (row xact : ℕ) → is_held (take count rows) row xact ≡ true → is_held rows row xact ≡ true
fewer_held count rows zero xact is = is
fewer_held count rows (suc before) xact is = first_held count rows before xact is

-- a lock that is new on a row: who holds what
set_at : (rows : List (List RowLock)) (place : ℕ) (locks : List RowLock) (before : ℕ) →
    (before ≡ place → ⊥) ⊎ (slice_get rows before ≡ None) →
    unwrap_or (slice_get (slice_set rows place locks) before) [] ≡ unwrap_or (slice_get rows before) []
set_at [] place locks before apart = refl
set_at (first ∷ rows) zero locks zero (inl apart) = absurd (apart refl)
set_at (first ∷ rows) zero locks zero (inr none) = absurd (cc none)
set_at (first ∷ rows) zero locks (suc before) apart = refl
set_at (first ∷ rows) (suc place) locks zero apart = refl
set_at (first ∷ rows) (suc place) locks (suc before) (inl apart) = set_at rows place locks before (inl (λ e. apart (ap suc e)))
set_at (first ∷ rows) (suc place) locks (suc before) (inr none) = set_at rows place locks before (inr none)

set_here : (rows : List (List RowLock)) (place : ℕ) (old new : List RowLock) → slice_get rows place ≡ Some old → slice_get (slice_set rows place new) place ≡ Some new
set_here [] place old new is = absurd (cc is)
set_here (first ∷ rows) zero old new is = refl
set_here (first ∷ rows) (suc place) old new is = set_here rows place old new is

-- who holds a row, after a transaction has joined those that hold one, held it before or is the one that joined
pub held_before : (rows : List (List RowLock)) (xact row : ℕ) (strength : Strength) (other_row other : ℕ) →
    is_held (locks_held rows xact row strength) other_row other ≡ true →
    (is_held rows other_row other ≡ true) ⊎ ((other_row ≡ row) × (other ≡ xact))
held_before rows xact zero strength other_row other is = inl is
held_before rows xact (suc place) strength zero other is = inl (by_zero (slice_get rows place) is)
  where
    by_zero : (o : Option (List RowLock)) → has_lock other (unwrap_or (nth_item (option_map_or (λ locks. slice_set rows place (lock_joined locks xact strength)) o rows) zero) []) ≡ true →
        has_lock other [] ≡ true
    by_zero o is = is
held_before rows xact (suc place) strength (suc before) other is = at (slice_get rows place) refl is
  where
    by_holder : (locks : List RowLock) → slice_get rows place ≡ Some locks → (before ≡ place) → (other ≡ xact) ⊎ (other ≡ xact → ⊥) →
        has_lock other (unwrap_or (slice_get (slice_set rows place (lock_joined locks xact strength)) before) []) ≡ true →
        (has_lock other (unwrap_or (slice_get rows before) []) ≡ true) ⊎ ((suc before ≡ suc place) × (other ≡ xact))
    by_holder locks there here (inl own) is = inr (ap suc here, own)
    by_holder locks there here (inr apart) is =
        inl
        (ap (λ i. has_lock other (unwrap_or (slice_get rows i) [])) here
        ∙ (ap (λ o. has_lock other (unwrap_or o [])) there
        ∙ (ap (λ o. is_some o) (sym (joined_other locks xact other strength apart))
        ∙ (ap (λ o. has_lock other (unwrap_or o [])) (sym (set_here rows place locks (lock_joined locks xact strength) there))
        ∙ (ap (λ i. has_lock other (unwrap_or (slice_get (slice_set rows place (lock_joined locks xact strength)) i) [])) (sym here) ∙ is)))))

    by_row : (locks : List RowLock) → slice_get rows place ≡ Some locks → (before ≡ place) ⊎ (before ≡ place → ⊥) →
        has_lock other (unwrap_or (slice_get (slice_set rows place (lock_joined locks xact strength)) before) []) ≡ true →
        (has_lock other (unwrap_or (slice_get rows before) []) ≡ true) ⊎ ((suc before ≡ suc place) × (other ≡ xact))
    by_row locks there (inl here) is = by_holder locks there here (cases_eq other xact) is
    by_row locks there (inr apart) is =
        inl (ap (λ ls. has_lock other ls) (sym (set_at rows place (lock_joined locks xact strength) before (inl apart))) ∙ is)

    at : (o : Option (List RowLock)) → slice_get rows place ≡ o →
        has_lock other (unwrap_or (slice_get (option_map_or (λ locks. slice_set rows place (lock_joined locks xact strength)) o rows) before) []) ≡ true →
        (has_lock other (unwrap_or (slice_get rows before) []) ≡ true) ⊎ ((suc before ≡ suc place) × (other ≡ xact))
    at None there is = inl is
    at (Some locks) there is = by_row locks there (cases_eq before place) is

-- who holds nothing has nothing to leave
left_none : (locks : List RowLock) (xact : ℕ) → has_lock xact locks ≡ false → locks_left locks xact ≡ locks
left_none [] xact none = refl
left_none (lock ∷ locks) xact none = at (nat_eq lock.xact xact) refl (λ e. left_none locks xact e) none
  where
    at : (b : Bool) → nat_eq lock.xact xact ≡ b → (has_lock xact locks ≡ false → locks_left locks xact ≡ locks) →
        is_some (option_map (λ l. l.strength) (cond b (Some lock) (find (λ l. nat_eq l.xact xact) locks))) ≡ false →
        cond (not (nat_eq lock.xact xact)) (lock ∷ locks_left locks xact) (locks_left locks xact) ≡ lock ∷ locks
    at true is behind none = absurd (cc none)
    at false is behind none = rw is (ap (λ ls. lock ∷ ls) (behind none))

-- where the transaction holds no other row than those that are noted, and has left those, it has left all
pub all_left : (rows more : List (List RowLock)) (notes : List ℕ) (xact : ℕ) →
    ((row : ℕ) → is_held rows row xact ≡ true → list_any (nat_eq row) notes ≡ true) →
    ((row : ℕ) → nth_item more row ≡ option_map (locks_left_where (list_any (nat_eq row) notes) xact) (nth_item rows row)) →
    more ≡ locks_ended xact rows
all_left rows more notes xact covered left = same rows more (λ i. list_any (nat_eq (suc i)) notes) (λ i is. covered (suc i) is) (λ i. left (suc i))
  where
    one : (locks : List RowLock) (b : Bool) → (has_lock xact locks ≡ true → b ≡ true) → locks_left_where b xact locks ≡ locks_left locks xact
    one locks true held = refl
    one locks false held = sym (left_none locks xact (by_case (has_lock xact locks) held))
      where
        by_case : (c : Bool) → (c ≡ true → false ≡ true) → c ≡ false
        by_case true held = absurd (cc (held refl))
        by_case false held = refl

    same : (rows more : List (List RowLock)) (noted : ℕ → Bool) →
        ((i : ℕ) → has_lock xact (unwrap_or (slice_get rows i) []) ≡ true → noted i ≡ true) →
        ((i : ℕ) → slice_get more i ≡ option_map (locks_left_where (noted i) xact) (slice_get rows i)) → more ≡ locks_ended xact rows
    same [] [] noted covered left = refl
    same [] (locks ∷ more) noted covered left = absurd (cc (left 0))
    same (locks ∷ rows) [] noted covered left = absurd (cc (left 0))
    same (locks ∷ rows) (others ∷ more) noted covered left =
        let first : others ≡ locks_left_where (noted 0) xact locks = cc (left 0) in
        rw (first, one locks (noted 0) (covered 0))
        (ap (λ ls. locks_left locks xact ∷ ls) (same rows more (λ i. noted (suc i)) (λ i is. covered (suc i) is) (λ i. left (suc i))))

-- and where it holds none, it has left all
pub none_left : (rows : List (List RowLock)) (xact : ℕ) → ((row : ℕ) → is_held rows row xact ≡ true → ⊥) → rows ≡ locks_ended xact rows
none_left rows xact none = all_left rows rows [] xact (λ row is. absurd (none row is)) (λ row. same (nth_item rows row))
  where
    same : (o : Option (List RowLock)) → o ≡ option_map (locks_left_where false xact) o
    same None = refl
    same (Some locks) = refl

-- who holds a row after a transaction has ended held it before, and is not that one
pub held_still : (rows : List (List RowLock)) (xact row other : ℕ) → is_held (locks_ended xact rows) row other ≡ true →
    (is_held rows row other ≡ true) × (other ≢ xact)
held_still rows xact zero other is = absurd (cc is)
held_still rows xact (suc before) other is = at rows before is
  where
    by_holder : (locks : List RowLock) → (other ≡ xact) ⊎ (other ≡ xact → ⊥) → has_lock other (locks_left locks xact) ≡ true →
        (has_lock other locks ≡ true) × (other ≢ xact)
    by_holder locks (inl own) is = let gone = ap (λ o. is_some o) (left_own locks xact) in absurd (cc (own, gone, is))
    by_holder locks (inr apart) is = (ap (λ o. is_some o) (sym (left_other locks xact other apart)) ∙ is, apart)

    at : (rows : List (List RowLock)) (before : ℕ) → has_lock other (unwrap_or (slice_get (locks_ended xact rows) before) []) ≡ true →
        (has_lock other (unwrap_or (slice_get rows before) []) ≡ true) × (other ≢ xact)
    at [] before is = absurd (cc is)
    at (locks ∷ rows) zero is = by_holder locks (cases_eq other xact) is
    at (locks ∷ rows) (suc before) is = at rows before is

-- the locks on a row, where those of one are changed
changed_here : (change : List RowLock → List RowLock) (rows : List (List RowLock)) (number : ℕ) →
    nth_item (with_changed_nth_item change rows number) number ≡ option_map change (nth_item rows number)
changed_here change rows zero = refl
changed_here change rows (suc place) = at (slice_get rows place) refl
  where
    at : (o : Option (List RowLock)) → slice_get rows place ≡ o →
        slice_get (option_map_or (λ locks. slice_set rows place (change locks)) o rows) place ≡ option_map change o
    at None is = is
    at (Some locks) is = set_here rows place locks (change locks) is

changed_other : (change : List RowLock → List RowLock) (rows : List (List RowLock)) (number other : ℕ) → other ≢ number →
    nth_item (with_changed_nth_item change rows number) other ≡ nth_item rows other
changed_other change rows zero other apart = refl
changed_other change rows (suc place) zero apart = refl
changed_other change rows (suc place) (suc before) apart = at (slice_get rows place)
  where
    set_other : (rows : List (List RowLock)) (place before : ℕ) (locks : List RowLock) → (before ≡ place → ⊥) →
        slice_get (slice_set rows place locks) before ≡ slice_get rows before
    set_other [] place before locks apart = refl
    set_other (first ∷ rows) zero zero locks apart = absurd (apart refl)
    set_other (first ∷ rows) zero (suc before) locks apart = refl
    set_other (first ∷ rows) (suc place) zero locks apart = refl
    set_other (first ∷ rows) (suc place) (suc before) locks apart = set_other rows place before locks (λ e. apart (ap suc e))

    at : (o : Option (List RowLock)) → slice_get (option_map_or (λ locks. slice_set rows place (change locks)) o rows) before ≡ slice_get rows before
    at None = refl
    at (Some locks) = set_other rows place before (change locks) (λ e. apart (ap suc e))

-- one row more is left
noted_last : (notes : List ℕ) (row next : ℕ) (b : Bool) → nat_eq row next ≡ b → list_any (nat_eq row) (notes ++ next ∷ []) ≡ cond b true (list_any (nat_eq row) notes)
noted_last [] row next true is = rw is refl
noted_last [] row next false is = rw is refl
noted_last (first ∷ notes) row next b is = ap (λ c. nat_eq row first || c) (noted_last notes row next b is) ∙ at b (nat_eq row first)
  where
    at : (b c : Bool) → (c || cond b true (list_any (nat_eq row) notes)) ≡ cond b true (c || list_any (nat_eq row) notes)
    at true true = refl
    at true false = refl
    at false c = refl

pub left_more : (rows now : List (List RowLock)) (notes : List ℕ) (xact next : ℕ) →
    ((row : ℕ) → nth_item now row ≡ option_map (locks_left_where (list_any (nat_eq row) notes) xact) (nth_item rows row)) → (row : ℕ) →
    nth_item (with_changed_nth_item (λ locks. locks_left locks xact) now next) row
    ≡ option_map (locks_left_where (list_any (nat_eq row) (notes ++ next ∷ [])) xact) (nth_item rows row)
left_more rows now notes xact next left row = at (cases_eq row next)
  where
    again : (locks : List RowLock) (b : Bool) → locks_left (locks_left_where b xact locks) xact ≡ locks_left locks xact
    again locks true = left_none (locks_left locks xact) xact (ap (λ o. is_some o) (left_own locks xact))
    again locks false = refl

    twice : (b : Bool) (o : Option (List RowLock)) → option_map (λ locks. locks_left locks xact) (option_map (locks_left_where b xact) o)
        ≡ option_map (locks_left_where true xact) o
    twice b None = refl
    twice b (Some locks) = ap Some (again locks b)

    at : (row ≡ next) ⊎ (row ≡ next → ⊥) → nth_item (with_changed_nth_item (λ locks. locks_left locks xact) now next) row
        ≡ option_map (locks_left_where (list_any (nat_eq row) (notes ++ next ∷ [])) xact) (nth_item rows row)
    at (inl e) =
        rw e
        (changed_here (λ locks. locks_left locks xact) now next
        ∙ (ap (λ o. option_map (λ locks. locks_left locks xact) o) (left next)
        ∙ (twice (list_any (nat_eq next) notes) (nth_item rows next)
        ∙ ap (λ b. option_map (locks_left_where b xact) (nth_item rows next)) (sym (noted_last notes next next true (eq-eqb next next refl))))))
    at (inr apart) =
        changed_other (λ locks. locks_left locks xact) now next row apart
        ∙ (left row ∙ ap (λ b. option_map (locks_left_where b xact) (nth_item rows row)) (sym (noted_last notes row next false (ne_eqb row next apart))))
