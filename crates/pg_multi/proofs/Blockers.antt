-- Whom a transaction has to wait for: the lowest that holds the row at a strength that conflicts.
use Rattle.std.proofs.Common.{◌≡◌, ◌≢◌, ◌<◌, ◌≤◌, ◌+◌, ◌⊎◌, inl, inr, ℕ, Bool, true, false, not, cond, nat_eq, List, [], ◌∷◌, Option, None, Some, find, option_map, refl, ap, subst, sym, ◌∙◌, arith, eq-eqb, ne_eqb}
use Rattle.std.proofs.lemmas.Bool.{and_parts, cases_eq, cases_order, eqb-true}
use Rattle.pg_multi.specs.declared.row_lock.RowLock.{RowLock}
use Rattle.pg_multi.specs.declared.strength.Strength.{Strength}
use Rattle.pg_multi.specs.Strengths.{conflicts, rank_of}
use Rattle.pg_multi.specs.Locks.{AreAscending, AreCompatible, AscendFrom, IsBlockedBy, blocker, is_blocking, lock_joined, locks_left, strength_joined, strongest_of}
use Rattle.pg_multi.proofs.Finds.{find_kept, find_none, find_passes, find_some, find_stays, find_was_kept}
use Rattle.pg_multi.proofs.Strengths.{conflicts_both, stronger_with_none, with_more}
use Rattle.pg_multi.proofs.Ascending.{joined_before, joined_behind, joined_here}
use Rattle.pg_multi.proofs.Holders.{is_of, joined_other, joined_own, left_other, left_own}

-- a lock that blocks is another's, and conflicts
pub blocking_parts : (me : ℕ) (strength : Strength) (lock : RowLock) → is_blocking me strength lock ≡ true →
    (lock.xact ≢ me) × (conflicts strength lock.strength ≡ true)
blocking_parts me strength lock is =
    let parts = and_parts (not (nat_eq lock.xact me)) (conflicts strength lock.strength) is in
    (λ same. let e : not true ≡ true = rw (eq-eqb lock.xact me same) at parts.0 in absurd (cc), parts.1)

pub is_blocking_from : (me : ℕ) (strength : Strength) (lock : RowLock) → lock.xact ≢ me →
    conflicts strength lock.strength ≡ true → is_blocking me strength lock ≡ true
is_blocking_from me strength lock other is = rw (ne_eqb lock.xact me other, is) refl

pub own_not_blocking : (me : ℕ) (strength : Strength) (lock : RowLock) → lock.xact ≡ me → is_blocking me strength lock ≡ false
own_not_blocking me strength lock own = rw (eq-eqb lock.xact me own) refl

-- what is found ascends with the list
found_from : (p : RowLock → Bool) (lowest : ℕ) (locks : List RowLock) (lock : RowLock) → AscendFrom lowest locks →
    find p locks ≡ Some lock → lowest ≤ lock.xact
found_from p lowest [] lock ascend some = absurd (cc some)
found_from p lowest (first ∷ locks) lock ascend some =
    at (p first) refl some (λ some. found_from p (first.xact + 1) locks lock ascend.1 some)
  where
    at : (b : Bool) → p first ≡ b → cond (p first) (Some first) (find p locks) ≡ Some lock →
        (find p locks ≡ Some lock → first.xact + 1 ≤ lock.xact) → lowest ≤ lock.xact
    at true is found more =
        let e : Some first ≡ Some lock = rw is at found in
        let same : first ≡ lock = cc in
        rw (← same) ascend.0
    at false is found more =
        let h = more (rw is at found) in let least = ascend.0 in omega (arith, h, least)

-- each transaction has one lock: the one that is found is the one that it holds
find_own : (p : RowLock → Bool) (lowest : ℕ) (locks : List RowLock) (lock : RowLock) → AscendFrom lowest locks →
    find p locks ≡ Some lock → find (is_of lock.xact) locks ≡ Some lock
find_own p lowest [] lock ascend some = absurd (cc some)
find_own p lowest (first ∷ locks) lock ascend some =
    at (p first) refl some (λ some. find_own p (first.xact + 1) locks lock ascend.1 some)
  where
    at : (b : Bool) → p first ≡ b → cond (p first) (Some first) (find p locks) ≡ Some lock →
        (find p locks ≡ Some lock → find (is_of lock.xact) locks ≡ Some lock) →
        cond (is_of lock.xact first) (Some first) (find (is_of lock.xact) locks) ≡ Some lock
    at true is found more =
        let e : Some first ≡ Some lock = rw is at found in
        let same : first ≡ lock = cc in
        rw (eq-eqb first.xact lock.xact (ap (λ l. l.xact) same)) e
    at false is found more =
        let behind : find p locks ≡ Some lock = rw is at found in
        let higher = found_from p (first.xact + 1) locks lock ascend.1 behind in
        rw (ne_eqb first.xact lock.xact (λ e. omega (arith, e, higher))) (more behind)

-- the first that passes is the lowest that does
find_lowest : (p q : RowLock → Bool) (lowest : ℕ) (locks : List RowLock) (one other : RowLock) → AscendFrom lowest locks →
    find p locks ≡ Some one → find q locks ≡ Some other → p other ≡ true → one.xact ≤ other.xact
find_lowest p q lowest [] one other ascend some another passes = absurd (cc some)
find_lowest p q lowest (first ∷ locks) one other ascend some another passes =
    at (p first) (q first) refl refl some another
    (λ some another. find_lowest p q (first.xact + 1) locks one other ascend.1 some another passes)
  where
    at : (b c : Bool) → p first ≡ b → q first ≡ c → cond (p first) (Some first) (find p locks) ≡ Some one →
        cond (q first) (Some first) (find q locks) ≡ Some other →
        (find p locks ≡ Some one → find q locks ≡ Some other → one.xact ≤ other.xact) → one.xact ≤ other.xact
    at true c is tested some another more =
        let e : Some first ≡ Some one = rw is at some in
        let same : first ≡ one = cc in
        rw (← same) (found_from q first.xact (first ∷ locks) other (omega arith, ascend.1) another)
    at false true is tested some another more =
        let e : Some first ≡ Some other = rw tested at another in
        let same : first ≡ other = cc in
        let fails : p other ≡ false = rw (← same) is in
        absurd (cc)
    at false false is tested some another more = more (rw is at some) (rw tested at another)

-- what a number or a strength was taken of
map_none : {X Y : Type 0} (f : X → Y) (o : Option X) → option_map f o ≡ None → o ≡ None
map_none f None is = refl
map_none f (Some x) is = absurd (cc is)

pub record Taken {X Y : Type 0} (f : X → Y) (o : Option X) (y : Y) : Type 0 where
  pub item : X
  pub is : o ≡ Some item
  pub gives : f item ≡ y

map_some : {X Y : Type 0} (f : X → Y) (o : Option X) (y : Y) → option_map f o ≡ Some y → Taken f o y
map_some f None y is = absurd (cc is)
map_some f (Some x) y is = record { item = x; is = refl; gives = cc is }

-- the lock of who blocks
blocked_lock : (locks : List RowLock) (me : ℕ) (strength : Strength) (xact : ℕ) → IsBlockedBy locks me strength xact →
    (lock : RowLock) × (find (is_of xact) locks ≡ Some lock) × (lock.xact ≡ xact) × (is_blocking me strength lock ≡ true)
blocked_lock locks me strength xact blocked =
    let taken = map_some (λ lock. lock.strength) (find (is_of xact) locks) blocked.1 blocked.2 in
    let own : taken.item.xact ≡ xact = eqb-true taken.item.xact xact (find_passes (is_of xact) locks taken.item taken.is) in (
      taken.item,
      taken.is,
      own,
      is_blocking_from me strength taken.item (λ same. blocked.0 (sym own ∙ same)) (rw taken.gives blocked.3),
    )

-- nobody blocks where no blocker is named
pub none_blocks : (locks : List RowLock) (me : ℕ) (strength : Strength) (xact : ℕ) →
    blocker locks me strength ≡ None → IsBlockedBy locks me strength xact → ⊥
none_blocks locks me strength xact none blocked =
    let lock = blocked_lock locks me strength xact blocked in
    find_some (is_of xact) (is_blocking me strength) locks lock.0 lock.1 lock.3
    (map_none (λ lock. lock.xact) (find (is_blocking me strength) locks) none)

-- who is named blocks, and is the lowest who does
pub blocker_blocks : (locks : List RowLock) (me : ℕ) (strength : Strength) (xact : ℕ) → AreAscending locks →
    blocker locks me strength ≡ Some xact → IsBlockedBy locks me strength xact
blocker_blocks locks me strength xact ascend some =
    let taken = map_some (λ lock. lock.xact) (find (is_blocking me strength) locks) xact some in
    let parts = blocking_parts me strength taken.item (find_passes (is_blocking me strength) locks taken.item taken.is) in
    let own : find (is_of xact) locks ≡ Some taken.item =
    subst (λ x. find (is_of x) locks ≡ Some taken.item) taken.gives
    (find_own (is_blocking me strength) 0 locks taken.item ascend taken.is) in
    (λ same. parts.0 (taken.gives ∙ same), taken.item.strength, ap (λ found. option_map (λ lock. lock.strength) found) own, parts.1)

pub blocker_lowest : (locks : List RowLock) (me : ℕ) (strength : Strength) (xact other : ℕ) → AreAscending locks →
    blocker locks me strength ≡ Some xact → IsBlockedBy locks me strength other → xact ≤ other
blocker_lowest locks me strength xact other ascend some blocked =
    let taken = map_some (λ lock. lock.xact) (find (is_blocking me strength) locks) xact some in
    let lock = blocked_lock locks me strength other blocked in
    rw (← taken.gives, ← lock.2)
    (find_lowest (is_blocking me strength) (is_of other) 0 locks taken.item lock.0 ascend taken.is lock.1 lock.3)

-- nobody waits for itself
pub never_own : (locks : List RowLock) (me : ℕ) (strength : Strength) → blocker locks me strength ≢ Some me
never_own locks me strength some =
    let taken = map_some (λ lock. lock.xact) (find (is_blocking me strength) locks) me some in
    let parts = blocking_parts me strength taken.item (find_passes (is_blocking me strength) locks taken.item taken.is) in
    parts.0 taken.gives

-- nor does who holds the row alone
pub alone_not_blocked : (locks : List RowLock) (me : ℕ) (strength : Strength) →
    ((other : ℕ) → other ≢ me → strongest_of locks other ≡ None) → blocker locks me strength ≡ None
alone_not_blocked locks me strength alone = at (find (is_blocking me strength) locks) refl
  where
    at : (o : Option RowLock) → find (is_blocking me strength) locks ≡ o → option_map (λ lock. lock.xact) (find (is_blocking me strength) locks) ≡ None
    at None is = rw is refl
    at (Some lock) is =
        let parts = blocking_parts me strength lock (find_passes (is_blocking me strength) locks lock is) in
        absurd
        (find_some (is_blocking me strength) (is_of lock.xact) locks lock is (eq-eqb lock.xact lock.xact refl)
        (map_none (λ lock. lock.strength) (find (is_of lock.xact) locks) (alone lock.xact parts.0)))

-- who joins does not change for whom it has to wait itself
pub own_joins : (lowest : ℕ) (locks : List RowLock) (me : ℕ) (strength asked : Strength) → AscendFrom lowest locks →
    find (is_blocking me asked) (lock_joined locks me strength) ≡ find (is_blocking me asked) locks
own_joins lowest [] me strength asked ascend = rw (eq-eqb me me refl) refl
own_joins lowest (lock ∷ locks) me strength asked ascend =
    at (cases_order lock.xact me) (own_joins (lock.xact + 1) locks me strength asked ascend.1)
  where
    at : (lock.xact ≡ me) ⊎ ((lock.xact < me) ⊎ (me < lock.xact)) →
        find (is_blocking me asked) (lock_joined locks me strength) ≡ find (is_blocking me asked) locks →
        find (is_blocking me asked) (lock_joined (lock ∷ locks) me strength) ≡ find (is_blocking me asked) (lock ∷ locks)
    at (inl own) behind =
        rw (joined_here lowest lock locks me strength ascend own, own_not_blocking me asked lock own, eq-eqb me me refl)
        refl
    at (inr (inl lower)) behind =
        rw (joined_behind lock locks me strength lower)
        (ap (λ rest. cond (is_blocking me asked lock) (Some lock) rest) behind)
    at (inr (inr higher)) behind =
        rw (joined_before (me + 1) (lock ∷ locks) me strength (omega arith) (omega (arith, higher), ascend.1), eq-eqb me me refl)
        refl

pub own_join_keeps : (locks : List RowLock) (me : ℕ) (strength asked : Strength) → AreAscending locks →
    blocker (lock_joined locks me strength) me asked ≡ blocker locks me asked
own_join_keeps locks me strength asked ascend =
    ap (λ found. option_map (λ lock. lock.xact) found) (own_joins 0 locks me strength asked ascend)

-- for whom it has to wait after somebody left
pub left_own_keeps : (locks : List RowLock) (me : ℕ) (strength : Strength) →
    blocker (locks_left locks me) me strength ≡ blocker locks me strength
left_own_keeps locks me strength =
    ap (λ found. option_map (λ lock. lock.xact) found)
    (find_kept (is_blocking me strength) (λ lock. not (nat_eq lock.xact me)) locks
    (λ lock is. (and_parts (not (nat_eq lock.xact me)) (conflicts strength lock.strength) is).0))

pub left_none : (locks : List RowLock) (xact me : ℕ) (strength : Strength) → blocker locks me strength ≡ None →
    blocker (locks_left locks xact) me strength ≡ None
left_none locks xact me strength none =
    ap (λ found. option_map (λ lock. lock.xact) found)
    (find_none (is_blocking me strength) (λ lock. not (nat_eq lock.xact xact)) locks
    (map_none (λ lock. lock.xact) (find (is_blocking me strength) locks) none))

pub left_stays : (locks : List RowLock) (xact me : ℕ) (strength : Strength) (other : ℕ) → other ≢ xact →
    blocker locks me strength ≡ Some other → blocker (locks_left locks xact) me strength ≡ Some other
left_stays locks xact me strength other apart some =
    let taken = map_some (λ lock. lock.xact) (find (is_blocking me strength) locks) other some in
    rw (find_stays (is_blocking me strength) (λ lock. not (nat_eq lock.xact xact)) locks taken.item taken.is (rw (taken.gives, ne_eqb other xact apart) refl))
    (ap (λ x. Some x) taken.gives)

pub left_never : (locks : List RowLock) (xact me : ℕ) (strength : Strength) →
    blocker (locks_left locks xact) me strength ≢ Some xact
left_never locks xact me strength some =
    let taken = map_some (λ lock. lock.xact) (find (is_blocking me strength) (locks_left locks xact)) xact some in
    let kept = find_was_kept (is_blocking me strength) (λ lock. not (nat_eq lock.xact xact)) locks taken.item taken.is in
    let e : not true ≡ true = rw (eq-eqb taken.item.xact xact taken.gives) at kept in
    absurd (cc)

-- who has to wait for nobody conflicts with nobody
pub free_of : (locks : List RowLock) (me other : ℕ) (strength held : Strength) → blocker locks me strength ≡ None →
    other ≢ me → strongest_of locks other ≡ Some held → conflicts strength held ≡ false
free_of locks me other strength held none apart holds = at (conflicts strength held) refl
  where
    at : (b : Bool) → conflicts strength held ≡ b → conflicts strength held ≡ false
    at false is = is
    at true is = absurd (none_blocks locks me strength other none (apart, held, holds, is))

-- compatible locks stay so where one joins that had to wait for nobody
joined_free : (locks : List RowLock) (me other : ℕ) (strength held : Strength) → AreCompatible locks →
    blocker locks me strength ≡ None → other ≢ me → strongest_of locks other ≡ Some held → (had : Option Strength) →
    strongest_of locks me ≡ had → conflicts (strength_joined had strength) held ≡ false
joined_free locks me other strength held compatible none apart holds None had =
    free_of locks me other strength held none apart holds
joined_free locks me other strength held compatible none apart holds (Some own) had =
    stronger_with_none own strength held (compatible me other own held (λ e. apart (sym e)) had holds)
    (free_of locks me other strength held none apart holds)

pub joined_compatible : (locks : List RowLock) (me : ℕ) (strength : Strength) → AreCompatible locks →
    blocker locks me strength ≡ None → AreCompatible (lock_joined locks me strength)
joined_compatible locks me strength compatible none one other a b apart holds also =
    at (cases_eq one me) (cases_eq other me)
  where
    at : (one ≡ me) ⊎ (one ≡ me → ⊥) → (other ≡ me) ⊎ (other ≡ me → ⊥) → conflicts a b ≡ false
    at (inl e) (inl f) = absurd (apart (e ∙ sym f))
    at (inr e) (inr f) =
        compatible one other a b apart (sym (joined_other locks me one strength e) ∙ holds)
        (sym (joined_other locks me other strength f) ∙ also)
    at (inl e) (inr f) =
        let own : Some (strength_joined (strongest_of locks me) strength) ≡ Some a =
        sym (joined_own locks me strength) ∙ (rw e at holds) in
        let same : strength_joined (strongest_of locks me) strength ≡ a = cc in
        rw (← same)
        (joined_free locks me other strength b compatible none f (sym (joined_other locks me other strength f) ∙ also) _ refl)
    at (inr e) (inl f) =
        let own : Some (strength_joined (strongest_of locks me) strength) ≡ Some b =
        sym (joined_own locks me strength) ∙ (rw f at also) in
        let same : strength_joined (strongest_of locks me) strength ≡ b = cc in
        conflicts_both a b
        ∙ rw (← same)
        (joined_free locks me one strength a compatible none e (sym (joined_other locks me one strength e) ∙ holds) _ refl)

pub left_compatible : (locks : List RowLock) (xact : ℕ) → AreCompatible locks → AreCompatible (locks_left locks xact)
left_compatible locks xact compatible one other a b apart holds also =
    at (cases_eq one xact) (cases_eq other xact)
  where
    at : (one ≡ xact) ⊎ (one ≡ xact → ⊥) → (other ≡ xact) ⊎ (other ≡ xact → ⊥) → conflicts a b ≡ false
    at (inl e) f =
        let gone : None ≡ Some a = sym (left_own locks xact) ∙ (rw e at holds) in absurd (cc)
    at (inr e) (inl f) =
        let gone : None ≡ Some b = sym (left_own locks xact) ∙ (rw f at also) in absurd (cc)
    at (inr e) (inr f) =
        compatible one other a b apart (sym (left_other locks xact one e) ∙ holds) (sym (left_other locks xact other f) ∙ also)

-- who holds a lock has to wait for nobody at that strength, nor at a weaker one
pub holder_not_blocked : (locks : List RowLock) (me : ℕ) (strength held : Strength) → AreAscending locks →
    AreCompatible locks → strongest_of locks me ≡ Some held → rank_of strength ≤ rank_of held →
    blocker locks me strength ≡ None
holder_not_blocked locks me strength held ascend compatible holds weaker = at (blocker locks me strength) refl
  where
    at : (o : Option ℕ) → blocker locks me strength ≡ o → blocker locks me strength ≡ None
    at None is = is
    at (Some other) is =
        let blocked = blocker_blocks locks me strength other ascend is in
        let conflict = with_more strength held blocked.1 weaker blocked.3 in
        let none = compatible me other held blocked.1 (λ e. blocked.0 (sym e)) holds blocked.2 in
        absurd (cc)
