-- The guard of one row: each part of an entry's effect keeps it.
use Rattle.std.proofs.Common.{◌≡◌, ◌≢◌, ◌<◌, ◌≤◌, ◌⊎◌, ℕ, Bool, true, false, not, List, [], ◌∷◌, ◌++◌, filter, Option, Some, None, refl, sym, ap, ◌∙◌, subst, inl, inr, arith, eq-eqb}
use Rattle.std.specs.List.{last_or}
use Rattle.std.proofs.lemmas.Bool.{cases_eq, eqb-true}
use Rattle.pg_multi.specs.declared.row_lock.RowLock.{RowLock}
use Rattle.pg_multi.specs.declared.strength.Strength.{Strength}
use Rattle.pg_multi.specs.declared.strength.Strength.TheVariants.{NoKeyUpdate}
use Rattle.pg_multi.specs.Locks.{blocker, lock_joined, locks_left, strongest_of}
use Rattle.pg_multi.specs.Strengths.{rank_of}
use Rattle.pg_multi.proofs.Ascending.{ascend_filter, ascend_joined}
use Rattle.pg_multi.proofs.Blockers.{free_of, joined_compatible, left_compatible}
use Rattle.pg_multi.proofs.Holders.{joined_other, left_other, left_own}
use Rattle.pg_xacts.specs.Transactions.{Transactions, is_running_beside, status_of, transaction_begun}
use Rattle.pg_heap.specs.declared.row.Row.{Row}
use Rattle.pg_heap.specs.declared.version.Version.{Version}
use Rattle.pg_heap.specs.Current.{current, newest}
use Rattle.pg_heap.specs.Rows.{is_written_by, row_without, with_version}
use Rattle.pg_world.specs.Tables.{TransactionEnd, commit, rollback}
use Rattle.pg_world.specs.Worlds.{transactions_after_end}
use Rattle.pg_relation.specs.Locking.{Each, HoldsAtLeast, IsFirstBy, IsFree, IsGuarded, Runs, RunsOrCommitted, StandBehind}
use Rattle.pg_relation.proofs.Ends.{another_ended, beside_is, beside_runs, committed_begun, committed_ended, committed_own, never_begun, ran_begun, ran_ended, run_ended, run_or_none}
use Rattle.pg_relation.proofs.Owners.{running_begun}
use Rattle.pg_relation.proofs.Versions.{behind_filter, behind_more, behind_none, each_filter, each_map, each_more, each_passing, each_two, first_left, first_more, last_each, last_kept, none_passing, others_left, rising_filter, rising_more}
use Rattle.pg_relation.proofs.Holders.{change_conflicts, holds_joined, holds_left}

-- A row that is drawn.

pub guarded_fresh : (transactions : Transactions) (number : ℕ) →
    IsGuarded transactions number (record { number = number; versions = [] }) []
guarded_fresh transactions number = record {
  numbered = refl;
  ascending = tt;
  compatible = λ one other a b apart holds also. absurd (cc holds);
  running = λ xact held is. absurd (cc is);
  written = tt;
  rising = tt;
  behind = λ xact runs. tt;
  held = tt;
  free = λ other. refl;
}

-- who inserted a row that nobody else can see is alone with it
pub free_other : (transactions : Transactions) (locks : List RowLock) (versions : List Version) (xact other : ℕ) →
    IsFree transactions locks versions → IsFirstBy xact versions → Runs transactions xact → other ≢ xact →
    strongest_of locks other ≡ None
free_other transactions locks [] xact other free first runs apart = absurd first
free_other transactions locks (one ∷ later) xact other free first runs apart =
    free (subst (λ x. Runs transactions x) (sym first) runs) other (λ e. apart (e ∙ first))

all_first : (xact : ℕ) (versions : List Version) → StandBehind xact versions → IsFirstBy xact versions →
    Each (λ version. version.writer ≡ xact) versions
all_first xact [] behind first = tt
all_first xact (one ∷ later) behind first = (first, behind.0 first)

module _ (transactions : Transactions) (number : ℕ) (row : Row) (locks : List RowLock) (guarded : IsGuarded transactions number row locks) where
  -- where a transaction holds the row for a change, no other that runs has changed it
  pub no_other_held : (xact other : ℕ) → HoldsAtLeast locks xact NoKeyUpdate → Runs transactions other → other ≢ xact →
      Each (λ version. version.writer ≢ other) row.versions
  no_other_held xact other holds runs apart =
      each_map
      (λ version. Runs transactions version.writer → IsFirstBy version.writer row.versions ⊎ HoldsAtLeast locks version.writer NoKeyUpdate)
      (λ version. version.writer ≢ other)
      (λ version held same. at version same (held (subst (λ x. Runs transactions x) (sym same) runs)))
      row.versions guarded.held
    where
      at : (version : Version) → version.writer ≡ other →
          IsFirstBy version.writer row.versions ⊎ HoldsAtLeast locks version.writer NoKeyUpdate → ⊥
      at version same (inl first) =
          let none = free_other transactions locks row.versions other xact guarded.free
          (subst (λ x. IsFirstBy x row.versions) same first) runs (λ e. apart (sym e)) in
          let e : None ≡ Some holds.0 = sym none ∙ holds.1 in cc e
      at version same (inr held) =
          let also : strongest_of locks other ≡ Some held.0 = ap (λ x. strongest_of locks x) (sym same) ∙ held.1 in
          let none = guarded.compatible xact other holds.0 held.0 (λ e. apart (sym e)) holds.1 also in
          let e : false ≡ true = sym none ∙ change_conflicts holds.0 held.0 holds.2 held.2 in cc e

  -- nor where the row has a current version for it, and it has to wait for nobody
  pub no_other_current : (xact other : ℕ) (strength : Strength) (version : Version) → rank_of NoKeyUpdate ≤ rank_of strength →
      current transactions xact row ≡ Some version → blocker locks xact strength ≡ None → Runs transactions other → other ≢ xact →
      Each (λ version. version.writer ≢ other) row.versions
  no_other_current xact other strength version strong is none runs apart =
      each_map
      (λ version. Runs transactions version.writer → IsFirstBy version.writer row.versions ⊎ HoldsAtLeast locks version.writer NoKeyUpdate)
      (λ version. version.writer ≢ other)
      (λ version held same. at version same (held (subst (λ x. Runs transactions x) (sym same) runs)))
      row.versions guarded.held
    where
      hidden : IsFirstBy other row.versions → filter (λ version. not (is_running_beside transactions xact version.writer)) row.versions ≡ []
      hidden first =
          none_passing (λ version. not (is_running_beside transactions xact version.writer)) row.versions
          (each_map (λ version. version.writer ≡ other) (λ version. not (is_running_beside transactions xact version.writer) ≡ false)
          (λ version same. rw same (ap not (beside_runs transactions xact other runs apart))) row.versions
          (all_first other row.versions (guarded.behind other runs) first))

      at : (one : Version) → one.writer ≡ other →
          IsFirstBy one.writer row.versions ⊎ HoldsAtLeast locks one.writer NoKeyUpdate → ⊥
      at one same (inl first) =
          let e : None ≡ Some version =
          sym (ap (λ vs. last_or None vs) (hidden (subst (λ x. IsFirstBy x row.versions) same first))) ∙ is in
          cc e
      at one same (inr held) =
          let also : strongest_of locks other ≡ Some held.0 = ap (λ x. strongest_of locks x) (sym same) ∙ held.1 in
          let free = free_of locks xact other strength held.0 none apart also in
          let e : false ≡ true = sym free ∙ change_conflicts strength held.0 strong held.2 in cc e

  -- so what is current for it is the newest
  pub newest_current : (xact : ℕ) (strength : Strength) (version : Version) → rank_of NoKeyUpdate ≤ rank_of strength →
      current transactions xact row ≡ Some version → blocker locks xact strength ≡ None → newest row ≡ Some version
  newest_current xact strength version strong is none = at (newest row) refl
    where
      empty : (versions : List Version) → last_or None versions ≡ None → filter (λ version. not (is_running_beside transactions xact version.writer)) versions ≡ []
      empty [] none = refl
      empty (one ∷ versions) none = absurd (some versions one none)
        where
          some : (versions : List Version) (one : Version) → last_or (Some one) versions ≡ None → ⊥
          some [] one none = cc none
          some (next ∷ versions) one none = some versions next none

      last : (one : Version) → newest row ≡ Some one → (b : Bool) → is_running_beside transactions xact one.writer ≡ b →
          newest row ≡ Some version
      last one one_is true beside =
          let runs = beside_is transactions xact one.writer beside in
          absurd (last_each (λ version. version.writer ≢ one.writer) row.versions None one
          (no_other_current xact one.writer strength version strong is none runs.0 runs.1) one_is (λ e. absurd (cc e)) refl)
      last one one_is false beside =
          let now : current transactions xact row ≡ Some one =
          last_kept (λ version. not (is_running_beside transactions xact version.writer)) row.versions None None one one_is
          (ap not beside) (λ e. e) in
          one_is ∙ (sym now ∙ is)

      at : (o : Option Version) → newest row ≡ o → newest row ≡ Some version
      at None none_is =
          let e : None ≡ Some version = sym (ap (λ vs. last_or None vs) (empty row.versions none_is)) ∙ is in absurd (cc e)
      at (Some one) one_is = last one one_is (is_running_beside transactions xact one.writer) refl

  -- a lock that waits for nobody, on a row that is there
  pub guarded_locked : (xact : ℕ) (strength : Strength) (version : Version) → rank_of NoKeyUpdate ≤ rank_of strength →
      Runs transactions xact → current transactions xact row ≡ Some version → blocker locks xact strength ≡ None →
      IsGuarded transactions number row (lock_joined locks xact strength)
  guarded_locked xact strength version strong runs is none = record {
    numbered = guarded.numbered;
    ascending = ascend_joined 0 locks xact strength (omega arith) guarded.ascending;
    compatible = joined_compatible locks xact strength guarded.compatible none;
    running = λ other held holds. running other held holds (cases_eq other xact);
    written = guarded.written;
    rising = guarded.rising;
    behind = guarded.behind;
    held = each_map
        (λ one. Runs transactions one.writer → IsFirstBy one.writer row.versions ⊎ HoldsAtLeast locks one.writer NoKeyUpdate)
        (λ one. Runs transactions one.writer → IsFirstBy one.writer row.versions ⊎ HoldsAtLeast (lock_joined locks xact strength) one.writer NoKeyUpdate)
        (λ one held own. held_on one (held own)) row.versions guarded.held;
    free = free row.versions refl guarded.free;
  }
    where
      running : (other : ℕ) (held : Strength) → strongest_of (lock_joined locks xact strength) other ≡ Some held →
          (other ≡ xact) ⊎ (other ≡ xact → ⊥) → Runs transactions other
      running other held holds (inl same) = subst (λ x. Runs transactions x) (sym same) runs
      running other held holds (inr apart) = guarded.running other held (sym (joined_other locks xact other strength apart) ∙ holds)

      held_on : (one : Version) → IsFirstBy one.writer row.versions ⊎ HoldsAtLeast locks one.writer NoKeyUpdate →
          IsFirstBy one.writer row.versions ⊎ HoldsAtLeast (lock_joined locks xact strength) one.writer NoKeyUpdate
      held_on one (inl first) = inl first
      held_on one (inr holds) = inr (holds_joined locks xact one.writer NoKeyUpdate strength holds)

      free : (versions : List Version) → row.versions ≡ versions → IsFree transactions locks versions →
          IsFree transactions (lock_joined locks xact strength) versions
      free [] same was =
          absurd (let e : None ≡ Some version =
          sym (ap (λ vs. last_or None (filter (λ version. not (is_running_beside transactions xact version.writer)) vs)) same) ∙ is in cc e)
      free (one ∷ later) same was = λ by other apart. at by other apart (cases_eq one.writer xact)
        where
          at : Runs transactions one.writer → (other : ℕ) → other ≢ one.writer → (one.writer ≡ xact) ⊎ (one.writer ≡ xact → ⊥) →
              strongest_of (lock_joined locks xact strength) other ≡ None
          at by other apart (inl own) = joined_other locks xact other strength (λ e. apart (e ∙ sym own)) ∙ was by other apart
          at by other apart (inr distinct) =
              let never = no_other_current xact one.writer strength version strong is none by distinct in
              let first = subst (λ vs. Each (λ version. version.writer ≢ one.writer) vs) same never in
              absurd (first.0 refl)

  -- a version by a transaction that runs, where no other that runs has changed the row
  pub guarded_stored : (version : Version) → Runs transactions version.writer →
      ((other : ℕ) → Runs transactions other → other ≢ version.writer → Each (λ one. one.writer ≢ other) row.versions) →
      Each (λ one. version.writer ≡ one.writer → one.command < version.command) row.versions →
      IsFirstBy version.writer (row.versions ++ version ∷ []) ⊎ HoldsAtLeast locks version.writer NoKeyUpdate →
      IsGuarded transactions number (with_version version row) locks
  guarded_stored version runs others early holds = record {
    numbered = guarded.numbered;
    ascending = guarded.ascending;
    compatible = guarded.compatible;
    running = guarded.running;
    written = each_more (λ one. RunsOrCommitted transactions one.writer) row.versions version guarded.written (inl runs);
    rising = rising_more row.versions version guarded.rising early;
    behind = λ xact by. behind xact by (cases_eq xact version.writer);
    held = each_more
        (λ one. Runs transactions one.writer → IsFirstBy one.writer (row.versions ++ version ∷ []) ⊎ HoldsAtLeast locks one.writer NoKeyUpdate)
        row.versions version
        (each_map
        (λ one. Runs transactions one.writer → IsFirstBy one.writer row.versions ⊎ HoldsAtLeast locks one.writer NoKeyUpdate)
        (λ one. Runs transactions one.writer → IsFirstBy one.writer (row.versions ++ version ∷ []) ⊎ HoldsAtLeast locks one.writer NoKeyUpdate)
        (λ one held own. held_on one (held own)) row.versions guarded.held)
        (λ own. holds);
    free = free row.versions guarded.free;
  }
    where
      behind : (xact : ℕ) → Runs transactions xact → (xact ≡ version.writer) ⊎ (xact ≡ version.writer → ⊥) →
          StandBehind xact (row.versions ++ version ∷ [])
      behind xact by (inl same) = behind_more xact row.versions version (guarded.behind xact by) (sym same)
      behind xact by (inr apart) =
          behind_none xact (row.versions ++ version ∷ [])
          (each_more (λ one. one.writer ≢ xact) row.versions version (others xact by apart) (λ e. apart (sym e)))

      held_on : (one : Version) → IsFirstBy one.writer row.versions ⊎ HoldsAtLeast locks one.writer NoKeyUpdate →
          IsFirstBy one.writer (row.versions ++ version ∷ []) ⊎ HoldsAtLeast locks one.writer NoKeyUpdate
      held_on one (inl first) = inl (first_more one.writer row.versions version first)
      held_on one (inr held) = inr held

      free : (versions : List Version) → IsFree transactions locks versions → IsFree transactions locks (versions ++ version ∷ [])
      free [] was = λ by other apart. was other
      free (one ∷ later) was = was

  -- a transaction that begins
  pub guarded_begun : (by : ℕ) → IsGuarded (transaction_begun transactions by) number row locks
  guarded_begun by = record {
    numbered = guarded.numbered;
    ascending = guarded.ascending;
    compatible = guarded.compatible;
    running = λ xact held holds. running_begun transactions by xact _ (guarded.running xact held holds);
    written = each_map (λ one. RunsOrCommitted transactions one.writer) (λ one. RunsOrCommitted (transaction_begun transactions by) one.writer)
        (λ one is. committed_begun transactions by one.writer is) row.versions guarded.written;
    rising = guarded.rising;
    behind = λ xact also. behind xact (run_or_none transactions by xact also);
    held = each_two (λ one. RunsOrCommitted transactions one.writer)
        (λ one. Runs transactions one.writer → IsFirstBy one.writer row.versions ⊎ HoldsAtLeast locks one.writer NoKeyUpdate)
        (λ one. Runs (transaction_begun transactions by) one.writer → IsFirstBy one.writer row.versions ⊎ HoldsAtLeast locks one.writer NoKeyUpdate)
        (λ one is held also. held (ran_begun transactions by one.writer is also)) row.versions guarded.written guarded.held;
    free = free row.versions guarded.written guarded.free;
  }
    where
      behind : (xact : ℕ) → Runs transactions xact ⊎ (status_of transactions xact ≡ None) → StandBehind xact row.versions
      behind xact (inl runs) = guarded.behind xact runs
      behind xact (inr none) =
          behind_none xact row.versions
          (each_map (λ one. RunsOrCommitted transactions one.writer) (λ one. one.writer ≢ xact)
          (λ one is same. never_begun transactions xact none (subst (λ x. RunsOrCommitted transactions x) same is)) row.versions guarded.written)

      free : (versions : List Version) → Each (λ one. RunsOrCommitted transactions one.writer) versions →
          IsFree transactions locks versions → IsFree (transaction_begun transactions by) locks versions
      free [] written was = was
      free (one ∷ later) written was =
          λ also other apart. was (ran_begun transactions by one.writer written.0 also) other apart

  -- the end of a transaction that runs
  module _ (xact : ℕ) (runs : Runs transactions xact) where
    left_none : (other : ℕ) → (other ≢ xact → strongest_of locks other ≡ None) → strongest_of (locks_left locks xact) other ≡ None
    left_none other none = at (cases_eq other xact)
      where
        at : (other ≡ xact) ⊎ (other ≡ xact → ⊥) → strongest_of (locks_left locks xact) other ≡ None
        at (inl same) = ap (λ x. strongest_of (locks_left locks xact) x) same ∙ left_own locks xact
        at (inr apart) = left_other locks xact other apart ∙ none apart

    running_left : (end : TransactionEnd) (other : ℕ) (held : Strength) → strongest_of (locks_left locks xact) other ≡ Some held →
        Runs (transactions_after_end transactions xact end) other
    running_left end other held holds = at (cases_eq other xact)
      where
        at : (other ≡ xact) ⊎ (other ≡ xact → ⊥) → Runs (transactions_after_end transactions xact end) other
        at (inl same) =
            let none = ap (λ x. strongest_of (locks_left locks xact) x) same ∙ left_own locks xact in
            let e : None ≡ Some held = sym none ∙ holds in absurd (cc e)
        at (inr apart) =
            run_ended transactions xact runs end other apart
            (guarded.running other held (sym (left_other locks xact other apart) ∙ holds))

    -- what was free is free
    free_left : (end : TransactionEnd) (versions : List Version) → IsFree transactions locks versions →
        IsFree (transactions_after_end transactions xact end) (locks_left locks xact) versions
    free_left end [] free = λ other. left_none other (λ apart. free other)
    free_left end (one ∷ later) free =
        λ also other apart. left_none other (λ distinct. free (ran_ended transactions xact runs end one.writer also) other apart)

    held_left : (end : TransactionEnd) (versions behind : List Version) →
        ((other : ℕ) → other ≢ xact → IsFirstBy other versions → IsFirstBy other behind) → (one : Version) →
        (Runs transactions one.writer → IsFirstBy one.writer versions ⊎ HoldsAtLeast locks one.writer NoKeyUpdate) →
        Runs (transactions_after_end transactions xact end) one.writer →
        IsFirstBy one.writer behind ⊎ HoldsAtLeast (locks_left locks xact) one.writer NoKeyUpdate
    held_left end versions behind firsts one held also = at (held (ran_ended transactions xact runs end one.writer also))
      where
        apart : one.writer ≢ xact
        apart = another_ended transactions xact runs end one.writer also

        at : IsFirstBy one.writer versions ⊎ HoldsAtLeast locks one.writer NoKeyUpdate →
            IsFirstBy one.writer behind ⊎ HoldsAtLeast (locks_left locks xact) one.writer NoKeyUpdate
        at (inl first) = inl (firsts one.writer apart first)
        at (inr holds) = inr (holds_left locks xact one.writer NoKeyUpdate apart holds)

    pub guarded_committed : IsGuarded (transactions_after_end transactions xact commit) number row (locks_left locks xact)
    guarded_committed = record {
      numbered = guarded.numbered;
      ascending = ascend_filter _ 0 locks guarded.ascending;
      compatible = left_compatible locks xact guarded.compatible;
      running = λ other held holds. running_left commit other held holds;
      written = each_map (λ one. RunsOrCommitted transactions one.writer)
          (λ one. RunsOrCommitted (transactions_after_end transactions xact commit) one.writer)
          (λ one is. written one is (cases_eq one.writer xact)) row.versions guarded.written;
      rising = guarded.rising;
      behind = λ other also. guarded.behind other (ran_ended transactions xact runs commit other also);
      held = each_map
          (λ one. Runs transactions one.writer → IsFirstBy one.writer row.versions ⊎ HoldsAtLeast locks one.writer NoKeyUpdate)
          (λ one. Runs (transactions_after_end transactions xact commit) one.writer →
          IsFirstBy one.writer row.versions ⊎ HoldsAtLeast (locks_left locks xact) one.writer NoKeyUpdate)
          (λ one held also. held_left commit row.versions row.versions (λ other apart first. first) one held also) row.versions guarded.held;
      free = free_left commit row.versions guarded.free;
    }
      where
        written : (one : Version) → RunsOrCommitted transactions one.writer → (one.writer ≡ xact) ⊎ (one.writer ≡ xact → ⊥) →
            RunsOrCommitted (transactions_after_end transactions xact commit) one.writer
        written one is (inl same) =
            subst (λ x. RunsOrCommitted (transactions_after_end transactions xact commit) x) (sym same) (committed_own transactions xact runs)
        written one is (inr apart) = committed_ended transactions xact runs commit one.writer apart is

    pub guarded_rolled_back : IsGuarded (transactions_after_end transactions xact rollback) number (row_without xact row) (locks_left locks xact)
    guarded_rolled_back = record {
      numbered = guarded.numbered;
      ascending = ascend_filter _ 0 locks guarded.ascending;
      compatible = left_compatible locks xact guarded.compatible;
      running = λ other held holds. running_left rollback other held holds;
      written = each_two (λ one. RunsOrCommitted transactions one.writer) (λ one. one.writer ≢ xact)
          (λ one. RunsOrCommitted (transactions_after_end transactions xact rollback) one.writer)
          (λ one is apart. committed_ended transactions xact runs rollback one.writer apart is) behind
          (each_filter (λ one. RunsOrCommitted transactions one.writer) others row.versions guarded.written)
          (each_passing (λ one. one.writer ≢ xact) others (λ one is. others_left one xact is) row.versions);
      rising = rising_filter others row.versions guarded.rising;
      behind = λ other also.
          behind_filter other others row.versions (guarded.behind other (ran_ended transactions xact runs rollback other also));
      held = each_map
          (λ one. Runs transactions one.writer → IsFirstBy one.writer row.versions ⊎ HoldsAtLeast locks one.writer NoKeyUpdate)
          (λ one. Runs (transactions_after_end transactions xact rollback) one.writer →
          IsFirstBy one.writer behind ⊎ HoldsAtLeast (locks_left locks xact) one.writer NoKeyUpdate)
          (λ one held also. held_left rollback row.versions behind (λ other apart first. first_left other xact row.versions apart first) one held also)
          behind
          (each_filter (λ one. Runs transactions one.writer → IsFirstBy one.writer row.versions ⊎ HoldsAtLeast locks one.writer NoKeyUpdate)
          others row.versions guarded.held);
      free = free row.versions (guarded.behind xact runs) guarded.free;
    }
      where
        others : Version → Bool
        others one = not (is_written_by xact one)

        behind : List Version
        behind = filter others row.versions

        free : (versions : List Version) → StandBehind xact versions → IsFree transactions locks versions →
            IsFree (transactions_after_end transactions xact rollback) (locks_left locks xact) (filter others versions)
        free [] stand was = λ other. left_none other (λ apart. was other)
        free (one ∷ later) stand was = at (is_written_by xact one) refl
          where
            at : (b : Bool) → is_written_by xact one ≡ b →
                IsFree (transactions_after_end transactions xact rollback) (locks_left locks xact) (filter others (one ∷ later))
            at true own =
                let same : one.writer ≡ xact = eqb-true one.writer xact own in
                let none = none_passing others later
                (each_map (λ later. later.writer ≡ xact) (λ later. others later ≡ false) (λ later e. rw (eq-eqb later.writer xact e) refl) later (stand.0 same)) in
                rw (own, none) (λ other. left_none other (λ apart.
                was (subst (λ x. Runs transactions x) (sym same) runs) other (λ e. apart (e ∙ same))))
            at false other =
                rw other (λ also by apart. left_none by (λ distinct.
                was (ran_ended transactions xact runs rollback one.writer also) by apart))
