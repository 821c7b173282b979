-- The row that another statement holds, and what its transaction has written: each part of an entry's
-- effect leaves them.
use Rattle.std.proofs.Common.{◌≡◌, ◌≢◌, ◌<◌, ◌≤◌, ◌⊎◌, ℕ, Bool, true, false, not, List, Some, None, refl, sym, ap, ◌∙◌, inl, inr, arith, eq-eqb, ne_eqb}
use Rattle.std.proofs.lemmas.Bool.{cases_eq, cases_order}
use Rattle.pg_multi.specs.declared.row_lock.RowLock.{RowLock}
use Rattle.pg_multi.specs.declared.strength.Strength.{Strength}
use Rattle.pg_multi.specs.declared.strength.Strength.TheVariants.{NoKeyUpdate}
use Rattle.pg_multi.specs.Locks.{lock_joined, locks_left}
use Rattle.pg_multi.specs.Strengths.{rank_of}
use Rattle.pg_xacts.specs.declared.me.Me.{Me}
use Rattle.pg_xacts.specs.declared.transaction.XStatus.TheVariants.{Running as IsRunning, Committed}
use Rattle.pg_xacts.specs.Transactions.{Transactions, is_running_beside, status_of, transaction_begun}
use Rattle.pg_heap.specs.declared.row.Row.{Row}
use Rattle.pg_heap.specs.declared.version.Version.{Version}
use Rattle.pg_heap.specs.Current.{current, newest}
use Rattle.pg_heap.specs.Rows.{is_written_by}
use Rattle.pg_model.specs.declared.statement.Action.{Action}
use Rattle.pg_model.specs.declared.statement.Action.TheVariants as action
use Rattle.pg_world.specs.Changes.{change_strength, is_of_command}
use Rattle.pg_world.specs.declared.session.VersionName.{VersionName}
use Rattle.pg_world.specs.Tables.{TransactionEnd, commit, rollback}
use Rattle.pg_world.specs.Worlds.{transactions_after_end}
use Rattle.pg_relation.specs.Locking.{Each, HoldsAtLeast, IsGuarded, IsHeldRow, Runs, RunsOrCommitted, WroteWithin}
use Rattle.pg_relation.proofs.Ends.{beside_same, not_beside, status_other}
use Rattle.pg_relation.proofs.Holders.{change_conflicts, holds_joined, holds_left}
use Rattle.pg_relation.proofs.Owners.{running_begun}
use Rattle.pg_relation.proofs.RowSteps.{row_ended}
use Rattle.pg_relation.proofs.Versions.{behind_other, each_map, last_each, last_kept, last_passes, newest_highest}

-- an UPDATE or DELETE locks strongly enough to change the row
pub change_rank : (action : Action) → rank_of NoKeyUpdate ≤ rank_of (change_strength action)
change_rank (action.Set assignments) = omega arith
change_rank action.Delete = omega arith

pub holds_change : (locks : List RowLock) (xact : ℕ) (action : Action) → HoldsAtLeast locks xact (change_strength action) →
    HoldsAtLeast locks xact NoKeyUpdate
holds_change locks xact action holds =
    (holds.0, holds.1, let a = change_rank action in let b = holds.2 in omega (arith, a, b))

-- what a command wrote
pub of_command : (me : Me) (version : Version) → is_of_command me (Some version) ≡ false → version.writer ≡ me.xact →
    version.command ≢ me.command
of_command me version earlier own same =
    let e : true ≡ false = rw (eq-eqb version.writer me.xact own, eq-eqb version.command me.command same) at earlier in
    cc e

-- a version that is current is not of another that runs
pub current_alone : (transactions : Transactions) (xact : ℕ) (row : Row) (version : Version) → current transactions xact row ≡ Some version →
    is_running_beside transactions xact version.writer ≡ false
current_alone transactions xact row version is =
    at (is_running_beside transactions xact version.writer) refl
    (last_passes (λ version. not (is_running_beside transactions xact version.writer)) row.versions None version is (λ e. absurd (cc e)))
  where
    at : (b : Bool) → is_running_beside transactions xact version.writer ≡ b →
        not (is_running_beside transactions xact version.writer) ≡ true → is_running_beside transactions xact version.writer ≡ false
    at false is passes = is
    at true is passes = absurd (let e : false ≡ true = rw is at passes in cc e)

-- and the newest, where it is not, is current
pub alone_current : (transactions : Transactions) (xact : ℕ) (row : Row) (version : Version) → newest row ≡ Some version →
    is_running_beside transactions xact version.writer ≡ false → current transactions xact row ≡ Some version
alone_current transactions xact row version is alone =
    last_kept (λ version. not (is_running_beside transactions xact version.writer)) row.versions None None version is
    (ap not alone) (λ e. e)

module _ (transactions : Transactions) (me : Me) (action : Action) (name : VersionName) (number : ℕ) (row : Row) (locks : List RowLock)
    (guarded : IsGuarded transactions number row locks) (held : IsHeldRow transactions me action name number row locks) where
  written : RunsOrCommitted transactions held.version.writer
  written =
      last_each (λ version. RunsOrCommitted transactions version.writer) row.versions None held.version guarded.written held.newest_is
      (λ e. absurd (cc e))

  -- another begins a transaction
  pub held_begun : (by : ℕ) → IsHeldRow (transaction_begun transactions by) me action name number row locks
  held_begun by = record {
    number_is = held.number_is;
    holds = held.holds;
    version = held.version;
    newest_is = held.newest_is;
    current_is = alone_current (transaction_begun transactions by) me.xact row held.version held.newest_is
        (beside_same transactions (transaction_begun transactions by) me.xact held.version.writer (same written)
        ∙ current_alone transactions me.xact row held.version held.current_is);
    name_is = held.name_is;
    there = held.there;
    earlier = held.earlier;
  }
    where
      same : RunsOrCommitted transactions held.version.writer →
          status_of (transaction_begun transactions by) held.version.writer ≡ status_of transactions held.version.writer
      same (inl runs) = running_begun transactions by held.version.writer IsRunning runs ∙ sym runs
      same (inr is) = running_begun transactions by held.version.writer (Committed is.0) is.1 ∙ sym is.1

  -- locks a row
  pub held_locked : (xact : ℕ) (strength : Strength) → IsHeldRow transactions me action name number row (lock_joined locks xact strength)
  held_locked xact strength = record {
    number_is = held.number_is;
    holds = holds_joined locks xact me.xact (change_strength action) strength held.holds;
    version = held.version;
    newest_is = held.newest_is;
    current_is = held.current_is;
    name_is = held.name_is;
    there = held.there;
    earlier = held.earlier;
  }

  -- or ends its transaction
  module _ (xact : ℕ) (runs : Runs transactions xact) (apart : xact ≢ me.xact) where
    other : held.version.writer ≢ xact
    other =
        not_beside transactions me.xact held.version.writer xact runs apart
        (current_alone transactions me.xact row held.version held.current_is)

    newest_left : (end : TransactionEnd) → newest (row_ended xact end row) ≡ Some held.version
    newest_left commit = held.newest_is
    newest_left rollback =
        last_kept (λ version. not (is_written_by xact version)) row.versions None None held.version held.newest_is
        (ap not (ne_eqb held.version.writer xact other)) (λ e. e)

    number_left : (end : TransactionEnd) → (row_ended xact end row).number ≡ number
    number_left commit = held.number_is
    number_left rollback = held.number_is

    pub held_ended : (end : TransactionEnd) →
        IsHeldRow (transactions_after_end transactions xact end) me action name number (row_ended xact end row) (locks_left locks xact)
    held_ended end = record {
      number_is = number_left end;
      holds = holds_left locks xact me.xact (change_strength action) (λ e. apart (sym e)) held.holds;
      version = held.version;
      newest_is = newest_left end;
      current_is = alone_current (transactions_after_end transactions xact end) me.xact (row_ended xact end row) held.version (newest_left end)
          (beside_same transactions (transactions_after_end transactions xact end) me.xact held.version.writer
          (status_other transactions xact runs end held.version.writer other)
          ∙ current_alone transactions me.xact row held.version held.current_is);
      name_is = held.name_is;
      there = held.there;
      earlier = held.earlier;
    }

  -- nobody else holds the row for a change
  pub held_alone : (xact : ℕ) → xact ≢ me.xact → HoldsAtLeast locks xact NoKeyUpdate → Runs transactions me.xact → ⊥
  held_alone xact apart holds runs = never (holds_change locks me.xact action held.holds)
    where
      never : HoldsAtLeast locks me.xact NoKeyUpdate → ⊥
      never mine =
          let none = guarded.compatible xact me.xact holds.0 mine.0 apart holds.1 mine.1 in
          let e : false ≡ true = sym none ∙ change_conflicts holds.0 mine.0 holds.2 mine.2 in cc e

  -- the command that holds the row has not changed it, and what its transaction wrote of it was written before
  pub written_before : Runs transactions me.xact → WroteWithin me.xact me.command row.versions →
      Each (λ one. me.xact ≡ one.writer → one.command < me.command) row.versions
  written_before runs within = at (cases_eq held.version.writer me.xact)
    where
      at : (held.version.writer ≡ me.xact) ⊎ (held.version.writer ≡ me.xact → ⊥) →
          Each (λ one. me.xact ≡ one.writer → one.command < me.command) row.versions
      at (inr apart) =
          each_map (λ one. one.writer ≢ me.xact) (λ one. me.xact ≡ one.writer → one.command < me.command)
          (λ one other e. absurd (other (sym e))) row.versions
          (behind_other me.xact row.versions None held.version (guarded.behind me.xact runs) held.newest_is apart)
      at (inl own) =
          each_map (λ one. one.writer ≡ held.version.writer → one.command ≤ held.version.command)
          (λ one. me.xact ≡ one.writer → one.command < me.command)
          (λ one most e. let m = most (sym e ∙ sym own) in omega (arith, m, below)) row.versions
          (newest_highest row.versions None held.version guarded.rising held.newest_is)
        where
          latest : held.version.command ≤ me.command
          latest =
              last_each (λ version. version.writer ≡ me.xact → version.command ≤ me.command) row.versions None held.version within held.newest_is
              (λ e. absurd (cc e)) own

          below : held.version.command < me.command
          below = lower latest (of_command me held.version held.earlier own)
            where
              lower : held.version.command ≤ me.command → (held.version.command ≢ me.command) → held.version.command < me.command
              lower le ne = at_most (cases_order held.version.command me.command)
                where
                  at_most : (held.version.command ≡ me.command)
                      ⊎ ((held.version.command < me.command) ⊎ (me.command < held.version.command)) →
                      held.version.command < me.command
                  at_most (inl same) = absurd (ne same)
                  at_most (inr (inl less)) = less
                  at_most (inr (inr more)) = absurd (omega (arith, le, more))
