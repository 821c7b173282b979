-- Snapshots: what a server keeps of one, and what it then says of a transaction.
use Rattle.std.specs.Prelude.{ℕ, ◌≡◌, ◌+◌, ◌≤◌, ◌&&◌, Bool, false, not, if◌then◌else◌, nat_eq, nat_le, nat_lt, List, [], ◌∷◌, Some}
use Rattle.std.specs.List.{list_any}
use Rattle.pg_xacts.specs.declared.transaction.Transaction.{Transaction}
use Rattle.pg_xacts.specs.declared.transaction.XStatus.TheVariants.{Running, Committed}
use Rattle.pg_xacts.specs.Transactions.{Transactions, is_running_status, next_number, status_of}

-- how many commits a snapshot sees, which transactions ran when it was taken, and the first number
-- that was not begun then
pub record SnapshotView : Type 0 where
  pub commits : ℕ
  pub running : List ℕ
  pub next : ℕ

-- the numbers of those that run, where the first has the number `first`
abbrev pub running_from : ℕ → List Transaction → List ℕ
running_from first [] = []
running_from first (transaction ∷ transactions) =
    if is_running_status transaction.status then first ∷ running_from (first + 1) transactions
    else running_from (first + 1) transactions

-- the numbers of the transactions that run, ascending
abbrev pub running_numbers : Transactions → List ℕ
running_numbers transactions = running_from 1 transactions.list

-- the snapshot that is taken now
abbrev pub snapshot_of : Transactions → SnapshotView
snapshot_of transactions =
    record {
      commits = transactions.commits;
      running = running_numbers transactions;
      next = next_number transactions;
    }

-- whether the transaction of that number had ended when the snapshot was taken, as it tells
abbrev pub had_ended : SnapshotView → ℕ → Bool
had_ended snapshot number =
    nat_lt number snapshot.next && not (list_any (nat_eq number) snapshot.running)

-- The snapshot was taken of these transactions, now or before some of them were begun or ended:
-- those that had ended then and have committed are the first commits, as many as it sees.
pub record WasTakenOf (transactions : Transactions) (snapshot : SnapshotView) : Type 0 where
  pub begun : snapshot.next ≤ next_number transactions
  pub commits : snapshot.commits ≤ transactions.commits
  pub committed : (number place : ℕ) → status_of transactions number ≡ Some (Committed place) →
      had_ended snapshot number ≡ nat_le place snapshot.commits
  pub running : (number : ℕ) → status_of transactions number ≡ Some Running →
      had_ended snapshot number ≡ false
