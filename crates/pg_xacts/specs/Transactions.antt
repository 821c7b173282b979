-- The transactions of a world: who began each, how it stands, and its place in the commit order.
use Rattle.std.specs.Prelude.{ℕ, zero, suc, ◌≡◌, ◌+◌, ◌≤◌, ◌&&◌, Bool, true, false, not, nat_eq, nat_le, List, [], ◌∷◌, ◌++◌, length, Option, None, Some, option_map}
use Rattle.std.specs.Option.{option_map_or}
use Rattle.pg_xacts.specs.declared.transaction.Transaction.{Transaction}
use Rattle.pg_xacts.specs.declared.transaction.XStatus.{XStatus}
use Rattle.pg_xacts.specs.declared.transaction.XStatus.TheVariants.{Running, Committed, RolledBack}
use Rattle.pg_lists.specs.Numbered.{with_changed_nth_item, item_at}

-- the transactions in order of their numbers, from 1, and how many have committed
pub record Transactions : Type 0 where
  pub list : List Transaction
  pub commits : ℕ

-- no transaction was begun
abbrev pub no_transactions : Transactions
no_transactions = record { list = []; commits = 0 }

-- the number of the transaction that is begun next
abbrev pub next_number : Transactions → ℕ
next_number transactions = length transactions.list + 1

-- the status of the transaction of that number, if it was begun; transaction 0 is setup, which has
-- committed at place 0, before all others
abbrev pub status_of : Transactions → ℕ → Option XStatus
status_of transactions zero = Some (Committed 0)
status_of transactions (suc before) =
    option_map (λ transaction. transaction.status) (item_at transactions.list before)

-- the session that began the transaction of that number
abbrev pub beginner_of : Transactions → ℕ → Option ℕ
beginner_of transactions zero = None
beginner_of transactions (suc before) =
    option_map (λ transaction. transaction.session) (item_at transactions.list before)

-- the place in the commit order that a status gives, if it gives one
abbrev pub place_of_status : XStatus → Option ℕ
place_of_status (Committed place) = Some place
place_of_status Running = None
place_of_status RolledBack = None

-- whether a status says that the transaction has not ended
abbrev pub is_running_status : XStatus → Bool
is_running_status Running = true
is_running_status (Committed place) = false
is_running_status RolledBack = false

-- whether a status says that the transaction has committed among the first commits, so many
abbrev pub is_status_among : ℕ → XStatus → Bool
is_status_among commits status =
    option_map_or (λ place. nat_le place commits) (place_of_status status) false

-- the place of a transaction in the commit order, if it has committed
abbrev pub commit_place : Transactions → ℕ → Option ℕ
commit_place transactions number =
    option_map_or place_of_status (status_of transactions number) None

-- whether a transaction has committed
abbrev pub is_committed : Transactions → ℕ → Bool
is_committed transactions number =
    option_map_or (λ place. true) (commit_place transactions number) false

-- whether a transaction is among the first commits, so many
abbrev pub is_among_commits : Transactions → ℕ → ℕ → Bool
is_among_commits transactions commits number =
    option_map_or (is_status_among commits) (status_of transactions number) false

-- whether a transaction was begun and has not ended
abbrev pub is_running : Transactions → ℕ → Bool
is_running transactions number =
    option_map_or is_running_status (status_of transactions number) false

-- whether a transaction runs that is not that of `xact`
abbrev pub is_running_beside : Transactions → ℕ → ℕ → Bool
is_running_beside transactions xact number =
    not (nat_eq number xact) && is_running transactions number

-- a transaction is begun by the session, and gets the next number
abbrev pub transaction_begun : Transactions → ℕ → Transactions
transaction_begun transactions by =
    record transactions {
      list = transactions.list ++ record { session = by; status = Running } ∷ [];
    }

-- the transactions, where the one of that number stands as given
abbrev pub with_status : Transactions → ℕ → XStatus → Transactions
with_status transactions number status =
    record transactions {
      list =
          with_changed_nth_item (λ transaction. record transaction { status = status })
          transactions.list number;
    }

-- the transaction of that number takes the next place in the commit order
abbrev pub transaction_committed : Transactions → ℕ → Transactions
transaction_committed transactions number =
    record (with_status transactions number (Committed (transactions.commits + 1))) {
      commits = transactions.commits + 1;
    }

-- the transaction of that number is rolled back
abbrev pub transaction_rolled_back : Transactions → ℕ → Transactions
transaction_rolled_back transactions number = with_status transactions number RolledBack

-- each committed transaction has a place among the commits so far
abbrev pub ArePlaced : Transactions → Type 0
ArePlaced transactions =
    (number place : ℕ) → status_of transactions number ≡ Some (Committed place) →
    place ≤ transactions.commits
