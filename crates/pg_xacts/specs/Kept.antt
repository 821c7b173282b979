-- What holds of the transactions and of the list of those that run.
use Rattle.std.specs.Prelude.{ℕ, ◌≡◌, ◌+◌, ◌<◌, ◌≤◌, ◌^◌, List, length}
use Rattle.pg_xacts.specs.Transactions.{Transactions, ArePlaced}
use Rattle.pg_xacts.specs.Snapshots.{running_numbers}

-- the numbers are those of the transactions that run, and each that has committed has a place among
-- the commits
pub record AreKept (transactions : Transactions) (numbers : List ℕ) : Type 0 where
  pub running : numbers ≡ running_numbers transactions
  pub placed : ArePlaced transactions
  pub counted : transactions.commits + length numbers ≤ length transactions.list
  pub bounded : length transactions.list < 2 ^ 32
