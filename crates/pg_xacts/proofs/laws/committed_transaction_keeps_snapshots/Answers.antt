use Rattle.pg_xacts.proofs.Snapshots.{taken_committed}
use Rattle.pg_xacts.proofs.laws.committed_transaction_keeps_snapshots.Goals as goal

pub returns : goal.returns
returns c = taken_committed
