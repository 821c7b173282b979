use Rattle.pg_xacts.proofs.Snapshots.{taken_rolled_back}
use Rattle.pg_xacts.proofs.laws.rolled_back_transaction_keeps_snapshots.Goals as goal

pub returns : goal.returns
returns c = taken_rolled_back
