use Rattle.pg_xacts.proofs.Snapshots.{taken_begun}
use Rattle.pg_xacts.proofs.laws.begun_transaction_keeps_snapshots.Goals as goal

pub returns : goal.returns
returns c = taken_begun
