use Rattle.pg_table.proofs.Gone.{ended_shown}
use Rattle.pg_table.proofs.laws.committed_transaction_has_ended.Goals as goal

pub returns : goal.returns
returns c = ended_shown
