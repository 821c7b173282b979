use Rattle.pg_table.proofs.Gone.{undone_shown}
use Rattle.pg_table.proofs.laws.rolled_back_transaction_has_ended.Goals as goal

pub returns : goal.returns
returns c = undone_shown
