use Rattle.pg_table.proofs.Added.{added_shown}
use Rattle.pg_table.proofs.laws.added_row_is_added.Goals as goal

pub returns : goal.returns
returns c = added_shown
