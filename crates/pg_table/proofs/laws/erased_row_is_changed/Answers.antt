use Rattle.pg_table.proofs.Changed.{erased_shown}
use Rattle.pg_table.proofs.laws.erased_row_is_changed.Goals as goal

pub returns : goal.returns
returns c = erased_shown
