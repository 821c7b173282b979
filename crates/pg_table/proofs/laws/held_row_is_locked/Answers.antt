use Rattle.pg_table.proofs.Changed.{held_shown}
use Rattle.pg_table.proofs.laws.held_row_is_locked.Goals as goal

pub returns : goal.returns
returns c = held_shown
