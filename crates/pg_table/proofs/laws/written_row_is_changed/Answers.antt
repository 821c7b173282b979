use Rattle.pg_table.proofs.Changed.{written_shown}
use Rattle.pg_table.proofs.laws.written_row_is_changed.Goals as goal

pub returns : goal.returns
returns c = written_shown
