use Rattle.pg_table.proofs.Shown.{placed_shown}
use Rattle.pg_table.proofs.laws.placed_row_is_placed.Goals as goal

pub returns : goal.returns
returns c = placed_shown
