use Rattle.pg_world.proofs.Tables.{row_added_by_parts}
use Rattle.pg_world.proofs.laws.placed_row_is_added.Goals as goal

pub returns : goal.returns
returns c = row_added_by_parts
