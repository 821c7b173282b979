use Rattle.pg_rows.proofs.Rows.{rows_placed}
use Rattle.pg_rows.proofs.laws.placed_row_is_drawn.Goals as goal

pub returns : goal.returns
returns c = λ store me values within. rows_placed store me values (λ number stored is. (within number stored is).1)
