use Rattle.pg_table.proofs.Shown.{inserted_shown}
use Rattle.pg_table.proofs.laws.settled_row_is_inserted.Goals as goal

pub returns : goal.returns
returns c = λ state me row table mine. inserted_shown state me table row mine
