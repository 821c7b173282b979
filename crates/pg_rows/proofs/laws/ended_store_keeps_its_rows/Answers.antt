use Rattle.pg_rows.proofs.Rows.{rows_ended}
use Rattle.pg_rows.proofs.laws.ended_store_keeps_its_rows.Goals as goal

pub returns : goal.returns
returns c = rows_ended
