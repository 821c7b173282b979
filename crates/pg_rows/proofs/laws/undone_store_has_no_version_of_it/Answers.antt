use Rattle.pg_rows.proofs.Rows.{rows_undone}
use Rattle.pg_rows.proofs.laws.undone_store_has_no_version_of_it.Goals as goal

pub returns : goal.returns
returns c = rows_undone
