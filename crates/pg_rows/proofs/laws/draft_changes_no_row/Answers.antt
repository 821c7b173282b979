use Rattle.pg_rows.proofs.Rows.{rows_drafted}
use Rattle.pg_rows.proofs.laws.draft_changes_no_row.Goals as goal

pub returns : goal.returns
returns c = rows_drafted
