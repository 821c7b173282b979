use Rattle.pg_rows.proofs.Rows.{rows_attached_at}
use Rattle.pg_rows.proofs.laws.attached_draft_is_stored.Goals as goal

pub returns : goal.returns
returns c = rows_attached_at
