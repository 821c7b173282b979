use Rattle.pg_table.proofs.Scanned.{scanned_is}
use Rattle.pg_table.proofs.laws.scanned_rows_are_seen_rows.Goals as goal

pub returns : goal.returns
returns c = scanned_is
