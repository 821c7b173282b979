use Rattle.pg_scans.proofs.Bounds.{last_reading}
use Rattle.pg_scans.proofs.laws.read_tables_are_seen.Goals as goal

pub returns : goal.returns
returns c = last_reading
