use Rattle.pg_scans.proofs.Bounds.{first_reading}
use Rattle.pg_scans.proofs.laws.new_reading_has_collected_nothing.Goals as goal

pub returns : goal.returns
returns c = first_reading
