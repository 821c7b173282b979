use Rattle.pg_scans.proofs.Kept.{placing_keeps}
use Rattle.pg_scans.proofs.laws.placing_keeps_readings.Goals as goal

pub returns : goal.returns
returns c = placing_keeps
