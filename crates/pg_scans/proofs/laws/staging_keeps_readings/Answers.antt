use Rattle.pg_scans.proofs.Kept.{staging_keeps}
use Rattle.pg_scans.proofs.laws.staging_keeps_readings.Goals as goal

pub returns : goal.returns
returns c = staging_keeps
