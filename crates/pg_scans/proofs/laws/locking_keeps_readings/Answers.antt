use Rattle.pg_scans.proofs.Kept.{locking_keeps}
use Rattle.pg_scans.proofs.laws.locking_keeps_readings.Goals as goal

pub returns : goal.returns
returns c = locking_keeps
