use Rattle.pg_scans.proofs.Kept.{settling_keeps}
use Rattle.pg_scans.proofs.laws.settling_keeps_readings.Goals as goal

pub returns : goal.returns
returns c = settling_keeps
