use Rattle.pg_scans.proofs.Kept.{beginning_keeps}
use Rattle.pg_scans.proofs.laws.beginning_keeps_readings.Goals as goal

pub returns : goal.returns
returns c = beginning_keeps
