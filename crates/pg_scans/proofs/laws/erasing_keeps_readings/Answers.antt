use Rattle.pg_scans.proofs.Kept.{erasing_keeps}
use Rattle.pg_scans.proofs.laws.erasing_keeps_readings.Goals as goal

pub returns : goal.returns
returns c = erasing_keeps
