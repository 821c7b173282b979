use Rattle.pg_scans.proofs.Kept.{writing_keeps}
use Rattle.pg_scans.proofs.laws.writing_keeps_readings.Goals as goal

pub returns : goal.returns
returns c = writing_keeps
