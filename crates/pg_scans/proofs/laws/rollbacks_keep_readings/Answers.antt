use Rattle.pg_scans.proofs.Kept.{rollbacks_keep}
use Rattle.pg_scans.proofs.laws.rollbacks_keep_readings.Goals as goal

pub returns : goal.returns
returns c = rollbacks_keep
