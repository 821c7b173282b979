use Rattle.pg_scans.proofs.Kept.{commits_keep}
use Rattle.pg_scans.proofs.laws.commits_keep_readings.Goals as goal

pub returns : goal.returns
returns c = commits_keep
