use Rattle.pg_table.proofs.Steady.{staging_kept}
use Rattle.pg_table.proofs.laws.staging_keeps_what_was_seen.Goals as goal

pub returns : goal.returns
returns c = staging_kept
