use Rattle.pg_table.proofs.Steady.{rollbacks_kept}
use Rattle.pg_table.proofs.laws.rollbacks_keep_what_was_seen.Goals as goal

pub returns : goal.returns
returns c = rollbacks_kept
