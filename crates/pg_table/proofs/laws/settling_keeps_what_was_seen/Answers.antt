use Rattle.pg_table.proofs.Steady.{settling_kept}
use Rattle.pg_table.proofs.laws.settling_keeps_what_was_seen.Goals as goal

pub returns : goal.returns
returns c = settling_kept
