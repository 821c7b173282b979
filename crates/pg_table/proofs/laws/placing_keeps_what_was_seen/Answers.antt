use Rattle.pg_table.proofs.Steady.{placing_kept}
use Rattle.pg_table.proofs.laws.placing_keeps_what_was_seen.Goals as goal

pub returns : goal.returns
returns c = placing_kept
