use Rattle.pg_table.proofs.Steady.{writing_kept}
use Rattle.pg_table.proofs.laws.writing_keeps_what_was_seen.Goals as goal

pub returns : goal.returns
returns c = writing_kept
