use Rattle.pg_table.proofs.Steady.{commits_kept}
use Rattle.pg_table.proofs.laws.commits_keep_what_was_seen.Goals as goal

pub returns : goal.returns
returns c = commits_kept
