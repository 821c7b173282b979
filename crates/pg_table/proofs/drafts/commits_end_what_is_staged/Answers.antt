use Rattle.pg_table.proofs.Staged.{staged_ended}
use Rattle.pg_table.proofs.drafts.commits_end_what_is_staged.Goals as goal

pub returns : goal.returns
returns c = staged_ended
