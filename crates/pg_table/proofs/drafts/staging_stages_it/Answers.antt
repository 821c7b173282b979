use Rattle.pg_table.proofs.Staged.{staged_more}
use Rattle.pg_table.proofs.drafts.staging_stages_it.Goals as goal

pub returns : goal.returns
returns c = staged_more
