use Rattle.pg_table.proofs.Staged.{no_draft}
use Rattle.pg_table.proofs.drafts.rows_without_drafts_are_free.Goals as goal

pub returns : goal.returns
returns c = no_draft
