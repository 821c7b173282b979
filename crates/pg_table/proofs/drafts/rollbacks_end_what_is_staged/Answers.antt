use Rattle.pg_table.proofs.Staged.{staged_undone}
use Rattle.pg_table.proofs.drafts.rollbacks_end_what_is_staged.Goals as goal

pub returns : goal.returns
returns c = staged_undone
