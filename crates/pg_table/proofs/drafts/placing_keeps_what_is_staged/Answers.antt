use Rattle.pg_table.proofs.Staged.{staged_placed}
use Rattle.pg_table.proofs.drafts.placing_keeps_what_is_staged.Goals as goal

pub returns : goal.returns
returns c = staged_placed
