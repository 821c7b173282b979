use Rattle.pg_table.proofs.Staged.{staged_erased}
use Rattle.pg_table.proofs.drafts.erasing_keeps_what_is_staged.Goals as goal

pub returns : goal.returns
returns c = staged_erased
