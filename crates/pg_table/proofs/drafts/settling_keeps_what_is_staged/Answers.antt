use Rattle.pg_table.proofs.Staged.{staged_inserted}
use Rattle.pg_table.proofs.drafts.settling_keeps_what_is_staged.Goals as goal

pub returns : goal.returns
returns c = staged_inserted
