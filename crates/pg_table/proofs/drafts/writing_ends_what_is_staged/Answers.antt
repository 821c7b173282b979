use Rattle.pg_table.proofs.Staged.{staged_written}
use Rattle.pg_table.proofs.drafts.writing_ends_what_is_staged.Goals as goal

pub returns : goal.returns
returns c = staged_written
