use Rattle.pg_print.proofs.Entries.{one_entry}
use Rattle.pg_print.proofs.laws.one_entry_for_each_line.Goals as goal

pub returns : goal.returns
returns c = one_entry
