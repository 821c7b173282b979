use Rattle.std.proofs.Common.{refl}
use Rattle.pg_table.proofs.laws.locking_keeps_what_was_seen.Goals as goal

pub returns : goal.returns
returns c = λ transactions commits me state xact row strength from. refl
