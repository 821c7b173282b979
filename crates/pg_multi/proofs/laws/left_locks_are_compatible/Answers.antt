use Rattle.pg_multi.proofs.Blockers.{left_compatible}
use Rattle.pg_multi.proofs.laws.left_locks_are_compatible.Goals as goal

pub returns : goal.returns
returns c = left_compatible
