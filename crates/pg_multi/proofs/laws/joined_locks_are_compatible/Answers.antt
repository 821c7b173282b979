use Rattle.pg_multi.proofs.Blockers.{joined_compatible}
use Rattle.pg_multi.proofs.laws.joined_locks_are_compatible.Goals as goal

pub returns : goal.returns
returns c = joined_compatible
