use Rattle.pg_multi.proofs.Blockers.{never_own}
use Rattle.pg_multi.proofs.laws.own_lock_never_blocks.Goals as goal

pub returns : goal.returns
returns c = never_own
