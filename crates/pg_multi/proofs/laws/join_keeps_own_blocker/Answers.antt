use Rattle.pg_multi.proofs.Blockers.{own_join_keeps}
use Rattle.pg_multi.proofs.laws.join_keeps_own_blocker.Goals as goal

pub returns : goal.returns
returns c = own_join_keeps
