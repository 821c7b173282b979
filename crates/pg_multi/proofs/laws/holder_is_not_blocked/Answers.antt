use Rattle.pg_multi.proofs.Blockers.{holder_not_blocked}
use Rattle.pg_multi.proofs.laws.holder_is_not_blocked.Goals as goal

pub returns : goal.returns
returns c = holder_not_blocked
