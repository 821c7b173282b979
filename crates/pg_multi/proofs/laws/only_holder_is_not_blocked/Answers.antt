use Rattle.pg_multi.proofs.Blockers.{alone_not_blocked}
use Rattle.pg_multi.proofs.laws.only_holder_is_not_blocked.Goals as goal

pub returns : goal.returns
returns c = alone_not_blocked
