use Rattle.pg_multi.proofs.Holders.{left_own}
use Rattle.pg_multi.proofs.laws.left_lock_is_gone.Goals as goal

pub returns : goal.returns
returns c = left_own
