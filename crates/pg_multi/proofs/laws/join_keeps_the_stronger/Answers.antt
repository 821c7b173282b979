use Rattle.pg_multi.proofs.Holders.{joined_own}
use Rattle.pg_multi.proofs.laws.join_keeps_the_stronger.Goals as goal

pub returns : goal.returns
returns c = joined_own
