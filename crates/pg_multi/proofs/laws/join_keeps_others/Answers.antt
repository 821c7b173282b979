use Rattle.pg_multi.proofs.Holders.{joined_other}
use Rattle.pg_multi.proofs.laws.join_keeps_others.Goals as goal

pub returns : goal.returns
returns c = joined_other
