use Rattle.pg_multi.proofs.Holders.{left_other}
use Rattle.pg_multi.proofs.laws.leave_keeps_others.Goals as goal

pub returns : goal.returns
returns c = left_other
