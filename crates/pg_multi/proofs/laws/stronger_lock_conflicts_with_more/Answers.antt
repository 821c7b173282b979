use Rattle.pg_multi.proofs.Strengths.{with_more}
use Rattle.pg_multi.proofs.laws.stronger_lock_conflicts_with_more.Goals as goal

pub returns : goal.returns
returns c = with_more
