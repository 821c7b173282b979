use Rattle.pg_multi.proofs.Strengths.{stronger_rank}
use Rattle.pg_multi.proofs.laws.stronger_has_the_higher_rank.Goals as goal

pub returns : goal.returns
returns c = stronger_rank
