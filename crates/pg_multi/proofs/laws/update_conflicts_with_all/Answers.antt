use Rattle.pg_multi.proofs.Strengths.{update_with_all}
use Rattle.pg_multi.proofs.laws.update_conflicts_with_all.Goals as goal

pub returns : goal.returns
returns c = update_with_all
