use Rattle.pg_multi.proofs.Strengths.{conflicts_both}
use Rattle.pg_multi.proofs.laws.conflicts_are_symmetric.Goals as goal

pub returns : goal.returns
returns c = conflicts_both
