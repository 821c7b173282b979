use Rattle.pg_exprs.proofs.Mirror.{comparisons_mirror}
use Rattle.pg_exprs.proofs.laws.comparisons_mirror.Goals as goal

pub returns : goal.returns
returns c = comparisons_mirror
