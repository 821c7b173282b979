use Rattle.pg_exprs.proofs.Kept.{kept}
use Rattle.pg_exprs.proofs.laws.kinds_are_kept.Goals as goal

pub returns : goal.returns
returns c = kept
