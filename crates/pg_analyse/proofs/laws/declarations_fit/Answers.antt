use Rattle.pg_analyse.proofs.Fitting.{declarations_fit}
use Rattle.pg_analyse.proofs.laws.declarations_fit.Goals as goal

pub returns : goal.returns
returns c = declarations_fit
