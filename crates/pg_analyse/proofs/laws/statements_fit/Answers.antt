use Rattle.pg_analyse.proofs.FittingStatements.{statements_fit}
use Rattle.pg_analyse.proofs.laws.statements_fit.Goals as goal

pub returns : goal.returns
returns c = statements_fit
