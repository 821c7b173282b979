use Rattle.pg_relation.proofs.Weight.{weight_falls}
use Rattle.pg_relation.proofs.laws.weight_falls.Goals as goal

pub returns : goal.returns
returns c = λ script world entry move. weight_falls script world entry move
