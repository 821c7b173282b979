use Rattle.pg_relation.proofs.Kept.{waits_after}
use Rattle.pg_relation.proofs.laws.waits_form_no_cycle.Goals as goal

pub returns : goal.returns
returns c = λ script journal legal. (waits_after script journal legal).acyclic
