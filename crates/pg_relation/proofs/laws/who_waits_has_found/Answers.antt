use Rattle.pg_relation.proofs.Kept.{waits_after}
use Rattle.pg_relation.proofs.laws.who_waits_has_found.Goals as goal

pub returns : goal.returns
returns c = λ script journal number on legal waits. (waits_after script journal legal).standing number on waits
