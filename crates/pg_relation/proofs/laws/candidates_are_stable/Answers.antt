use Rattle.pg_relation.proofs.Stable.{stable_after}
use Rattle.pg_relation.proofs.laws.candidates_are_stable.Goals as goal

pub returns : goal.returns
returns c = λ script journal number session running statement legal is inside_is own.
    (((stable_after script journal legal).each number session is).reading running inside_is).kept statement own
