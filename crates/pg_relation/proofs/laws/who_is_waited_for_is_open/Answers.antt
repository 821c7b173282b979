use Rattle.pg_relation.proofs.Kept.{waits_after}
use Rattle.pg_relation.proofs.laws.who_is_waited_for_is_open.Goals as goal

pub returns : goal.returns
returns c = record {
  opened = λ script journal number on legal waits. (waits_after script journal legal).for_open number on waits;
  until = λ script journal number on legal waits. (waits_after script journal legal).until_is number on waits;
}
