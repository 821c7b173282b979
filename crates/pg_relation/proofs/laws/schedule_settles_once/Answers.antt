use Rattle.pg_relation.proofs.Schedules.{next_settled, settled_once}
use Rattle.pg_relation.proofs.laws.schedule_settles_once.Goals as goal

pub returns : goal.returns
returns c = record {
  once = λ script world schedule. settled_once script world schedule;
  next = λ script world schedule. next_settled script world schedule;
}
