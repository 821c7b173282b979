use Rattle.pg_waits.proofs.Ends.{ended_stays, nobody_waits, wait_ended_own}
use Rattle.pg_waits.proofs.laws.nobody_waits_for_the_ended.Goals as goal

pub returns-clause-nobody : goal.returns-clause-nobody
returns-clause-nobody c = nobody_waits

pub returns-clause-own : goal.returns-clause-own
returns-clause-own c = wait_ended_own

pub returns-clause-others : goal.returns-clause-others
returns-clause-others c = ended_stays
