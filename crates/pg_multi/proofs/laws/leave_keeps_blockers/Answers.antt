use Rattle.pg_multi.proofs.Blockers.{left_never, left_none, left_own_keeps, left_stays}
use Rattle.pg_multi.proofs.laws.leave_keeps_blockers.Goals as goal

pub returns-clause-own : goal.returns-clause-own
returns-clause-own c = left_own_keeps

pub returns-clause-gone : goal.returns-clause-gone
returns-clause-gone c = left_never

pub returns-clause-stays : goal.returns-clause-stays
returns-clause-stays c = left_stays

pub returns-clause-none : goal.returns-clause-none
returns-clause-none c = left_none
