use Rattle.pg_waits.proofs.Ends.{candidate_ends, settled_stays, transaction_stays}
use Rattle.pg_waits.proofs.laws.settled_candidate_ends_its_waits.Goals as goal

pub returns-clause-candidate : goal.returns-clause-candidate
returns-clause-candidate c = candidate_ends

pub returns-clause-transaction : goal.returns-clause-transaction
returns-clause-transaction c = transaction_stays

pub returns-clause-others : goal.returns-clause-others
returns-clause-others c = settled_stays
