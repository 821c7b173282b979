use Rattle.pg_multi.proofs.Blockers.{blocker_blocks, blocker_lowest}
use Rattle.pg_multi.proofs.laws.blocker_is_lowest.Goals as goal

pub returns-clause-blocks : goal.returns-clause-blocks
returns-clause-blocks c = λ locks me xact strength. blocker_blocks locks me strength xact

pub returns-clause-lowest : goal.returns-clause-lowest
returns-clause-lowest c = λ locks me xact other strength. blocker_lowest locks me strength xact other
