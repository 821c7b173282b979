use Rattle.pg_multi.proofs.Blockers.{none_blocks}
use Rattle.pg_multi.proofs.laws.no_blocker_where_nobody_blocks.Goals as goal

pub returns : goal.returns
returns c = λ locks me other strength. none_blocks locks me strength other
