use Rattle.std.proofs.Common.{nat_eq, not}
use Rattle.pg_multi.proofs.Ascending.{ascend_filter}
use Rattle.pg_multi.proofs.laws.left_locks_ascend.Goals as goal

pub returns : goal.returns
returns c = λ locks xact ascend. ascend_filter (λ lock. not (nat_eq lock.xact xact)) 0 locks ascend
