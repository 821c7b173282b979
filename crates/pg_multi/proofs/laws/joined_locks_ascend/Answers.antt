use Rattle.std.proofs.Common.{arith}
use Rattle.pg_multi.proofs.Ascending.{ascend_joined}
use Rattle.pg_multi.proofs.laws.joined_locks_ascend.Goals as goal

pub returns : goal.returns
returns c = λ locks xact strength ascend. ascend_joined 0 locks xact strength (omega arith) ascend
