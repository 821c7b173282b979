use Rattle.pg_exprs.proofs.Memoryless.{memoryless}
use Rattle.pg_exprs.proofs.laws.evaluation_needs_no_memory.Goals as goal

pub returns : goal.returns
returns c = memoryless
