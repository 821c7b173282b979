use Rattle.pg_update.proofs.Bounded.{bounded}
use Rattle.pg_update.proofs.laws.quiet_steps_are_bounded.Goals as goal

pub returns : goal.returns
returns c = bounded
