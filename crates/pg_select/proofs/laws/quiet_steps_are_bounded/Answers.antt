use Rattle.pg_select.proofs.Bounded.{bounded}
use Rattle.pg_select.proofs.laws.quiet_steps_are_bounded.Goals as goal

pub returns : goal.returns
returns c = bounded
