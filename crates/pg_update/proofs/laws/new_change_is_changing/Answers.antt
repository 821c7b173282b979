use Rattle.pg_update.proofs.Bounded.{begins}
use Rattle.pg_update.proofs.laws.new_change_is_changing.Goals as goal

pub returns : goal.returns
returns c = begins
