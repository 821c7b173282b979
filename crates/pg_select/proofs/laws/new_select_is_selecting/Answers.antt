use Rattle.pg_select.proofs.Bounded.{begins}
use Rattle.pg_select.proofs.laws.new_select_is_selecting.Goals as goal

pub returns : goal.returns
returns c = begins
