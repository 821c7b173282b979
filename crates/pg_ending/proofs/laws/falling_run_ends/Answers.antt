use Rattle.pg_ending.proofs.Ending.{ends}
use Rattle.pg_ending.proofs.laws.falling_run_ends.Goals as goal

pub returns : goal.returns
returns g c = λ next after weight falls w. ends next after weight falls w
