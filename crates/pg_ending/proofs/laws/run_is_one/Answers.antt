use Rattle.pg_ending.proofs.Ending as ending
use Rattle.pg_ending.proofs.laws.run_is_one.Goals as goal

pub returns : goal.returns
returns g c = λ next after w es fs a b. ending.run_is_one next after w es fs a b
