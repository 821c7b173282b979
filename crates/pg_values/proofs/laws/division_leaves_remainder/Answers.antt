use Rattle.pg_values.proofs.Division.{division_leaves_remainder}
use Rattle.pg_values.proofs.laws.division_leaves_remainder.Goals as goal

pub returns : goal.returns
returns c = division_leaves_remainder
