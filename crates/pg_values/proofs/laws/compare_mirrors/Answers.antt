use Rattle.pg_values.proofs.Mirror.{compare_values-mirrored}
use Rattle.pg_values.proofs.laws.compare_mirrors.Goals as goal

pub returns : goal.returns
returns c = compare_values-mirrored
