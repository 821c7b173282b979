use Rattle.pg_waits.proofs.Acyclic.{never_itself}
use Rattle.pg_waits.proofs.laws.nobody_waits_for_itself.Goals as goal

pub returns : goal.returns
returns c = never_itself
