use Rattle.pg_waits.proofs.Rings.{ring_complete, ring_sound}
use Rattle.pg_waits.proofs.laws.ring_is_exact.Goals as goal

pub returns : goal.returns
returns c = λ slots me other ring idle. (ring_sound slots me other ring, ring_complete slots me other ring idle)
