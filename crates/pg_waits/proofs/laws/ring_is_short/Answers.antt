use Rattle.pg_waits.proofs.Rings.{ring_short}
use Rattle.pg_waits.proofs.laws.ring_is_short.Goals as goal

pub returns : goal.returns
returns c = ring_short
