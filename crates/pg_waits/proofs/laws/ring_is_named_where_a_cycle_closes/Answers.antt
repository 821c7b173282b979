use Rattle.pg_waits.proofs.Acyclic.{free_is_none, none_is_free}
use Rattle.pg_waits.proofs.laws.ring_is_named_where_a_cycle_closes.Goals as goal

pub returns : goal.returns
returns c =
    λ slots me on acyclic within idle apart.
    (none_is_free slots me on acyclic within idle apart, free_is_none slots me on within idle)
