use Rattle.pg_waits.proofs.Rings.{leads_is_ring, none_leads}
use Rattle.pg_waits.proofs.laws.no_ring_where_waits_lead_elsewhere.Goals as goal

pub returns : goal.returns
returns c = λ slots me other idle. (none_leads slots me other idle, leads_is_ring slots me other)
