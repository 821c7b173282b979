use Rattle.pg_update.proofs.Seen.{as_seen}
use Rattle.pg_update.proofs.look.values_as_seen.Goals as goal

pub returns : goal.returns
returns c = λ given. as_seen c.args.change.now c.args.partners.now c.target_values.result.now _ c.target_values.ensures (c.new_values.ensures given)
