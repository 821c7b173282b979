use Rattle.pg_script.proofs.OneReading.{no_script_is_refused}
use Rattle.pg_script.proofs.laws.no_script_is_refused.Goals as goal

pub returns : goal.returns
returns c = no_script_is_refused
