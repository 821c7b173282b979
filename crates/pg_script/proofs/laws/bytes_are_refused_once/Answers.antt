use Rattle.pg_script.proofs.OneRefusal.{bytes_are_refused_once}
use Rattle.pg_script.proofs.laws.bytes_are_refused_once.Goals as goal

pub returns : goal.returns
returns c = bytes_are_refused_once
