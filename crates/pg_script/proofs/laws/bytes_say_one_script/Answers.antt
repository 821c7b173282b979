use Rattle.pg_script.proofs.OneReading.{bytes_say_one_script}
use Rattle.pg_script.proofs.laws.bytes_say_one_script.Goals as goal

pub returns : goal.returns
returns c = bytes_say_one_script
