use Rattle.pg_line.proofs.Within.{each_form_is_within}
use Rattle.pg_line.proofs.laws.each_form_is_within.Goals as goal

pub returns : goal.returns
returns c = each_form_is_within
