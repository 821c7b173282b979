use Rattle.pg_line.proofs.Outcomes.{at_most_one_form}
use Rattle.pg_line.proofs.laws.each_line_has_at_most_one_form.Goals as goal

pub returns : goal.returns
returns c = at_most_one_form
