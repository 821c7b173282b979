use Rattle.pg_parse_expr.proofs.Unambiguous.{at_most_one_tree}
use Rattle.pg_parse_expr.proofs.laws.at_most_one_tree.Goals as goal

pub returns : goal.returns
returns c = at_most_one_tree
