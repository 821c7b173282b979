use Rattle.pg_parse_expr.proofs.Within.{each_tree_is_within}
use Rattle.pg_parse_expr.proofs.laws.each_tree_is_within.Goals as goal

pub returns : goal.returns
returns c = each_tree_is_within
