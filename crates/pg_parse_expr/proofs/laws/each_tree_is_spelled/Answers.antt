use Rattle.pg_parse_expr.proofs.Spelled.{each_tree_is_spelled}
use Rattle.pg_parse_expr.proofs.laws.each_tree_is_spelled.Goals as goal

pub returns : goal.returns
returns c = each_tree_is_spelled
