-- The tree of an expression's outermost part.
use Rattle.pg_parse_expr.specs.declared.tree.Node.{Node}
use Rattle.pg_parse_expr.specs.declared.tree.Node.TheVariants.{Literal, Column, ColumnOf, Action, Unary, Binary}
use Rattle.pg_parse_expr.specs.Tree.{Tree, literal, column, column_of, action, unary, binary}

abbrev pub tree_of : Node → Tree
tree_of (Literal value) = literal value
tree_of (Column name) = column name
tree_of (ColumnOf source name) = column_of source name
tree_of Action = action
tree_of (Unary op a) = unary op a.value
tree_of (Binary op a b) = binary op a.value b.value
