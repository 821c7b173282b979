-- The tree of an expression's outermost part.
use Rattle.pg_exprs.specs.declared.expr.Node.{Node}
use Rattle.pg_exprs.specs.declared.expr.Node.TheVariants.{Literal, Column, Action, Unary, Binary}
use Rattle.pg_exprs.specs.Tree.{Tree, literal, column, action, unary, binary}

-- the tree whose outermost part this is
abbrev pub tree_of : Node → Tree
tree_of (Literal value) = literal value
tree_of (Column source number) = column source number
tree_of Action = action
tree_of (Unary op a) = unary op a.value
tree_of (Binary op a b) = binary op a.value b.value
