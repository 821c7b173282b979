-- Expressions as they are written: trees of literals, names and operators.
use Rattle.std.specs.Prelude.{ℕ, ◌+◌, suc, List, max}
use Rattle.pg_values.specs.declared.value.Value.{Value}
use Rattle.pg_exprs.specs.declared.operator.BinaryOp.{BinaryOp}
use Rattle.pg_exprs.specs.declared.operator.UnaryOp.{UnaryOp}

-- a literal; a column by its name; one by its source's name and its own; `merge_action()`; operators
pub data Tree : Type 0 where
  literal : Value → Tree
  column : List ℕ → Tree
  column_of : List ℕ → List ℕ → Tree
  action : Tree
  unary : UnaryOp → Tree → Tree
  binary : BinaryOp → Tree → Tree → Tree

-- the most nodes on a path down from the top
abbrev pub height : Tree → ℕ
height (literal _) = 1
height (column _) = 1
height (column_of _ _) = 1
height action = 1
height (unary _ a) = suc (height a)
height (binary _ a b) = suc (max (height a) (height b))

-- how many nodes it has
abbrev pub size : Tree → ℕ
size (literal _) = 1
size (column _) = 1
size (column_of _ _) = 1
size action = 1
size (unary _ a) = 1 + size a
size (binary _ a b) = 1 + size a + size b
