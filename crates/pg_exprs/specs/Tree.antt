-- Expressions as trees.
use Rattle.std.specs.Prelude.{ℕ, ◌+◌}
use Rattle.pg_values.specs.declared.value.Value.{Value}
use Rattle.pg_exprs.specs.declared.operator.BinaryOp.{BinaryOp}
use Rattle.pg_exprs.specs.declared.operator.UnaryOp.{UnaryOp}

-- a literal; a column of a source, both numbered from 0; `merge_action()`; operators
pub data Tree : Type 0 where
  literal : Value → Tree
  column : ℕ → ℕ → Tree
  action : Tree
  unary : UnaryOp → Tree → Tree
  binary : BinaryOp → Tree → Tree → Tree

-- how many nodes it has
abbrev pub nodes : Tree → ℕ
nodes (literal _) = 1
nodes (column _ _) = 1
nodes action = 1
nodes (unary _ a) = 1 + nodes a
nodes (binary _ a b) = 1 + nodes a + nodes b
