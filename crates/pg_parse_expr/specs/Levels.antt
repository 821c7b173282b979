-- The levels of binary operators that group to the left: their operators, their operands, and what may stand behind
-- an operand and behind the whole.
use Rattle.std.specs.Prelude.{ℕ, Bool, not, ◌&&◌, Option}
use Rattle.pg_exprs.specs.declared.operator.BinaryOp.{BinaryOp}
use Rattle.pg_grammar.specs.Languages.{Lang}
use Rattle.pg_lexer.specs.declared.token.Token.{Token}
use Rattle.pg_parse_expr.specs.declared.level.Level.{Level}
use Rattle.pg_parse_expr.specs.declared.level.Level.TheVariants.{Or, And, Concat, Sum, Product}
use Rattle.pg_parse_expr.specs.Behind.{has, behind_factor, behind_product, behind_sum, behind_predicate, behind_conjunction}
use Rattle.pg_parse_expr.specs.Grammar.{Rule, operation, chain, factor, product, sum, negation, conjunction}
use Rattle.pg_parse_expr.specs.Operators.{or_op, and_op, concat_op, sum_op, product_op}
use Rattle.pg_parse_expr.specs.Tree.{Tree}

abbrev pub op_at : Level → Token → Option BinaryOp
op_at Or = or_op
op_at And = and_op
op_at Concat = concat_op
op_at Sum = sum_op
op_at Product = product_op

abbrev pub operand_at : Level → Rule
operand_at Or = conjunction factor
operand_at And = negation factor
operand_at Concat = sum factor
operand_at Sum = product factor
operand_at Product = factor

-- behind an operand
abbrev pub before_at : Level → Option Token → Bool
before_at Or = behind_conjunction
before_at And = behind_predicate
before_at Concat = behind_sum
before_at Sum = behind_product
before_at Product = behind_factor

-- behind all of a chain
unfoldable pub behind_at : Level → Option Token → Bool
behind_at level t = before_at level t && not (has (op_at level) t)

-- one operator and its right operand, and all of a chain
unfoldable pub step_at : Level → ℕ → Tree → Lang Token Tree
step_at level = operation (op_at level) (operand_at level)

unfoldable pub chain_at : Level → Rule
chain_at level = chain (op_at level) (operand_at level)
