-- What is left of an expression behind its first factor: at each level the operators there with their right operands.
use Rattle.std.specs.Prelude.{ℕ, zero, suc}
use Rattle.pg_exprs.specs.declared.operator.BinaryOp.{BinaryOp}
use Rattle.pg_grammar.specs.Languages.{Lang, gives, token, bind, more}
use Rattle.pg_lexer.specs.declared.sign.Sign.TheVariants.{Close}
use Rattle.pg_lexer.specs.declared.token.Token.TheVariants.{Sign}
use Rattle.pg_lexer.specs.declared.token.Token.{Token}
use Rattle.pg_parse_expr.specs.declared.level.Level.TheVariants.{Or, And, Concat, Sum, Product}
use Rattle.pg_parse_expr.specs.Grammar.{concatenation, compared, test, factor}
use Rattle.pg_parse_expr.specs.Levels.{step_at}
use Rattle.pg_parse_expr.specs.Tree.{Tree, binary}

-- behind DISTINCT FROM: the right operand
unfoldable pub distinct_operand : BinaryOp → ℕ → Tree → Lang Token Tree
distinct_operand distinct d left = bind (concatenation factor (suc d)) (λ right. gives (binary distinct left right))

unfoldable pub behind_conjunction_at : ℕ → Tree → Lang Token Tree
behind_conjunction_at d = more (step_at Or d)

unfoldable pub behind_predicate_at : ℕ → Tree → Lang Token Tree
behind_predicate_at d a = bind (more (step_at And d) a) (behind_conjunction_at d)

unfoldable pub behind_comparison_at : ℕ → Tree → Lang Token Tree
behind_comparison_at d a = bind (more (test factor d) a) (behind_predicate_at d)

unfoldable pub behind_concatenation_at : ℕ → Tree → Lang Token Tree
behind_concatenation_at d a = bind (compared factor d a) (behind_comparison_at d)

unfoldable pub behind_sum_at : ℕ → Tree → Lang Token Tree
behind_sum_at d a = bind (more (step_at Concat d) a) (behind_concatenation_at d)

unfoldable pub behind_product_at : ℕ → Tree → Lang Token Tree
behind_product_at d a = bind (more (step_at Sum d) a) (behind_sum_at d)

unfoldable pub behind_factor_at : ℕ → Tree → Lang Token Tree
behind_factor_at d a = bind (more (step_at Product d) a) (behind_product_at d)

-- behind a whole and the bracket that closes it: n times the rest of an expression, and a bracket that closes
unfoldable pub closings : ℕ → ℕ → Tree → Lang Token Tree
closings d zero a = gives a
closings d (suc n) a = bind (behind_factor_at d a) (λ e. token (Sign Close) (closings d n e))

-- a bracket that closes, and those behind it
unfoldable pub closed : ℕ → ℕ → Tree → Lang Token Tree
closed d n a = token (Sign Close) (closings d n a)
