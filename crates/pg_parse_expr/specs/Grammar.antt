-- The grammar of expressions, from the loosest binding to the tightest. A rule's number is its depth: how many nodes
-- stand above what it reads. An operator is one node over the whole tree to its left, and brackets are none.
use Rattle.std.specs.Prelude.{ℕ, ◌+◌, suc, Option}
use Rattle.pg_exprs.specs.declared.operator.BinaryOp.{BinaryOp}
use Rattle.pg_exprs.specs.declared.operator.BinaryOp.TheVariants.{IsDistinctFrom, IsNotDistinctFrom}
use Rattle.pg_exprs.specs.declared.operator.UnaryOp.{UnaryOp}
use Rattle.pg_exprs.specs.declared.operator.UnaryOp.TheVariants.{Negate, Not, IsNull, IsNotNull}
use Rattle.pg_grammar.specs.Limits.{nodes}
use Rattle.pg_grammar.specs.Languages.{Lang, gives, token, one, bind, either, more, knot, reaches}
use Rattle.pg_lexer.specs.declared.keyword.Keyword.TheVariants as word
use Rattle.pg_lexer.specs.declared.sign.Sign.TheVariants as sign
use Rattle.pg_lexer.specs.declared.token.Token.{Token}
use Rattle.pg_lexer.specs.declared.token.Token.TheVariants.{Keyword, Sign}
use Rattle.pg_parse_expr.specs.Operators.{literal_of, name_of, action_name, or_op, and_op, compare_op, concat_op, sum_op, product_op}
use Rattle.pg_parse_expr.specs.Tree.{Tree, height, column, column_of, action, unary, binary}

-- the words of a rule at each depth
abbrev pub Rule : Type 1
Rule = ℕ → Lang Token Tree

-- behind a tree: one operator, and its right operand
unfoldable pub operation : (Token → Option BinaryOp) → Rule → ℕ → Tree → Lang Token Tree
operation op operand d left =
    reaches nodes (suc (d + height left)) (bind (one op) (λ o. bind (operand (suc d))
    (λ right. gives (binary o left right))))

-- operands with operators of one level between them, which group to the left
unfoldable pub chain : (Token → Option BinaryOp) → Rule → Rule
chain op operand d = bind (operand d) (more (operation op operand d))

-- a rule that goes by what a factor is
abbrev pub Over : Type 1
Over = Rule → Rule

unfoldable pub product : Over
product factor = chain product_op factor

unfoldable pub sum : Over
sum factor = chain sum_op (product factor)

unfoldable pub concatenation : Over
concatenation factor = chain concat_op (sum factor)

-- at most one comparison
unfoldable pub compared : Rule → ℕ → Tree → Lang Token Tree
compared factor d left = either (operation compare_op (concatenation factor) d left) (gives left)

unfoldable pub comparison : Over
comparison factor d = bind (concatenation factor d) (compared factor d)

-- NULL, or DISTINCT FROM and an operand, behind IS or IS NOT
unfoldable pub tested : UnaryOp → BinaryOp → Rule → ℕ → Tree → Lang Token Tree
tested null distinct factor d left =
    either (token (Keyword word.Null) (gives (unary null left)))
    (token (Keyword word.Distinct) (token (Keyword word.From)
    (bind (concatenation factor (suc d)) (λ right. gives (binary distinct left right)))))

-- IS [NOT] NULL, IS [NOT] DISTINCT FROM
unfoldable pub test : Rule → ℕ → Tree → Lang Token Tree
test factor d left =
    reaches nodes (suc (d + height left))
    (token (Keyword word.Is)
    (either (token (Keyword word.Not) (tested IsNotNull IsNotDistinctFrom factor d left))
    (tested IsNull IsDistinctFrom factor d left)))

unfoldable pub predicate : Over
predicate factor d = bind (comparison factor d) (more (test factor d))

-- NOT, any number of times, before a predicate
unfoldable pub negation_over : Rule → Rule → Rule
negation_over factor negation d =
    either (reaches nodes (suc d) (token (Keyword word.Not) (bind (negation (suc d)) (λ a. gives (unary Not a)))))
    (predicate factor d)

unfoldable pub negation : Over
negation factor = knot (negation_over factor)

unfoldable pub conjunction : Over
conjunction factor = chain and_op (negation factor)

unfoldable pub disjunction : Over
disjunction factor = chain or_op (conjunction factor)

-- a column, with or without the name of its source
unfoldable pub named : Lang Token Tree
named =
    bind (one name_of) (λ name. either (token (Sign sign.Dot) (bind (one name_of) (λ own. gives (column_of name own))))
    (gives (column name)))

-- `merge_action()`
unfoldable pub called : Lang Token Tree
called = token action_name (token (Sign sign.Open) (token (Sign sign.Close) (gives action)))

-- a literal, a column or `merge_action()`: one node
unfoldable pub leaf : Rule
leaf d = reaches nodes (suc d) (either (one literal_of) (either called named))

-- a minus sign before a factor
unfoldable pub minus : Rule → Rule
minus factor d = reaches nodes (suc d) (token (Sign sign.Minus) (bind (factor (suc d)) (λ a. gives (unary Negate a))))

-- an expression in brackets
unfoldable pub bracket : Rule → Rule
bracket factor d = token (Sign sign.Open) (bind (disjunction factor d) (λ e. token (Sign sign.Close) (gives e)))

unfoldable pub factor_over : Rule → Rule
factor_over factor d = either (either (leaf d) (minus factor d)) (bracket factor d)

unfoldable pub factor : Rule
factor = knot factor_over

-- an expression below d nodes, and one by itself
unfoldable pub expr_at : Rule
expr_at = disjunction factor

unfoldable pub expr : Lang Token Tree
expr = expr_at 0
