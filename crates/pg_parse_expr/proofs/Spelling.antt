-- Each rule has words.
use Rattle.std.proofs.Common.{ℕ, suc, Option, refl}
use Rattle.pg_exprs.specs.declared.operator.BinaryOp.{BinaryOp}
use Rattle.pg_grammar.specs.Limits.{nodes}
use Rattle.pg_grammar.specs.Languages.{gives, one, bind, more, either, token as behind_token, reaches}
use Rattle.pg_grammar.proofs.Words.{Spelled, spelled_gives, spelled_one, spelled_bind, spelled_left, spelled_right, spelled_more, spelled_reaches, spelled_knot}
use Rattle.pg_lexer.specs.declared.keyword.Keyword.TheVariants as word
use Rattle.pg_lexer.specs.declared.token.Token.{Token}
use Rattle.pg_lexer.specs.declared.token.Token.TheVariants as token
use Rattle.pg_values.specs.declared.value.Value.TheVariants as value
use Rattle.pg_exprs.specs.declared.operator.UnaryOp.TheVariants.{Not}
use Rattle.pg_parse_expr.specs.declared.level.Level.{Level}
use Rattle.pg_parse_expr.specs.declared.level.Level.TheVariants.{Or, And, Concat, Sum, Product}
use Rattle.pg_parse_expr.specs.Grammar.{Rule, operation, chain, product, sum, concatenation, compared, comparison, test, predicate, negation_over, negation, conjunction, disjunction, named, called, leaf, minus, bracket, factor_over, factor}
use Rattle.pg_parse_expr.specs.Levels.{operand_at}
use Rattle.pg_parse_expr.specs.Operators.{value_of, literal_of, or_op, and_op, compare_op, concat_op, sum_op, product_op}
use Rattle.pg_parse_expr.specs.Tree.{Tree, literal, unary}

pub spelled_leaf : (d : ℕ) → Spelled (leaf d)
unfolding leaf literal_of value_of
spelled_leaf d =
    spelled_reaches nodes (suc d) (either (one literal_of) (either called named))
    (spelled_left (one literal_of) (either called named) (spelled_one literal_of (token.Keyword word.Null)
    (literal value.Null) refl))

pub spelled_factor : (d : ℕ) → Spelled (factor d)
unfolding factor factor_over
spelled_factor d =
    spelled_knot factor_over d (λ F. spelled_left (either (leaf d) (minus F d)) (bracket F d)
    (spelled_left (leaf d) (minus F d) (spelled_leaf d)))

spelled_chain : (op : Token → Option BinaryOp) (operand : Rule) (d : ℕ) → Spelled (operand d) →
    Spelled (chain op operand d)
unfolding chain
spelled_chain op operand d s =
    spelled_bind (operand d) (more (operation op operand d)) s (λ x. spelled_more (operation op operand d) x)

pub spelled_product : (d : ℕ) → Spelled (product factor d)
unfolding product
spelled_product d = spelled_chain product_op factor d (spelled_factor d)

pub spelled_sum : (d : ℕ) → Spelled (sum factor d)
unfolding sum
spelled_sum d = spelled_chain sum_op (product factor) d (spelled_product d)

pub spelled_concatenation : (d : ℕ) → Spelled (concatenation factor d)
unfolding concatenation
spelled_concatenation d = spelled_chain concat_op (sum factor) d (spelled_sum d)

pub spelled_compared : (d : ℕ) (left : Tree) → Spelled (compared factor d left)
unfolding compared
spelled_compared d left =
    spelled_right (operation compare_op (concatenation factor) d left) (gives left) (spelled_gives left)

pub spelled_comparison : (d : ℕ) → Spelled (comparison factor d)
unfolding comparison
spelled_comparison d =
    spelled_bind (concatenation factor d) (compared factor d) (spelled_concatenation d) (λ x. spelled_compared d x)

pub spelled_predicate : (d : ℕ) → Spelled (predicate factor d)
unfolding predicate
spelled_predicate d =
    spelled_bind (comparison factor d) (more (test factor d)) (spelled_comparison d)
    (λ x. spelled_more (test factor d) x)

pub spelled_negation : (d : ℕ) → Spelled (negation factor d)
unfolding negation negation_over
spelled_negation d =
    spelled_knot (negation_over factor) d
    (λ N. spelled_right (reaches nodes (suc d) (behind_token (token.Keyword word.Not)
    (bind (N (suc d)) (λ a. gives (unary Not a))))) (predicate factor d) (spelled_predicate d))

pub spelled_conjunction : (d : ℕ) → Spelled (conjunction factor d)
unfolding conjunction
spelled_conjunction d = spelled_chain and_op (negation factor) d (spelled_negation d)

pub spelled_disjunction : (d : ℕ) → Spelled (disjunction factor d)
unfolding disjunction
spelled_disjunction d = spelled_chain or_op (conjunction factor) d (spelled_conjunction d)

pub spelled_operand : (level : Level) (d : ℕ) → Spelled (operand_at level d)
spelled_operand Or d = spelled_conjunction d
spelled_operand And d = spelled_negation d
spelled_operand Concat d = spelled_sum d
spelled_operand Sum d = spelled_product d
spelled_operand Product d = spelled_factor d
