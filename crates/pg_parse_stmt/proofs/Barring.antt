-- Where no expression begins: no leaf, minus sign, bracket or NOT stands there.
use Rattle.std.proofs.Common.{◌≡◌, ℕ, suc, Bool, true, List, Option, Some, refl, not}
use Rattle.pg_parse_stmt.proofs.Common.{gives, token, bind, either, more, next, Bars, bars_token, bars_bind, Token, has, behind_factor, behind_product, behind_sum, behind_concatenation, behind_comparison, behind_predicate, behind_conjunction, behind_expr, expr, or_op, and_op, compare_op, concat_op, sum_op, product_op, sign, nodes, reaches, bars_reaches, bars_either, bars_knot, Sign, BinaryOp, Negate, Not, starts_more, operation, chain, product, sum, concatenation, compared, comparison, test, predicate, negation_over, negation, conjunction, disjunction, leaf, minus, bracket, factor_over, factor, expr_at, unary}
use Rattle.pg_lexer.specs.declared.keyword.Keyword.TheVariants as k
use Rattle.pg_lexer.specs.declared.sign.Sign.TheVariants as s
use Rattle.pg_lexer.specs.declared.token.Token.TheVariants as t
use Rattle.pg_parse_stmt.proofs.Lists.{and_left}
use Rattle.pg_parse_expr.specs.Grammar.{Rule}
use Rattle.pg_parse_expr.proofs.After.{starts_operation}
use Rattle.pg_parse_expr.proofs.Steps.{starts_compared}
use Rattle.pg_parse_expr.proofs.Testing.{starts_tests}

-- what bars the leaves of expressions, and is no minus sign, bracket or NOT, bars expressions
module _ (op : Token → Option BinaryOp) (operand : Rule) (before behind : Option Token → Bool)
    (below : (o : Option Token) → behind o ≡ true → before o ≡ true)
    (goes_on : (u : Token) (x : BinaryOp) → op u ≡ Some x → before (Some u) ≡ true) where
  bars_chain : (d k : ℕ) (xs : List Token) → Bars (operand d) before k xs → Bars (chain op operand d) behind k xs
  unfolding chain
  bars_chain d k xs b =
      bars_bind before behind (operand d) (more (operation op operand d)) k xs b
      (λ u. starts_more before behind (operation op operand d) u
      (λ a. starts_operation op operand before d a before goes_on) below)

or_before : (u : Token) (x : BinaryOp) → or_op u ≡ Some x → behind_conjunction (Some u) ≡ true
unfolding or_op and_op compare_op concat_op sum_op product_op has behind_factor behind_product behind_sum
    behind_concatenation behind_comparison behind_predicate behind_conjunction
or_before (t.Keyword k.Or) x e = refl
or_before _ x e = absurd (cc e)

and_before : (u : Token) (x : BinaryOp) → and_op u ≡ Some x → behind_predicate (Some u) ≡ true
unfolding and_op compare_op concat_op sum_op product_op has behind_factor behind_product behind_sum behind_concatenation
    behind_comparison behind_predicate
and_before (t.Keyword k.And) x e = refl
and_before _ x e = absurd (cc e)

concat_before : (u : Token) (x : BinaryOp) → concat_op u ≡ Some x → behind_sum (Some u) ≡ true
unfolding concat_op sum_op product_op has behind_factor behind_product behind_sum
concat_before (t.Sign s.Concat) x e = refl
concat_before _ x e = absurd (cc e)

sum_before : (u : Token) (x : BinaryOp) → sum_op u ≡ Some x → behind_product (Some u) ≡ true
unfolding sum_op product_op has behind_factor behind_product
sum_before (t.Sign s.Plus) x e = refl
sum_before (t.Sign s.Minus) x e = refl
sum_before _ x e = absurd (cc e)

product_before : (u : Token) (x : BinaryOp) → product_op u ≡ Some x → behind_factor (Some u) ≡ true
unfolding product_op behind_factor
product_before (t.Sign s.Star) x e = refl
product_before (t.Sign s.Slash) x e = refl
product_before (t.Sign s.Percent) x e = refl
product_before _ x e = absurd (cc e)

product_below : (o : Option Token) → behind_product o ≡ true → behind_factor o ≡ true
unfolding behind_product
product_below o e = and_left (behind_factor o) (not (has product_op o)) e

sum_below : (o : Option Token) → behind_sum o ≡ true → behind_product o ≡ true
unfolding behind_sum
sum_below o e = and_left (behind_product o) (not (has sum_op o)) e

concat_below : (o : Option Token) → behind_concatenation o ≡ true → behind_sum o ≡ true
unfolding behind_concatenation
concat_below o e = and_left (behind_sum o) (not (has concat_op o)) e

and_below : (o : Option Token) → behind_conjunction o ≡ true → behind_predicate o ≡ true
unfolding behind_conjunction
and_below o e = and_left (behind_predicate o) (not (has and_op o)) e

or_below : (o : Option Token) → behind_expr o ≡ true → behind_conjunction o ≡ true
unfolding behind_expr
or_below o e = and_left (behind_conjunction o) (not (has or_op o)) e

module _ (j : ℕ) (xs : List Token) (no_minus : next xs ≡ Some (t.Sign s.Minus) → ⊥)
    (no_open : next xs ≡ Some (t.Sign s.Open) → ⊥)
    (no_not : next xs ≡ Some (t.Keyword k.Not) → ⊥) (no_leaf : (d : ℕ) → Bars (leaf d) behind_factor (suc j) xs) where
  bars_factor : (d : ℕ) → Bars (factor d) behind_factor (suc j) xs
  unfolding factor factor_over minus bracket
  bars_factor d =
      bars_knot behind_factor factor_over (suc j) xs
      (λ F b i. bars_either behind_factor (either (leaf i) (minus F i)) (bracket F i) (suc j) xs
      (bars_either behind_factor (leaf i) (minus F i) (suc j) xs (no_leaf i)
      (bars_reaches behind_factor nodes (suc i) (token (t.Sign s.Minus)
      (bind (F (suc i)) (λ a. gives (unary Negate a)))) (suc j) xs
      (bars_token behind_factor (t.Sign s.Minus) (bind (F (suc i)) (λ a. gives (unary Negate a))) j xs no_minus)))
      (bars_token behind_factor (t.Sign s.Open) (bind (disjunction F i)
      (λ w. token (t.Sign s.Close) (gives w))) j xs no_open)) d

  bars_product : (d : ℕ) → Bars (product factor d) behind_product (suc j) xs
  unfolding product
  bars_product d =
      bars_chain product_op factor behind_factor behind_product product_below product_before d (suc j) xs
      (bars_factor d)

  bars_sum : (d : ℕ) → Bars (sum factor d) behind_sum (suc j) xs
  unfolding sum
  bars_sum d =
      bars_chain sum_op (product factor) behind_product behind_sum sum_below sum_before d (suc j) xs (bars_product d)

  bars_concatenation : (d : ℕ) → Bars (concatenation factor d) behind_concatenation (suc j) xs
  unfolding concatenation
  bars_concatenation d =
      bars_chain concat_op (sum factor) behind_sum behind_concatenation concat_below concat_before d (suc j) xs
      (bars_sum d)

  bars_predicate : (d : ℕ) → Bars (predicate factor d) behind_predicate (suc j) xs
  unfolding predicate comparison
  bars_predicate d =
      bars_bind behind_comparison behind_predicate (comparison factor d) (more (test factor d)) (suc j) xs
      (bars_bind behind_concatenation behind_comparison (concatenation factor d) (compared factor d) (suc j) xs
      (bars_concatenation d) (λ u. starts_compared d u))
      (λ u. starts_tests d u)

  bars_negation : (d : ℕ) → Bars (negation factor d) behind_predicate (suc j) xs
  unfolding negation negation_over
  bars_negation d =
      bars_knot behind_predicate (negation_over factor) (suc j) xs
      (λ F b i. bars_either behind_predicate (reaches nodes (suc i)
      (token (t.Keyword k.Not) (bind (F (suc i)) (λ a. gives (unary Not a))))) (predicate factor i) (suc j) xs
      (bars_reaches behind_predicate nodes (suc i) (token (t.Keyword k.Not)
      (bind (F (suc i)) (λ a. gives (unary Not a)))) (suc j) xs
      (bars_token behind_predicate (t.Keyword k.Not) (bind (F (suc i)) (λ a. gives (unary Not a))) j xs no_not))
      (bars_predicate i)) d

  bars_conjunction : (d : ℕ) → Bars (conjunction factor d) behind_conjunction (suc j) xs
  unfolding conjunction
  bars_conjunction d =
      bars_chain and_op (negation factor) behind_predicate behind_conjunction and_below and_before d (suc j) xs
      (bars_negation d)

  pub bars_expr : Bars expr behind_expr (suc j) xs
  unfolding expr expr_at disjunction
  bars_expr =
      bars_chain or_op (conjunction factor) behind_conjunction behind_expr or_below or_before 0 (suc j) xs
      (bars_conjunction 0)
