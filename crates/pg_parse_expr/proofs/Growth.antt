-- The rules grow with what a factor is, so that a factor is what its rule makes of factors; NOT likewise.
use Rattle.std.proofs.Common.{◌+◌, ℕ, zero, suc, Option}
use Rattle.pg_exprs.specs.declared.operator.BinaryOp.{BinaryOp}
use Rattle.pg_exprs.specs.declared.operator.BinaryOp.TheVariants.{IsDistinctFrom, IsNotDistinctFrom}
use Rattle.pg_exprs.specs.declared.operator.UnaryOp.{UnaryOp}
use Rattle.pg_exprs.specs.declared.operator.UnaryOp.TheVariants.{Negate, Not, IsNull, IsNotNull}
use Rattle.pg_grammar.specs.Limits.{nodes}
use Rattle.pg_grammar.specs.Languages.{gives, token, one, bind, either, more, tie, reaches}
use Rattle.pg_grammar.proofs.Knots.{Grows, grows_same, grows_back, grows_token, grows_bind, grows_either, grows_more, grows_reaches}
use Rattle.pg_lexer.specs.declared.keyword.Keyword.TheVariants as word
use Rattle.pg_lexer.specs.declared.sign.Sign.TheVariants as sign
use Rattle.pg_lexer.specs.declared.token.Token.{Token}
use Rattle.pg_lexer.specs.declared.token.Token.TheVariants.{Keyword, Sign}
use Rattle.pg_parse_expr.specs.Grammar.{Rule, operation, chain, product, sum, concatenation, compared, comparison, tested, test, predicate, negation_over, negation, conjunction, disjunction, leaf, minus, bracket, factor_over, factor}
use Rattle.pg_parse_expr.specs.Operators.{or_op, and_op, compare_op, concat_op, sum_op, product_op}
use Rattle.pg_parse_expr.specs.Tree.{Tree, height, unary, binary}

-- a rule of factors grows with them
abbrev pub Rises : (Rule → Rule) → Type 1
Rises H = (d : ℕ) → Grows {T = Token} {U = Tree} {V = Tree} {I = ℕ} (λ F. H F d)

rises_operation : (op : Token → Option BinaryOp) (H : Rule → Rule) → Rises H → (d : ℕ) (left : Tree) →
    Grows {T = Token} {U = Tree} {V = Tree} {I = ℕ} (λ F. operation op (H F) d left)
unfolding operation
rises_operation op H g d left =
    grows_reaches nodes (suc (d + height left)) (λ F. bind (one op)
    (λ o. bind (H F (suc d)) (λ right. gives (binary o left right))))
    (grows_bind (λ F. one op) (λ o F. bind (H F (suc d)) (λ right. gives (binary o left right))) (grows_same (one op))
    (λ o. grows_bind (λ F. H F (suc d)) (λ right F. gives (binary o left right)) (g (suc d))
    (λ right. grows_same (gives (binary o left right)))))

rises_chain : (op : Token → Option BinaryOp) (H : Rule → Rule) → Rises H → Rises (λ F. chain op (H F))
unfolding chain
rises_chain op H g d =
    grows_bind (λ F. H F d) (λ x F. more (λ a. operation op (H F) d a) x) (g d)
    (λ x. grows_more (λ a F. operation op (H F) d a) x (λ a. rises_operation op H g d a))

rises_product : Rises product
unfolding product
rises_product = rises_chain product_op (λ F. F) (λ d. grows_back d)

rises_sum : Rises sum
unfolding sum
rises_sum = rises_chain sum_op product rises_product

rises_concatenation : Rises concatenation
unfolding concatenation
rises_concatenation = rises_chain concat_op sum rises_sum

rises_compared : (d : ℕ) (left : Tree) → Grows {T = Token} {U = Tree} {V = Tree} {I = ℕ} (λ F. compared F d left)
unfolding compared
rises_compared d left =
    grows_either (λ F. operation compare_op (concatenation F) d left) (λ F. gives left)
    (rises_operation compare_op concatenation rises_concatenation d left) (grows_same (gives left))

rises_comparison : Rises comparison
unfolding comparison
rises_comparison d =
    grows_bind (λ F. concatenation F d) (λ x F. compared F d x) (rises_concatenation d) (λ x. rises_compared d x)

rises_tested : (null : UnaryOp) (distinct : BinaryOp) (d : ℕ) (left : Tree) →
    Grows {T = Token} {U = Tree} {V = Tree} {I = ℕ} (λ F. tested null distinct F d left)
unfolding tested
rises_tested null distinct d left =
    grows_either (λ F. token (Keyword word.Null) (gives (unary null left)))
    (λ F. token (Keyword word.Distinct) (token (Keyword word.From)
    (bind (concatenation F (suc d)) (λ right. gives (binary distinct left right)))))
    (grows_same (token (Keyword word.Null) (gives (unary null left))))
    (grows_token (Keyword word.Distinct) (λ F. token (Keyword word.From)
    (bind (concatenation F (suc d)) (λ right. gives (binary distinct left right))))
    (grows_token (Keyword word.From) (λ F. bind (concatenation F (suc d)) (λ right. gives (binary distinct left right)))
    (grows_bind (λ F. concatenation F (suc d)) (λ right F. gives (binary distinct left right))
    (rises_concatenation (suc d))
    (λ right. grows_same (gives (binary distinct left right))))))

rises_test : (d : ℕ) (left : Tree) → Grows {T = Token} {U = Tree} {V = Tree} {I = ℕ} (λ F. test F d left)
unfolding test
rises_test d left =
    grows_reaches nodes (suc (d + height left))
    (λ F. token (Keyword word.Is) (either (token (Keyword word.Not) (tested IsNotNull IsNotDistinctFrom F d left))
    (tested IsNull IsDistinctFrom F d left)))
    (grows_token (Keyword word.Is)
    (λ F. either (token (Keyword word.Not) (tested IsNotNull IsNotDistinctFrom F d left))
    (tested IsNull IsDistinctFrom F d left))
    (grows_either (λ F. token (Keyword word.Not) (tested IsNotNull IsNotDistinctFrom F d left))
    (λ F. tested IsNull IsDistinctFrom F d left)
    (grows_token (Keyword word.Not) (λ F. tested IsNotNull IsNotDistinctFrom F d left)
    (rises_tested IsNotNull IsNotDistinctFrom d left))
    (rises_tested IsNull IsDistinctFrom d left)))

rises_predicate : Rises predicate
unfolding predicate
rises_predicate d =
    grows_bind (λ F. comparison F d) (λ x F. more (λ a. test F d a) x) (rises_comparison d)
    (λ x. grows_more (λ a F. test F d a) x (λ a. rises_test d a))

abbrev nots : (Rule → Rule) → Rule → Rule
nots N F d = reaches nodes (suc d) (token (Keyword word.Not) (bind (N F (suc d)) (λ a. gives (unary Not a))))

rises_nots : (N : Rule → Rule) → Rises N → Rises (nots N)
rises_nots N g d =
    grows_reaches nodes (suc d) (λ F. token (Keyword word.Not) (bind (N F (suc d)) (λ a. gives (unary Not a))))
    (grows_token (Keyword word.Not) (λ F. bind (N F (suc d)) (λ a. gives (unary Not a)))
    (grows_bind (λ F. N F (suc d)) (λ a F. gives (unary Not a)) (g (suc d)) (λ a. grows_same (gives (unary Not a)))))

rises_tie : (n : ℕ) → Rises (λ F. tie (negation_over F) n)
unfolding negation_over
rises_tie zero d = grows_same (λ m s v z. ⊥)
rises_tie (suc n) d =
    grows_either (λ F. tie (negation_over F) n d) (λ F. negation_over F (tie (negation_over F) n) d) (rises_tie n d)
    (grows_either (λ F. nots (λ G. tie (negation_over G) n) F d) (λ F. predicate F d)
    (rises_nots (λ G. tie (negation_over G) n) (rises_tie n) d) (rises_predicate d))

rises_negation : Rises negation
unfolding negation
rises_negation d = record {
  grows = λ F G w. record { has = λ m s v z l. (l.0, ((rises_tie l.0 d).grows F G w).has m s v z l.1) };
  needs = λ C c m s v z l. let n = (rises_tie l.0 d).needs C c m s v z l.1 in (n.0, (l.0, n.1));
}

rises_conjunction : Rises conjunction
unfolding conjunction
rises_conjunction = rises_chain and_op negation rises_negation

rises_disjunction : Rises disjunction
unfolding disjunction
rises_disjunction = rises_chain or_op conjunction rises_conjunction

rises_minus : Rises minus
unfolding minus
rises_minus d =
    grows_reaches nodes (suc d) (λ F. token (Sign sign.Minus) (bind (F (suc d)) (λ a. gives (unary Negate a))))
    (grows_token (Sign sign.Minus) (λ F. bind (F (suc d)) (λ a. gives (unary Negate a)))
    (grows_bind (λ F. F (suc d)) (λ a F. gives (unary Negate a)) (grows_back (suc d))
    (λ a. grows_same (gives (unary Negate a)))))

rises_bracket : Rises bracket
unfolding bracket
rises_bracket d =
    grows_token (Sign sign.Open) (λ F. bind (disjunction F d) (λ e. token (Sign sign.Close) (gives e)))
    (grows_bind (λ F. disjunction F d) (λ e F. token (Sign sign.Close) (gives e)) (rises_disjunction d)
    (λ e. grows_same (token (Sign sign.Close) (gives e))))

pub rises_factor : Rises factor_over
unfolding factor_over
rises_factor d =
    grows_either (λ F. either (leaf d) (minus F d)) (λ F. bracket F d)
    (grows_either (λ F. leaf d) (λ F. minus F d) (grows_same (leaf d)) (rises_minus d)) (rises_bracket d)

-- NOT over the predicates of factors
pub rises_not : Rises (negation_over factor)
unfolding negation_over
rises_not d =
    grows_either (λ N. nots (λ M. M) N d) (λ N. predicate factor d) (rises_nots (λ M. M) (λ k. grows_back k) d)
    (grows_same (predicate factor d))
