-- What may stand behind the parts of an expression.
use Rattle.std.proofs.Common.{◌≡◌, ℕ, suc, Bool, true, false, not, List, Option, Some, ◌+◌, refl, ap}
use Rattle.std.specs.Prelude.{is_some}
use Rattle.std.proofs.lemmas.Bool.{and_parts, and_right, not_from_true}
use Rattle.pg_exprs.specs.declared.operator.BinaryOp.{BinaryOp}
use Rattle.pg_grammar.specs.Limits.{nodes}
use Rattle.pg_grammar.specs.Languages.{Lang, gives, one, bind, more}
use Rattle.pg_grammar.proofs.Words.{Starts, Bars, starts_reaches, starts_bind, starts_one, starts_more}
use Rattle.pg_lexer.specs.declared.keyword.Keyword.TheVariants as word
use Rattle.pg_lexer.specs.declared.sign.Sign.TheVariants as sign
use Rattle.pg_lexer.specs.declared.token.Token.{Token}
use Rattle.pg_lexer.specs.declared.token.Token.TheVariants as token
use Rattle.pg_parse_expr.specs.declared.level.Level.{Level}
use Rattle.pg_parse_expr.specs.declared.level.Level.TheVariants.{Or, And, Concat, Sum, Product}
use Rattle.pg_parse_expr.specs.Behind.{has, behind_factor, behind_product, behind_sum, behind_concatenation, behind_comparison, behind_predicate, behind_conjunction}
use Rattle.pg_parse_expr.specs.Grammar.{Rule, operation}
use Rattle.pg_parse_expr.specs.Levels.{op_at, operand_at, before_at, behind_at, step_at}
use Rattle.pg_parse_expr.specs.Operators.{or_op, and_op, compare_op, concat_op, sum_op, product_op}
use Rattle.pg_parse_expr.specs.Tree.{Tree, height, binary}

-- any token, and the end
abbrev pub any : Option Token → Bool
any t = true

pub starts_any : {V : Type 0} (L : Lang Token V) (g : Option Token → Bool) → Starts any L g
starts_any L g = record { starts = λ m s v z l c. refl }

pub bars_any : {V : Type 0} (L : Lang Token V) (g : Option Token → Bool) (k : ℕ) (xs : List Token) → Bars L any k xs →
    Bars L g k xs
bars_any L g k xs b = record { bars = λ m s v z e l c. b.bars m s v z e l refl }

-- behind a chain may stand what may stand behind its operands
pub behind_before : (level : Level) (t : Option Token) → behind_at level t ≡ true → before_at level t ≡ true
unfolding behind_at
behind_before level t h = (and_parts (before_at level t) (not (has (op_at level) t)) h).0

or_before : (t : Token) (x : BinaryOp) → or_op t ≡ Some x → behind_conjunction (Some t) ≡ true
unfolding or_op and_op compare_op concat_op sum_op product_op has behind_factor behind_product behind_sum behind_concatenation behind_comparison behind_predicate behind_conjunction
or_before (token.Keyword word.Or) x e = refl
or_before _ x e = absurd (cc e)

and_before : (t : Token) (x : BinaryOp) → and_op t ≡ Some x → behind_predicate (Some t) ≡ true
unfolding and_op compare_op concat_op sum_op product_op has behind_factor behind_product behind_sum behind_concatenation behind_comparison behind_predicate
and_before (token.Keyword word.And) x e = refl
and_before _ x e = absurd (cc e)

concat_before : (t : Token) (x : BinaryOp) → concat_op t ≡ Some x → behind_sum (Some t) ≡ true
unfolding concat_op sum_op product_op has behind_factor behind_product behind_sum
concat_before (token.Sign sign.Concat) x e = refl
concat_before _ x e = absurd (cc e)

sum_before : (t : Token) (x : BinaryOp) → sum_op t ≡ Some x → behind_product (Some t) ≡ true
unfolding sum_op product_op has behind_factor behind_product
sum_before (token.Sign sign.Plus) x e = refl
sum_before (token.Sign sign.Minus) x e = refl
sum_before _ x e = absurd (cc e)

product_before : (t : Token) (x : BinaryOp) → product_op t ≡ Some x → behind_factor (Some t) ≡ true
unfolding product_op behind_factor
product_before (token.Sign sign.Star) x e = refl
product_before (token.Sign sign.Slash) x e = refl
product_before (token.Sign sign.Percent) x e = refl
product_before _ x e = absurd (cc e)

pub compare_before : (t : Token) (x : BinaryOp) → compare_op t ≡ Some x → behind_concatenation (Some t) ≡ true
unfolding compare_op concat_op sum_op product_op has behind_factor behind_product behind_sum behind_concatenation
compare_before (token.Sign sign.Equal) x e = refl
compare_before (token.Sign sign.NotEqual) x e = refl
compare_before (token.Sign sign.Less) x e = refl
compare_before (token.Sign sign.LessOrEqual) x e = refl
compare_before (token.Sign sign.Greater) x e = refl
compare_before (token.Sign sign.GreaterOrEqual) x e = refl
compare_before _ x e = absurd (cc e)

-- an operator may stand behind its left operand
pub op_before : (level : Level) (t : Token) (x : BinaryOp) → op_at level t ≡ Some x → before_at level (Some t) ≡ true
op_before Or t x e = or_before t x e
op_before And t x e = and_before t x e
op_before Concat t x e = concat_before t x e
op_before Sum t x e = sum_before t x e
op_before Product t x e = product_before t x e

-- but not behind the whole
has_some : (f : Token → Option BinaryOp) (t : Token) (x : BinaryOp) → f t ≡ Some x → has f (Some t) ≡ true
unfolding has
has_some f t x e = ap is_some e

pub op_not_behind : (level : Level) (t : Token) (x : BinaryOp) → op_at level t ≡ Some x →
    behind_at level (Some t) ≡ false
unfolding behind_at
op_not_behind level t x e =
    and_right (before_at level (Some t)) (not (has (op_at level) (Some t)))
    (not_from_true (has (op_at level) (Some t)) (has_some (op_at level) t x e))

pub compare_not_behind : (t : Token) (x : BinaryOp) → compare_op t ≡ Some x → behind_comparison (Some t) ≡ false
unfolding behind_comparison
compare_not_behind t x e =
    and_right (behind_concatenation (Some t)) (not (has compare_op (Some t)))
    (not_from_true (has compare_op (Some t)) (has_some compare_op t x e))

pub comparison_before : (t : Option Token) → behind_comparison t ≡ true → behind_concatenation t ≡ true
unfolding behind_comparison
comparison_before t h = (and_parts (behind_concatenation t) (not (has compare_op t)) h).0

-- an operation begins with its operator
pub starts_operation : (op : Token → Option BinaryOp) (operand : Rule) (f : Option Token → Bool) (d : ℕ) (left : Tree)
    (g : Option Token → Bool) →
    ((t : Token) (x : BinaryOp) → op t ≡ Some x → f (Some t) ≡ true) → Starts f (operation op operand d left) g
unfolding operation
starts_operation op operand f d left g h =
    starts_reaches f g nodes (suc (d + height left)) (bind (one op)
    (λ o. bind (operand (suc d)) (λ right. gives (binary o left right))))
    (starts_bind f any g (one op) (λ o. bind (operand (suc d)) (λ right. gives (binary o left right)))
    (starts_one f any op h)
    (λ o. starts_any (bind (operand (suc d)) (λ right. gives (binary o left right))) g))

pub starts_step : (level : Level) (d : ℕ) (left : Tree) (g : Option Token → Bool) →
    Starts (before_at level) (step_at level d left) g
unfolding step_at
starts_step level d left g =
    starts_operation (op_at level) (operand_at level) (before_at level) d left g (op_before level)

pub starts_steps : (level : Level) (d : ℕ) (left : Tree) →
    Starts (before_at level) (more (step_at level d) left) (behind_at level)
starts_steps level d left =
    starts_more (before_at level) (behind_at level) (step_at level d) left
    (λ a. starts_step level d a (before_at level)) (behind_before level)
