-- Which next token may stand behind each part of an expression; None is the end.
use Rattle.std.specs.Prelude.{◌≡◌, ◌⊎◌, Bool, true, false, not, ◌&&◌, Option, Some, None, is_some}
use Rattle.pg_lexer.specs.declared.keyword.Keyword.TheVariants as word
use Rattle.pg_lexer.specs.declared.sign.Sign.TheVariants as sign
use Rattle.pg_lexer.specs.declared.token.Token.{Token}
use Rattle.pg_lexer.specs.declared.token.Token.TheVariants.{Keyword, Sign}
use Rattle.pg_parse_expr.specs.Operators.{or_op, and_op, compare_op, concat_op, sum_op, product_op}

-- the next token has a value of f
unfoldable pub has : {X : Type 0} → (Token → Option X) → Option Token → Bool
has f None = false
has f (Some t) = is_some (f t)

-- what goes on with a name: `.` and `(`
abbrev pub goes_on : Option Token → Bool
goes_on (Some (Sign sign.Dot)) = true
goes_on (Some (Sign sign.Open)) = true
goes_on _ = false

abbrev pub is_is : Option Token → Bool
is_is (Some (Keyword word.Is)) = true
is_is _ = false

unfoldable pub behind_factor : Option Token → Bool
behind_factor t = not (goes_on t)

unfoldable pub behind_product : Option Token → Bool
behind_product t = behind_factor t && not (has product_op t)

unfoldable pub behind_sum : Option Token → Bool
behind_sum t = behind_product t && not (has sum_op t)

unfoldable pub behind_concatenation : Option Token → Bool
behind_concatenation t = behind_sum t && not (has concat_op t)

unfoldable pub behind_comparison : Option Token → Bool
behind_comparison t = behind_concatenation t && not (has compare_op t)

unfoldable pub behind_predicate : Option Token → Bool
behind_predicate t = behind_comparison t && not (is_is t)

unfoldable pub behind_conjunction : Option Token → Bool
behind_conjunction t = behind_predicate t && not (has and_op t)

-- behind an expression
unfoldable pub behind_expr : Option Token → Bool
behind_expr t = behind_conjunction t && not (has or_op t)

-- a comma or a closing bracket comes next, which ends an item of a list
abbrev pub EndsItem : Option Token → Type 0
EndsItem t = (t ≡ Some (Sign sign.Comma)) ⊎ (t ≡ Some (Sign sign.Close))
