-- What one token stands for in an expression.
use Rattle.std.specs.Prelude.{ℕ, true, false, List, Option, Some, None, if◌then◌else◌, nat_le, codes}
use Rattle.std.specs.Prelude.{pos}
use Rattle.pg_values.specs.declared.value.Value.{Value}
use Rattle.pg_values.specs.declared.value.Value.TheVariants as value
use Rattle.pg_exprs.specs.declared.operator.Arithmetic.TheVariants as arithmetic
use Rattle.pg_exprs.specs.declared.operator.BinaryOp.{BinaryOp}
use Rattle.pg_exprs.specs.declared.operator.BinaryOp.TheVariants as op
use Rattle.pg_exprs.specs.declared.operator.Comparison.TheVariants as comparison
use Rattle.pg_lexer.specs.declared.keyword.Keyword.{Keyword}
use Rattle.pg_lexer.specs.declared.keyword.Keyword.TheVariants as word
use Rattle.pg_lexer.specs.declared.sign.Sign.TheVariants as sign
use Rattle.pg_lexer.specs.declared.token.Token.{Token}
use Rattle.pg_lexer.specs.declared.token.Token.TheVariants as token
use Rattle.pg_lexer.specs.Keywords.{spelling, may_be_name}
use Rattle.pg_parse_expr.specs.Tree.{Tree, literal}

-- an integer literal is an integer where 32 bits hold it, and else a bigint; no token has a greater number
abbrev pub number_value : ℕ → Option Value
number_value n =
    if nat_le n 2147483647 then Some (value.Int (pos n))
    else (if nat_le n 9223372036854775807 then Some (value.Big (pos n)) else None)

abbrev pub literal_word : Keyword → Option Value
literal_word word.True = Some (value.Bool true)
literal_word word.False = Some (value.Bool false)
literal_word word.Null = Some value.Null
literal_word _ = None

-- a literal is a number, a text, TRUE, FALSE or NULL
unfoldable pub value_of : Token → Option Value
value_of (token.Integer n) = number_value n
value_of (token.Quoted text) = Some (value.Text text)
value_of (token.Keyword k) = literal_word k
value_of _ = None

-- a value as an expression
abbrev pub literal_if : Option Value → Option Tree
literal_if None = None
literal_if (Some v) = Some (literal v)

-- a literal as an expression
unfoldable pub literal_of : Token → Option Tree
literal_of t = literal_if (value_of t)

-- a name, or a reserved word that may be one
unfoldable pub name_of : Token → Option (List ℕ)
name_of (token.Name name) = Some name
name_of (token.Keyword k) = if may_be_name k then Some (spelling k) else None
name_of _ = None

-- the name that `merge_action()` begins with
unfoldable pub merge_action : List ℕ
merge_action = codes "merge_action"

abbrev pub action_name : Token
action_name = token.Name merge_action

-- the operators of each level, loosest first
unfoldable pub or_op : Token → Option BinaryOp
or_op (token.Keyword word.Or) = Some op.Or
or_op _ = None

unfoldable pub and_op : Token → Option BinaryOp
and_op (token.Keyword word.And) = Some op.And
and_op _ = None

unfoldable pub compare_op : Token → Option BinaryOp
compare_op (token.Sign sign.Equal) = Some (op.Compare comparison.Equal)
compare_op (token.Sign sign.NotEqual) = Some (op.Compare comparison.NotEqual)
compare_op (token.Sign sign.Less) = Some (op.Compare comparison.Less)
compare_op (token.Sign sign.LessOrEqual) = Some (op.Compare comparison.LessOrEqual)
compare_op (token.Sign sign.Greater) = Some (op.Compare comparison.Greater)
compare_op (token.Sign sign.GreaterOrEqual) = Some (op.Compare comparison.GreaterOrEqual)
compare_op _ = None

unfoldable pub concat_op : Token → Option BinaryOp
concat_op (token.Sign sign.Concat) = Some op.Concat
concat_op _ = None

unfoldable pub sum_op : Token → Option BinaryOp
sum_op (token.Sign sign.Plus) = Some (op.Compute arithmetic.Add)
sum_op (token.Sign sign.Minus) = Some (op.Compute arithmetic.Subtract)
sum_op _ = None

unfoldable pub product_op : Token → Option BinaryOp
product_op (token.Sign sign.Star) = Some (op.Compute arithmetic.Multiply)
product_op (token.Sign sign.Slash) = Some (op.Compute arithmetic.Divide)
product_op (token.Sign sign.Percent) = Some (op.Compute arithmetic.Remainder)
product_op _ = None
