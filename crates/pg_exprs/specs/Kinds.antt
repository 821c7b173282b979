-- The kind of an expression.
use Rattle.std.specs.Prelude.{Bool, true, false, ◌&&◌, ◌||◌, List, Option, Some, None, Result, Ok, Err, if◌then◌else◌}
use Rattle.pg_values.specs.declared.value.Kind.{Kind}
use Rattle.pg_values.specs.declared.value.Kind.TheVariants as kind
use Rattle.pg_values.specs.Kind.{kind_of_value}
use Rattle.pg_exprs.specs.declared.kinds.KindFault.{KindFault}
use Rattle.pg_exprs.specs.declared.kinds.KindFault.TheVariants.{NoOperator}
use Rattle.pg_exprs.specs.declared.operator.BinaryOp.{BinaryOp}
use Rattle.pg_exprs.specs.declared.operator.BinaryOp.TheVariants.{Or, And, IsDistinctFrom, IsNotDistinctFrom, Compare, Concat, Compute}
use Rattle.pg_exprs.specs.declared.operator.UnaryOp.{UnaryOp}
use Rattle.pg_exprs.specs.declared.operator.UnaryOp.TheVariants.{Not, IsNull, IsNotNull, Negate}
use Rattle.pg_exprs.specs.Columns.{column_kind}
use Rattle.pg_exprs.specs.Tree.{Tree, literal, column, action, unary, binary}

-- a bare NULL has no kind and is taken as boolean, number or text, as what stands beside it asks
abbrev pub is_boolean : Option Kind → Bool
is_boolean None = true
is_boolean (Some kind.Bool) = true
is_boolean _ = false

-- what may stand where a number is asked for
abbrev pub is_number : Option Kind → Bool
is_number None = true
is_number (Some kind.Int) = true
is_number (Some kind.Big) = true
is_number _ = false

-- what may stand where a text is asked for
abbrev pub is_text : Option Kind → Bool
is_text None = true
is_text (Some kind.Text) = true
is_text _ = false

-- two booleans, two numbers or two texts
abbrev pub are_comparable : Option Kind → Option Kind → Bool
are_comparable a b = (is_boolean a && is_boolean b) || (is_number a && is_number b) || (is_text a && is_text b)

-- the kind, where the operands are taken
abbrev pub kind_if : Bool → Kind → Result (Option Kind) KindFault
kind_if taken kind = if taken then Ok (Some kind) else Err NoOperator

-- numbers of which one is a bigint give a bigint, others an integer
abbrev pub number_kind : Option Kind → Option Kind → Kind
number_kind (Some kind.Big) _ = kind.Big
number_kind _ (Some kind.Big) = kind.Big
number_kind _ _ = kind.Int

-- the kind of an operator on numbers
abbrev pub arithmetic_kind : Option Kind → Option Kind → Result (Option Kind) KindFault
arithmetic_kind a b = kind_if (is_number a && is_number b) (number_kind a b)

-- the kind of an operator over an operand of this kind
abbrev pub unary_kind : UnaryOp → Option Kind → Result (Option Kind) KindFault
unary_kind Not a = kind_if (is_boolean a) kind.Bool
unary_kind IsNull _ = Ok (Some kind.Bool)
unary_kind IsNotNull _ = Ok (Some kind.Bool)
unary_kind Negate a = arithmetic_kind a None

-- the kind of an operator between operands of these kinds
abbrev pub binary_kind : BinaryOp → Option Kind → Option Kind → Result (Option Kind) KindFault
binary_kind Or a b = kind_if (is_boolean a && is_boolean b) kind.Bool
binary_kind And a b = kind_if (is_boolean a && is_boolean b) kind.Bool
binary_kind IsDistinctFrom a b = kind_if (are_comparable a b) kind.Bool
binary_kind IsNotDistinctFrom a b = kind_if (are_comparable a b) kind.Bool
binary_kind (Compare _) a b = kind_if (are_comparable a b) kind.Bool
binary_kind Concat a b = kind_if (is_text a && is_text b) kind.Text
binary_kind (Compute _) a b = arithmetic_kind a b

-- an operand without a kind leaves none
abbrev pub unary_kind_of : UnaryOp → Result (Option Kind) KindFault → Result (Option Kind) KindFault
unary_kind_of op (Ok a) = unary_kind op a
unary_kind_of op (Err fault) = Err fault

-- an operand without a kind leaves none; the left one comes first
abbrev pub binary_kind_of : BinaryOp → Result (Option Kind) KindFault → Result (Option Kind) KindFault → Result (Option Kind) KindFault
binary_kind_of op (Ok a) (Ok b) = binary_kind op a b
binary_kind_of op (Ok a) (Err fault) = Err fault
binary_kind_of op (Err fault) _ = Err fault

-- the kind of an expression over sources of these shapes: None for a bare NULL
abbrev pub kind_of : Tree → List (List (Option Kind)) → Result (Option Kind) KindFault
kind_of (literal value) shape = Ok (kind_of_value value)
kind_of (column source number) shape = Ok (column_kind shape source number)
kind_of action shape = Ok (Some kind.Text)
kind_of (unary op a) shape = unary_kind_of op (kind_of a shape)
kind_of (binary op a b) shape = binary_kind_of op (kind_of a shape) (kind_of b shape)
