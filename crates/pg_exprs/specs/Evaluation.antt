-- The value of an expression.
use Rattle.std.specs.Prelude.{Bool, true, false, not, Option, Some, None, Result, Ok, Err, if◌then◌else◌}
use Rattle.std.specs.declared.cmp.Ordering.{Ordering}
use Rattle.std.specs.Ordering.{is_eq, is_ne, is_lt, is_le, is_gt, is_ge}
use Rattle.pg_values.specs.declared.concatenation.TextFault.{TextFault}
use Rattle.pg_values.specs.declared.concatenation.TextFault.TheVariants as text_fault
use Rattle.pg_values.specs.declared.number.NumberFault.{NumberFault}
use Rattle.pg_values.specs.declared.number.NumberFault.TheVariants as number_fault
use Rattle.pg_values.specs.declared.value.Value.{Value}
use Rattle.pg_values.specs.declared.value.Value.TheVariants.{Null, Bool as OfBool}
use Rattle.pg_values.specs.Concat.{concat_values}
use Rattle.pg_values.specs.Number.{add_values, subtract_values, multiply_values, divide_values, remainder_values, negate_value}
use Rattle.pg_values.specs.Order.{compare_values}
use Rattle.pg_values.specs.Truth.{and_truths, or_truths, not_truth}
use Rattle.pg_exprs.specs.declared.evaluate.EvalFault.{EvalFault}
use Rattle.pg_exprs.specs.declared.evaluate.EvalFault.TheVariants.{IntRange, BigRange, ZeroDivisor, TooLong, Memory}
use Rattle.pg_exprs.specs.declared.operator.Arithmetic.{Arithmetic}
use Rattle.pg_exprs.specs.declared.operator.Arithmetic.TheVariants.{Add, Subtract, Multiply, Divide, Remainder}
use Rattle.pg_exprs.specs.declared.operator.BinaryOp.{BinaryOp}
use Rattle.pg_exprs.specs.declared.operator.BinaryOp.TheVariants.{Or, And, IsDistinctFrom, IsNotDistinctFrom, Compare, Concat, Compute}
use Rattle.pg_exprs.specs.declared.operator.Comparison.{Comparison}
use Rattle.pg_exprs.specs.declared.operator.Comparison.TheVariants.{Equal, NotEqual, Less, LessOrEqual, Greater, GreaterOrEqual}
use Rattle.pg_exprs.specs.declared.operator.UnaryOp.{UnaryOp}
use Rattle.pg_exprs.specs.declared.operator.UnaryOp.TheVariants.{Not, IsNull, IsNotNull, Negate}
use Rattle.pg_exprs.specs.Environment.{Environment, column_value, action_value}
use Rattle.pg_exprs.specs.Tree.{Tree, literal, column, action, unary, binary}

-- a boolean value as a truth, where NULL is None; and back
abbrev pub truth_of : Value → Option Bool
truth_of (OfBool b) = Some b
truth_of _ = None

-- a truth as a boolean value, where None is NULL
abbrev pub truth_value : Option Bool → Value
truth_value (Some b) = OfBool b
truth_value None = Null

-- whether a value is NULL
abbrev pub is_null : Value → Bool
is_null Null = true
is_null _ = false

-- `IS DISTINCT FROM`: two NULLs are not distinct, and NULL is distinct from all else
abbrev pub differ : Option Ordering → Bool
differ (Some order) = is_ne order
differ None = true

-- whether two values are distinct
abbrev pub are_distinct : Value → Value → Bool
are_distinct Null Null = false
are_distinct a b = differ (compare_values a b)

-- the orders at which a comparison is true; with NULL it is NULL
abbrev pub holds_at : Comparison → Ordering → Bool
holds_at Equal order = is_eq order
holds_at NotEqual order = is_ne order
holds_at Less order = is_lt order
holds_at LessOrEqual order = is_le order
holds_at Greater order = is_gt order
holds_at GreaterOrEqual order = is_ge order

-- the value of a comparison of two values in this order; None, where one of them is NULL, gives NULL
abbrev pub comparison_value : Comparison → Option Ordering → Value
comparison_value _ None = Null
comparison_value op (Some order) = OfBool (holds_at op order)

-- the errors of numbers and of texts, as errors of an evaluation
abbrev pub number_cause : NumberFault → EvalFault
number_cause number_fault.IntRange = IntRange
number_cause number_fault.BigRange = BigRange
number_cause number_fault.ZeroDivisor = ZeroDivisor

-- an error of texts as an error of an evaluation
abbrev pub text_cause : TextFault → EvalFault
text_cause text_fault.TooLong = TooLong
text_cause text_fault.Memory = Memory

-- the outcome of an operator on numbers as the outcome of an evaluation
abbrev pub number_outcome : Result Value NumberFault → Result Value EvalFault
number_outcome (Ok value) = Ok value
number_outcome (Err fault) = Err (number_cause fault)

-- the outcome of an operator on texts as the outcome of an evaluation
abbrev pub text_outcome : Result Value TextFault → Result Value EvalFault
text_outcome (Ok value) = Ok value
text_outcome (Err fault) = Err (text_cause fault)

-- the five operators on numbers
abbrev pub arithmetic_value : Arithmetic → Value → Value → Result Value NumberFault
arithmetic_value Add a b = add_values a b
arithmetic_value Subtract a b = subtract_values a b
arithmetic_value Multiply a b = multiply_values a b
arithmetic_value Divide a b = divide_values a b
arithmetic_value Remainder a b = remainder_values a b

-- an operator on one value, and on two
abbrev pub unary_value : UnaryOp → Value → Result Value EvalFault
unary_value Not a = Ok (truth_value (not_truth (truth_of a)))
unary_value IsNull a = Ok (OfBool (is_null a))
unary_value IsNotNull a = Ok (OfBool (not (is_null a)))
unary_value Negate a = number_outcome (negate_value a)

-- an operator on two values
abbrev pub binary_value : BinaryOp → Value → Value → Result Value EvalFault
binary_value Or a b = Ok (truth_value (or_truths (truth_of a) (truth_of b)))
binary_value And a b = Ok (truth_value (and_truths (truth_of a) (truth_of b)))
binary_value IsDistinctFrom a b = Ok (OfBool (are_distinct a b))
binary_value IsNotDistinctFrom a b = Ok (OfBool (not (are_distinct a b)))
binary_value (Compare op) a b = Ok (comparison_value op (compare_values a b))
binary_value Concat a b = text_outcome (concat_values a b)
binary_value (Compute op) a b = number_outcome (arithmetic_value op a b)

-- false decides AND and true decides OR, whatever stands to the right
abbrev pub decides : BinaryOp → Value → Bool
decides And (OfBool false) = true
decides Or (OfBool true) = true
decides _ _ = false

-- the operand's error is the operator's
abbrev pub unary_outcome : UnaryOp → Result Value EvalFault → Result Value EvalFault
unary_outcome op (Err fault) = Err fault
unary_outcome op (Ok a) = unary_value op a

-- the left side comes first; where it decides, the right side and its error do not count
abbrev pub right_outcome : BinaryOp → Value → Result Value EvalFault → Result Value EvalFault
right_outcome op a (Err fault) = Err fault
right_outcome op a (Ok b) = binary_value op a b

-- the left side's error is the operator's; else the right side counts unless the left side decides
abbrev pub binary_outcome : BinaryOp → Result Value EvalFault → Result Value EvalFault → Result Value EvalFault
binary_outcome op (Err fault) _ = Err fault
binary_outcome op (Ok a) right = if decides op a then Ok a else right_outcome op a right

-- the value of an expression, or its first error
abbrev pub eval : Tree → Environment → Result Value EvalFault
eval (literal value) env = Ok value
eval (column source number) env = Ok (column_value env source number)
eval action env = Ok (action_value env)
eval (unary op a) env = unary_outcome op (eval a env)
eval (binary op a b) env = binary_outcome op (eval a env) (eval b env)
