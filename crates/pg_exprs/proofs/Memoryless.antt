-- The definition of an expression's value knows no want of memory.
use Rattle.std.proofs.Common.{◌≢◌, Bool, true, false, ℕ, List}
use Rattle.std.specs.Prelude.{◌++◌, length, nat_le, Result, Ok, Err, if◌then◌else◌}
use Rattle.pg_values.specs.declared.concatenation.TextFault.TheVariants.{TooLong}
use Rattle.pg_values.specs.declared.number.NumberFault.{NumberFault}
use Rattle.pg_values.specs.declared.number.NumberFault.TheVariants.{IntRange, BigRange, ZeroDivisor}
use Rattle.pg_values.specs.declared.value.Value.{Value}
use Rattle.pg_values.specs.declared.value.Value.TheVariants.{Text}
use Rattle.pg_values.specs.Concat.{concat_values}
use Rattle.pg_values.specs.Number.{negate_value}
use Rattle.pg_exprs.specs.declared.evaluate.EvalFault.{EvalFault}
use Rattle.pg_exprs.specs.declared.evaluate.EvalFault.TheVariants.{Memory}
use Rattle.pg_exprs.specs.declared.operator.BinaryOp.{BinaryOp}
use Rattle.pg_exprs.specs.declared.operator.BinaryOp.TheVariants.{Or, And, IsDistinctFrom, IsNotDistinctFrom, Compare, Concat, Compute}
use Rattle.pg_exprs.specs.declared.operator.UnaryOp.{UnaryOp}
use Rattle.pg_exprs.specs.declared.operator.UnaryOp.TheVariants.{Not, IsNull, IsNotNull, Negate}
use Rattle.pg_exprs.specs.Environment.{Environment}
use Rattle.pg_exprs.specs.Evaluation.{number_outcome, text_outcome, arithmetic_value, unary_value, binary_value, decides, unary_outcome, right_outcome, binary_outcome, eval}
use Rattle.pg_exprs.specs.Tree.{Tree, literal, column, action, unary, binary}

of_numbers : (r : Result Value NumberFault) → number_outcome r ≢ Err Memory
of_numbers (Ok value) e = cc
of_numbers (Err IntRange) e = cc
of_numbers (Err BigRange) e = cc
of_numbers (Err ZeroDivisor) e = cc

of_joined : (fits : Bool) (t : List ℕ) → text_outcome (if fits then Ok (Text t) else Err TooLong) ≢ Err Memory
of_joined true t e = cc
of_joined false t e = cc

of_texts : (a b : Value) → text_outcome (concat_values a b) ≢ Err Memory
of_texts (Text a) (Text b) e = of_joined (nat_le (length (a ++ b)) 4096) (a ++ b) e
of_texts _ _ e = cc

of_unary : (op : UnaryOp) (a : Value) → unary_value op a ≢ Err Memory
of_unary Not a e = cc
of_unary IsNull a e = cc
of_unary IsNotNull a e = cc
of_unary Negate a e = of_numbers (negate_value a) e

of_binary : (op : BinaryOp) (a b : Value) → binary_value op a b ≢ Err Memory
of_binary Or a b e = cc
of_binary And a b e = cc
of_binary IsDistinctFrom a b e = cc
of_binary IsNotDistinctFrom a b e = cc
of_binary (Compare op) a b e = cc
of_binary Concat a b e = of_texts a b e
of_binary (Compute op) a b e = of_numbers (arithmetic_value op a b) e

of_operand : (op : UnaryOp) (r : Result Value EvalFault) → r ≢ Err Memory → unary_outcome op r ≢ Err Memory
of_operand op (Ok a) h e = of_unary op a e
of_operand op (Err fault) h e = h e

of_right : (op : BinaryOp) (decided : Bool) (a : Value) (right : Result Value EvalFault) → right ≢ Err Memory →
    (if decided then Ok a else right_outcome op a right) ≢ Err Memory
of_right op true a right h e = cc
of_right op false a (Ok b) h e = of_binary op a b e
of_right op false a (Err fault) h e = h e

of_operands : (op : BinaryOp) (left right : Result Value EvalFault) → left ≢ Err Memory → right ≢ Err Memory →
    binary_outcome op left right ≢ Err Memory
of_operands op (Ok a) right hl hr e = of_right op (decides op a) a right hr e
of_operands op (Err fault) right hl hr e = hl e

pub memoryless : (tree : Tree) (env : Environment) → eval tree env ≢ Err Memory
memoryless (literal value) env e = cc
memoryless (column source number) env e = cc
memoryless action env e = cc
memoryless (unary op a) env e = of_operand op (eval a env) (memoryless a env) e
memoryless (binary op a b) env e = of_operands op (eval a env) (eval b env) (memoryless a env) (memoryless b env) e
