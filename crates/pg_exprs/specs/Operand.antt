-- What an evaluation holds: a value of the expression or of a row, or one that it made.
use Rattle.std.specs.Prelude.{Result, Ok, Err}
use Rattle.pg_values.specs.declared.value.Value.{Value}
use Rattle.pg_exprs.specs.declared.evaluate.EvalFault.{EvalFault}
use Rattle.pg_exprs.specs.declared.evaluate.Operand.{Operand}
use Rattle.pg_exprs.specs.declared.evaluate.Operand.TheVariants.{Literal, Column, Made}

-- the value that is held
abbrev pub operand_value : Operand → Value
operand_value (Literal value) = value.now
operand_value (Column value) = value.now
operand_value (Made value) = value

-- the value that is held, or the error
abbrev pub operand_outcome : Result Operand EvalFault → Result Value EvalFault
operand_outcome (Ok operand) = Ok (operand_value operand)
operand_outcome (Err fault) = Err fault
