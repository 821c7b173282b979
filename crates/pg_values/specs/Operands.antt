-- Two operands that have been brought to one kind.
use Rattle.std.specs.Prelude.{ℤ, Option, Result, Ok}
use Rattle.pg_values.specs.declared.number.NumberFault.{NumberFault}
use Rattle.pg_values.specs.declared.number.Operands.{Operands}
use Rattle.pg_values.specs.declared.number.Operands.TheVariants as operands
use Rattle.pg_values.specs.declared.value.Value.{Value}
use Rattle.pg_values.specs.declared.value.Value.TheVariants.{Null}
use Rattle.pg_values.specs.Number.{int_value, big_value, or_zero_divisor}

-- the result on them, of their kind
abbrev pub on_operands : (ℤ → ℤ → Option ℤ) → Operands → Result Value NumberFault
on_operands op (operands.Int a b) = or_zero_divisor int_value (op a b)
on_operands op (operands.Big a b) = or_zero_divisor big_value (op a b)
on_operands op operands.Null = Ok Null
