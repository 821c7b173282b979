-- A value that is stored in a column takes the column's kind.
use Rattle.std.specs.Prelude.{Result, Ok}
use Rattle.pg_values.specs.declared.number.NumberFault.{NumberFault}
use Rattle.pg_values.specs.declared.value.Kind.{Kind}
use Rattle.pg_values.specs.declared.value.Kind.TheVariants as kind
use Rattle.pg_values.specs.declared.value.Value.{Value}
use Rattle.pg_values.specs.declared.value.Value.TheVariants.{Null, Bool, Int, Big, Text}
use Rattle.pg_values.specs.Number.{int_value}

-- an integer widens, and a bigint narrows where 32 bits hold it; every other value keeps its kind.
-- NULL, and what has no form in the kind, is NULL
abbrev pub fit_value : Value → Kind → Result Value NumberFault
fit_value (Bool b) kind.Bool = Ok (Bool b)
fit_value (Int n) kind.Int = Ok (Int n)
fit_value (Int n) kind.Big = Ok (Big n)
fit_value (Big n) kind.Int = int_value n
fit_value (Big n) kind.Big = Ok (Big n)
fit_value (Text t) kind.Text = Ok (Text t)
fit_value _ _ = Ok Null
