-- The kind of a value.
use Rattle.std.specs.Prelude.{Option, Some, None}
use Rattle.pg_values.specs.declared.value.Kind.{Kind}
use Rattle.pg_values.specs.declared.value.Kind.TheVariants as kind
use Rattle.pg_values.specs.declared.value.Value.{Value}
use Rattle.pg_values.specs.declared.value.Value.TheVariants.{Null, Bool, Int, Big, Text}

-- NULL is of no kind
abbrev pub kind_of_value : Value → Option Kind
kind_of_value Null = None
kind_of_value (Bool _) = Some kind.Bool
kind_of_value (Int _) = Some kind.Int
kind_of_value (Big _) = Some kind.Big
kind_of_value (Text _) = Some kind.Text
