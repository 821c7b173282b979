-- `||`.
use Rattle.std.specs.Prelude.{nat_le, ◌++◌, length, Result, Ok, Err, if◌then◌else◌}
use Rattle.pg_values.specs.declared.concatenation.TextFault.{TextFault}
use Rattle.pg_values.specs.declared.concatenation.TextFault.TheVariants.{TooLong}
use Rattle.pg_values.specs.declared.value.Value.{Value}
use Rattle.pg_values.specs.declared.value.Value.TheVariants.{Null, Text}

-- one text behind the other: too long past 4,096 bytes; NULL gives NULL, and so does all that is no text
abbrev pub concat_values : Value → Value → Result Value TextFault
concat_values (Text a) (Text b) = if nat_le (length (a ++ b)) 4096 then Ok (Text (a ++ b)) else Err TooLong
concat_values _ _ = Ok Null
