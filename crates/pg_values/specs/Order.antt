-- How `<`, `=` and `>` compare two values.
use Rattle.std.specs.Prelude.{Option, Some, None}
use Rattle.std.specs.declared.cmp.Ordering.{Ordering}
use Rattle.std.specs.Ordering.{bool_cmp, int_cmp, nat_cmp}
use Rattle.std.specs.Cmp.Lexicographic.{slice_cmp}
use Rattle.pg_values.specs.declared.value.Value.{Value}
use Rattle.pg_values.specs.declared.value.Value.TheVariants.{Bool, Int, Big, Text}

-- false is less than true, numbers compare as numbers whatever their kinds, and texts byte by byte;
-- None where one is NULL, or where the kinds do not compare
abbrev pub compare_values : Value → Value → Option Ordering
compare_values (Bool a) (Bool b) = Some (bool_cmp a b)
compare_values (Int a) (Int b) = Some (int_cmp a b)
compare_values (Int a) (Big b) = Some (int_cmp a b)
compare_values (Big a) (Int b) = Some (int_cmp a b)
compare_values (Big a) (Big b) = Some (int_cmp a b)
compare_values (Text a) (Text b) = Some (slice_cmp nat_cmp a b)
compare_values _ _ = None
