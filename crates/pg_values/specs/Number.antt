-- Arithmetic on numbers: `+`, `-`, `*`, `/`, `%` and the sign.
use Rattle.std.specs.Prelude.{Bool, ◌&&◌, ℤ, pos, negsuc, ◌+ℤ◌, ◌-ℤ◌, ◌*ℤ◌, neg_ℤ, int_le, int_div, int_rem, Option, Some, None, Result, Ok, Err, if◌then◌else◌}
use Rattle.std.specs.Ordering.{int_eq}
use Rattle.pg_values.specs.declared.number.NumberFault.{NumberFault}
use Rattle.pg_values.specs.declared.number.NumberFault.TheVariants.{IntRange, BigRange, ZeroDivisor}
use Rattle.pg_values.specs.declared.value.Value.{Value}
use Rattle.pg_values.specs.declared.value.Value.TheVariants.{Null, Int, Big}

-- `integer` has 32 bits
abbrev pub is_int : ℤ → Bool
is_int z = int_le (negsuc 2147483647) z && int_le z (pos 2147483647)

-- `bigint` has 64 bits
abbrev pub is_big : ℤ → Bool
is_big z = int_le (negsuc 9223372036854775807) z && int_le z (pos 9223372036854775807)

-- an exact result as an integer: out of range where 32 bits do not hold it
abbrev pub int_value : ℤ → Result Value NumberFault
int_value z = if is_int z then Ok (Int z) else Err IntRange

-- an exact result as a bigint
abbrev pub big_value : ℤ → Result Value NumberFault
big_value z = if is_big z then Ok (Big z) else Err BigRange

-- a division has no result where the divisor is zero
abbrev pub or_zero_divisor : (ℤ → Result Value NumberFault) → Option ℤ → Result Value NumberFault
or_zero_divisor value None = Err ZeroDivisor
or_zero_divisor value (Some z) = value z

-- two integers give an integer, and a pair with a bigint gives a bigint;
-- NULL gives NULL, and so does all that is no number
abbrev pub on_numbers : (ℤ → ℤ → Option ℤ) → Value → Value → Result Value NumberFault
on_numbers op (Int a) (Int b) = or_zero_divisor int_value (op a b)
on_numbers op (Int a) (Big b) = or_zero_divisor big_value (op a b)
on_numbers op (Big a) (Int b) = or_zero_divisor big_value (op a b)
on_numbers op (Big a) (Big b) = or_zero_divisor big_value (op a b)
on_numbers _ _ _ = Ok Null

-- the quotient, truncated toward zero
abbrev pub quotient : ℤ → ℤ → Option ℤ
quotient a b = if int_eq b (pos 0) then None else Some (int_div a b)

-- what the quotient leaves, with the dividend's sign
abbrev pub rest : ℤ → ℤ → Option ℤ
rest a b = if int_eq b (pos 0) then None else Some (int_rem a b)

-- the sum of two values
abbrev pub add_values : Value → Value → Result Value NumberFault
add_values = on_numbers (λ a b. Some (a +ℤ b))

-- the difference of two values
abbrev pub subtract_values : Value → Value → Result Value NumberFault
subtract_values = on_numbers (λ a b. Some (a -ℤ b))

-- the product of two values
abbrev pub multiply_values : Value → Value → Result Value NumberFault
multiply_values = on_numbers (λ a b. Some (a *ℤ b))

-- the quotient of two values, truncated toward zero
abbrev pub divide_values : Value → Value → Result Value NumberFault
divide_values = on_numbers quotient

-- what the division of two values leaves
abbrev pub remainder_values : Value → Value → Result Value NumberFault
remainder_values = on_numbers rest

-- a number with the other sign, in the kind that it has
abbrev pub negate_value : Value → Result Value NumberFault
negate_value (Int a) = int_value (neg_ℤ a)
negate_value (Big a) = big_value (neg_ℤ a)
negate_value _ = Ok Null
