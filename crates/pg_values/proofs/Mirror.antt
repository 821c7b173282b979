-- A comparison with its sides exchanged answers the reverse.
use Rattle.std.proofs.Common.{◌≡◌, refl, ap}
use Rattle.std.specs.Prelude.{Some}
use Rattle.std.specs.Option.{option_map}
use Rattle.std.specs.Ordering.{ordering_reverse}
use Rattle.std.specs.Cmp.{bool_cmp_total}
use Rattle.std.proofs.lemmas.Cmp.{int_cmp_total, nat_list_cmp_total}
use Rattle.pg_values.specs.declared.value.Value.{Value}
use Rattle.pg_values.specs.declared.value.Value.TheVariants.{Null, Bool, Int, Big, Text}
use Rattle.pg_values.specs.Order.{compare_values}

pub compare_values-mirrored : (a b : Value) → compare_values b a ≡ option_map ordering_reverse (compare_values a b)
compare_values-mirrored (Bool a) (Bool b) = ap (λ o. Some o) (bool_cmp_total.antisymm b a)
compare_values-mirrored (Int a) (Int b) = ap (λ o. Some o) (int_cmp_total.antisymm b a)
compare_values-mirrored (Int a) (Big b) = ap (λ o. Some o) (int_cmp_total.antisymm b a)
compare_values-mirrored (Big a) (Int b) = ap (λ o. Some o) (int_cmp_total.antisymm b a)
compare_values-mirrored (Big a) (Big b) = ap (λ o. Some o) (int_cmp_total.antisymm b a)
compare_values-mirrored (Text a) (Text b) = ap (λ o. Some o) (nat_list_cmp_total.antisymm b a)
compare_values-mirrored Null Null = refl
compare_values-mirrored _ _ = refl
