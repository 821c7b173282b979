-- A comparison and its mirrored one agree.
use Rattle.std.proofs.Common.{◌≡◌, Option, Some, None, Ok, refl, sym, ap, ◌∙◌}
use Rattle.std.specs.declared.cmp.Ordering.{Ordering}
use Rattle.std.specs.declared.cmp.Ordering.TheVariants as order
use Rattle.std.specs.Option.{option_map}
use Rattle.std.specs.Ordering.{ordering_reverse}
use Rattle.pg_values.specs.declared.value.Value.{Value}
use Rattle.pg_values.specs.Order.{compare_values}
use Rattle.pg_values.proofs.Mirror.{compare_values-mirrored}
use Rattle.pg_exprs.specs.declared.operator.BinaryOp.TheVariants.{Compare}
use Rattle.pg_exprs.specs.declared.operator.Comparison.{Comparison}
use Rattle.pg_exprs.specs.declared.operator.Comparison.TheVariants.{Equal, NotEqual, Less, LessOrEqual, Greater, GreaterOrEqual}
use Rattle.pg_exprs.specs.Evaluation.{binary_value, comparison_value}
use Rattle.pg_exprs.specs.Laws.{mirror_image}

reversed : (op : Comparison) (o : Option Ordering) → comparison_value op o ≡ comparison_value (mirror_image op) (option_map ordering_reverse o)
reversed _ None = refl
reversed Equal (Some order.Less) = refl
reversed Equal (Some order.Equal) = refl
reversed Equal (Some order.Greater) = refl
reversed NotEqual (Some order.Less) = refl
reversed NotEqual (Some order.Equal) = refl
reversed NotEqual (Some order.Greater) = refl
reversed Less (Some order.Less) = refl
reversed Less (Some order.Equal) = refl
reversed Less (Some order.Greater) = refl
reversed LessOrEqual (Some order.Less) = refl
reversed LessOrEqual (Some order.Equal) = refl
reversed LessOrEqual (Some order.Greater) = refl
reversed Greater (Some order.Less) = refl
reversed Greater (Some order.Equal) = refl
reversed Greater (Some order.Greater) = refl
reversed GreaterOrEqual (Some order.Less) = refl
reversed GreaterOrEqual (Some order.Equal) = refl
reversed GreaterOrEqual (Some order.Greater) = refl

pub comparisons_mirror : (op : Comparison) (a b : Value) → binary_value (Compare op) a b ≡ binary_value (Compare (mirror_image op)) b a
comparisons_mirror op a b =
    ap Ok (reversed op (compare_values a b) ∙ ap (comparison_value (mirror_image op)) (sym (compare_values-mirrored a b)))
