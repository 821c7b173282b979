-- Laws of the operators.
use Rattle.std.specs.Prelude.{◌≡◌, ◌<◌, Bool, ℤ, pos, ◌+ℤ◌, ◌*ℤ◌, ◌≤ℤ◌, unsigned_abs, Option, Some, Ok, ◌⊎◌}
use Rattle.std.specs.Option.{option_map}
use Rattle.std.specs.Ordering.{ordering_reverse}
use Rattle.pg_values.specs.declared.value.Kind.{Kind}
use Rattle.pg_values.specs.declared.value.Value.{Value}
use Rattle.pg_values.specs.declared.value.Value.TheVariants.{Null}
use Rattle.pg_values.specs.Fit.{fit_value}
use Rattle.pg_values.specs.Kind.{kind_of_value}
use Rattle.pg_values.specs.Number.{quotient, rest}
use Rattle.pg_values.specs.Order.{compare_values}
use Rattle.pg_values.specs.Truth.{and_truths, or_truths, not_truth}

-- AND and OR are each other's mirror under NOT
abbrev pub AndMirrorsOr : Type 0
AndMirrorsOr = (a b : Option Bool) → not_truth (and_truths a b) ≡ or_truths (not_truth a) (not_truth b)

-- and the other way round
abbrev pub OrMirrorsAnd : Type 0
OrMirrorsAnd = (a b : Option Bool) → not_truth (or_truths a b) ≡ and_truths (not_truth a) (not_truth b)

-- with its sides exchanged a comparison answers the reverse
abbrev pub CompareMirrors : Type 0
CompareMirrors = (a b : Value) → compare_values b a ≡ option_map ordering_reverse (compare_values a b)

-- the remainder r of a division of a by b with the quotient q: it is what the quotient leaves of a,
-- it is nearer to zero than b, and it has the sign of a
pub record IsRemainder (a b q r : ℤ) : Type 0 where
  pub leaves : q *ℤ b +ℤ r ≡ a
  pub less : unsigned_abs r < unsigned_abs b
  pub not_negative : pos 0 ≤ℤ a → pos 0 ≤ℤ r
  pub not_positive : a ≤ℤ pos 0 → r ≤ℤ pos 0

-- division and remainder go together
abbrev pub DivisionLeavesRemainder : Type 0
DivisionLeavesRemainder = (a b q r : ℤ) → quotient a b ≡ Some q → rest a b ≡ Some r → IsRemainder a b q r

-- what is stored in a column is NULL or of the column's kind
abbrev pub FittedHasKind : Type 0
FittedHasKind = (value fitted : Value) (kind : Kind) → fit_value value kind ≡ Ok fitted →
    (fitted ≡ Null) ⊎ (kind_of_value fitted ≡ Some kind)
