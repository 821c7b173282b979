-- Laws of expressions.
use Rattle.std.specs.Prelude.{◌≡◌, ◌≢◌, ◌⊎◌, ℕ, List, Option, Ok, Err}
use Rattle.pg_values.specs.declared.value.Kind.{Kind}
use Rattle.pg_values.specs.declared.value.Value.{Value}
use Rattle.pg_values.specs.declared.value.Value.TheVariants.{Null}
use Rattle.pg_values.specs.Kind.{kind_of_value}
use Rattle.pg_exprs.specs.declared.evaluate.EvalFault.TheVariants.{Memory}
use Rattle.pg_exprs.specs.declared.operator.BinaryOp.TheVariants.{Compare}
use Rattle.pg_exprs.specs.declared.operator.Comparison.{Comparison}
use Rattle.pg_exprs.specs.declared.operator.Comparison.TheVariants.{Equal, NotEqual, Less, LessOrEqual, Greater, GreaterOrEqual}
use Rattle.pg_exprs.specs.Columns.{column_kind}
use Rattle.pg_exprs.specs.Environment.{Environment, column_value}
use Rattle.pg_exprs.specs.Evaluation.{eval, binary_value}
use Rattle.pg_exprs.specs.Kinds.{kind_of}
use Rattle.pg_exprs.specs.Tree.{Tree}

-- NULL is of every kind
abbrev pub HasKind : Value → Option Kind → Type 0
HasKind value kind = (value ≡ Null) ⊎ (kind_of_value value ≡ kind)

-- each column has the kind that the shape says
abbrev pub FitsShape : Environment → List (List (Option Kind)) → Type 0
FitsShape env shape = (source column : ℕ) → HasKind (column_value env source column) (column_kind shape source column)

-- over rows that fit the shape, an expression's value has the expression's kind
abbrev pub KindsAreKept : Type 0
KindsAreKept = (tree : Tree) (shape : List (List (Option Kind))) (env : Environment) (kind : Option Kind) (value : Value) →
    FitsShape env shape → kind_of tree shape ≡ Ok kind → eval tree env ≡ Ok value → HasKind value kind

-- want of memory is no part of what an expression means
abbrev pub EvaluationNeedsNoMemory : Type 0
EvaluationNeedsNoMemory = (tree : Tree) (env : Environment) → eval tree env ≢ Err Memory

-- the comparison that says the same with its sides exchanged
abbrev pub mirror_image : Comparison → Comparison
mirror_image Equal = Equal
mirror_image NotEqual = NotEqual
mirror_image Less = Greater
mirror_image LessOrEqual = GreaterOrEqual
mirror_image Greater = Less
mirror_image GreaterOrEqual = LessOrEqual

-- a comparison and its mirrored one agree
abbrev pub ComparisonsMirror : Type 0
ComparisonsMirror = (op : Comparison) (a b : Value) → binary_value (Compare op) a b ≡ binary_value (Compare (mirror_image op)) b a
