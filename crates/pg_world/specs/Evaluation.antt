-- What an expression is worth in a statement, or the error that the statement fails with.
use Rattle.std.specs.Prelude.{Bool, true, false, List, [], ◌∷◌, Result, Ok, Err}
use Rattle.pg_values.specs.declared.number.NumberFault.{NumberFault}
use Rattle.pg_values.specs.declared.number.NumberFault.TheVariants as number_fault
use Rattle.pg_values.specs.declared.value.Kind.{Kind}
use Rattle.pg_values.specs.declared.value.Value.{Value}
use Rattle.pg_values.specs.declared.value.Value.TheVariants.{Bool as OfBool}
use Rattle.pg_values.specs.Fit.{fit_value}
use Rattle.pg_exprs.specs.declared.evaluate.EvalFault.{EvalFault}
use Rattle.pg_exprs.specs.declared.evaluate.EvalFault.TheVariants as eval_fault
use Rattle.pg_exprs.specs.Environment.{Environment}
use Rattle.pg_exprs.specs.Evaluation.{eval}
use Rattle.pg_exprs.specs.Tree.{Tree}
use Rattle.pg_model.specs.declared.error.SqlError.{SqlError}
use Rattle.pg_model.specs.declared.error.SqlError.TheVariants as error

-- a value, or the error that a statement fails with
abbrev pub OrError : Type 0 → Type 0
OrError X = Result X SqlError

-- the error of a statement whose expression has no value; want of memory is none of these errors,
-- and its case does not arise
abbrev pub evaluation_error : EvalFault → SqlError
evaluation_error eval_fault.IntRange = error.IntRange
evaluation_error eval_fault.BigRange = error.BigRange
evaluation_error eval_fault.ZeroDivisor = error.ZeroDivisor
evaluation_error eval_fault.TooLong = error.TooLong
evaluation_error eval_fault.Memory = error.TooLong

-- the error of a statement that stores a number where it does not fit
abbrev pub number_error : NumberFault → SqlError
number_error number_fault.IntRange = error.IntRange
number_error number_fault.BigRange = error.BigRange
number_error number_fault.ZeroDivisor = error.ZeroDivisor

-- the result with its fault as an error of the statement
abbrev pub with_error : {X F : Type 0} → (F → SqlError) → Result X F → OrError X
with_error error_of (Ok value) = Ok value
with_error error_of (Err fault) = Err (error_of fault)

-- the value of an expression over the rows of its sources
abbrev pub value_of : Tree → Environment → OrError Value
value_of tree env = with_error evaluation_error (eval tree env)

-- the value, as a column of that kind stores it
abbrev pub fitted_value : Kind → Value → OrError Value
fitted_value kind value = with_error number_error (fit_value value kind)

-- a WHERE passes on true only: not on false, and not on NULL
abbrev pub is_true : Value → Bool
is_true (OfBool true) = true
is_true _ = false

-- what is made of a value, where there is one
abbrev pub if_valued : {X Y : Type 0} → (X → OrError Y) → OrError X → OrError Y
if_valued make (Ok value) = make value
if_valued make (Err error) = Err error

-- the same, where nothing can fail
abbrev pub with_value : {X Y : Type 0} → (X → Y) → OrError X → OrError Y
with_value make (Ok value) = Ok (make value)
with_value make (Err error) = Err error

-- one value more in front of others: the first error counts
abbrev pub value_before : {X : Type 0} → OrError X → OrError (List X) → OrError (List X)
value_before (Err error) others = Err error
value_before (Ok value) others = with_value (λ values. value ∷ values) others

-- the values of a list, in order, or the first error among them
abbrev pub all_values : {X : Type 0} → List (OrError X) → OrError (List X)
all_values [] = Ok []
all_values (first ∷ others) = value_before first (all_values others)
