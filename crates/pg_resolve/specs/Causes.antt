-- Analysis goes by phases, each with its errors in the order of the text; the first error of the first phase that has
-- one is the answer.
use Rattle.std.specs.Prelude.{◌≡◌, ◌⊎◌, List, [], ◌∷◌, Option, Some, None, Result, Ok, Err, flat_map}
use Rattle.pg_model.specs.declared.error.SqlError.{SqlError}
use Rattle.pg_resolve.specs.declared.fault.AnalyseFault.{AnalyseFault}
use Rattle.pg_resolve.specs.declared.fault.AnalyseFault.TheVariants as fault

-- the value where there is no error, and else the first error
abbrev pub unless_error : {V : Type 0} → List SqlError → V → Result V AnalyseFault
unless_error [] value = Ok value
unless_error (error ∷ errors) value = Err (fault.Error error)

-- the errors of all phases, in order
abbrev pub in_order : List (List SqlError) → List SqlError
in_order phases = flat_map (λ phase. phase) phases

-- the value where no phase has an error, and else the first error
abbrev pub by_phases : {V : Type 0} → List (List SqlError) → V → Result V AnalyseFault
by_phases phases value = unless_error (in_order phases) value

-- the first of the errors, as a fault
abbrev pub first_fault : List SqlError → Option AnalyseFault
first_fault [] = None
first_fault (error ∷ errors) = Some (fault.Error error)

-- the fault is want of memory, or the first of the errors
abbrev pub Stops : List SqlError → AnalyseFault → Type 0
Stops errors given = (given ≡ fault.Memory) ⊎ (first_fault errors ≡ Some given)
