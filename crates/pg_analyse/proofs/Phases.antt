-- What the errors of a statement answer.
use Rattle.std.proofs.Common.{◌≡◌, ◌≢◌, refl, ap, inl, inr, List, [], ◌∷◌, Some, None, Ok, Err}
use Rattle.pg_model.specs.declared.error.SqlError.{SqlError}
use Rattle.pg_resolve.specs.declared.fault.AnalyseFault.{AnalyseFault}
use Rattle.pg_resolve.specs.declared.fault.AnalyseFault.TheVariants.{Memory, Error}
use Rattle.pg_resolve.specs.Causes.{Stops, unless_error}

none_some : {X : Type 0} {x : X} → None ≡ Some x → ⊥
none_some e = absurd (cc)

cons_nil : {X : Type 0} {x : X} {xs : List X} → x ∷ xs ≡ [] → ⊥
cons_nil e = absurd (cc)

-- with no errors it is the value
pub no_errors : {V : Type 0} (errors : List SqlError) (value : V) → errors ≡ [] → unless_error errors value ≡ Ok value
no_errors [] value e = refl
no_errors (x ∷ xs) value e = absurd (cons_nil e)

-- else the first of them
pub an_error : {V : Type 0} (errors : List SqlError) (value : V) (fault : AnalyseFault) → Stops errors fault →
    fault ≢ Memory → unless_error errors value ≡ Err fault
an_error errors value fault (inl e) other = absurd (other e)
an_error [] value fault (inr e) other = absurd (none_some e)
an_error (x ∷ xs) value fault (inr e) other = let same : Error x ≡ fault = cc in ap Err same
