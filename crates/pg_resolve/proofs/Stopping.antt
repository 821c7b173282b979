-- The first error of several lists.
use Rattle.std.proofs.Common.{◌≡◌, sym, subst, inl, inr, List, [], ◌∷◌, ◌++◌, Some, None, Result, Ok, Err}
use Rattle.std.specs.Prelude.{IfErr, IsErrAnd}
use Rattle.pg_model.specs.declared.error.SqlError.{SqlError}
use Rattle.pg_resolve.specs.declared.fault.AnalyseFault.{AnalyseFault}
use Rattle.pg_resolve.specs.Causes.{Stops}

none_some : {X : Type 0} {x : X} → None ≡ Some x → ⊥
none_some e = absurd (cc)

cons_nil : {X : Type 0} {x : X} {xs : List X} → x ∷ xs ≡ [] → ⊥
cons_nil e = absurd (cc)

-- errors that come behind change nothing
pub stops_before : (a b : List SqlError) (fault : AnalyseFault) → Stops a fault → Stops (a ++ b) fault
stops_before a b fault (inl e) = inl e
stops_before [] b fault (inr e) = absurd (none_some e)
stops_before (x ∷ a) b fault (inr e) = inr e

-- behind no errors, others count
pub stops_behind : (a b : List SqlError) (fault : AnalyseFault) → a ≡ [] → Stops b fault → Stops (a ++ b) fault
stops_behind [] b fault none stops = stops
stops_behind (x ∷ a) b fault none stops = absurd (cons_nil none)

-- an error that is passed up
pub passed_up : {V E : Type 0} (result : Result V E) (fault : E) (P : E → Type 0) → IsErrAnd result (λ up. up ≡ fault) →
    P fault → IfErr result P
passed_up (Ok value) fault P is held = tt
passed_up (Err up) fault P is held = subst P (sym is) held
