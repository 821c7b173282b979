-- What is told of an input that is not run.
use Rattle.std.proofs.Common.{◌≡◌, ℕ, List, Err, inl, inr, refl, subst, sym}
use Rattle.pg_model.specs.declared.script.Mode.TheVariants as mode
use Rattle.pg_model.specs.declared.script.Script.{Script}
use Rattle.pg_script.specs.declared.fault.Reason.{Reason}
use Rattle.pg_script.specs.declared.fault.Reason.TheVariants as reason
use Rattle.pg_script.specs.declared.fault.ScriptFault.{ScriptFault}
use Rattle.pg_script.specs.declared.fault.ScriptFault.TheVariants as script_fault
use Rattle.pg_script.specs.Reading.{IsRead, Say}
use Rattle.pgrc.specs.declared.prepare.Fault.{Fault}
use Rattle.pgrc.specs.Prepared.{IsReading, IsRefusal}
use Rattle.pgrc.specs.Refusals.{AreTurnedAway}

-- bytes that are turned away are so with their line
told_off : (bytes : List ℕ) (line : ℕ) (why : Reason) (refusal : Fault) → AreTurnedAway bytes line why →
    IsRefusal line why refusal → IsReading bytes (Err refusal)
told_off bytes line why refusal away (inl is) =
    subst (λ f. IsReading bytes (Err f)) (sym is) (record { line = line; why = why; away = away; says = refl })
told_off bytes line why refusal away (inr is) = subst (λ f. IsReading bytes (Err f)) (sym is) tt

-- the reader refuses them
pub refused_by_reader : (bytes : List ℕ) (line : ℕ) (why : Reason) (answer : ScriptFault) (refusal : Fault) →
    IsRead bytes (Err answer) → answer ≡ script_fault.Refused line why → IsRefusal line why refusal →
    IsReading bytes (Err refusal)
refused_by_reader bytes line why answer refusal read is refused =
    told_off bytes line why refusal (inl (subst (λ a. IsRead bytes (Err a)) is read)) refused

-- they say a free script
pub refused_as_free : (bytes : List ℕ) (script : Script) (refusal : Fault) → Say bytes script →
    script.mode ≡ mode.Free → IsRefusal 1 reason.Free refusal → IsReading bytes (Err refusal)
refused_as_free bytes script refusal say free is =
    told_off bytes 1 reason.Free refusal
    (inr (inl (record { script = script; say = say; mode = free; first = refl; reason = refl }))) is
