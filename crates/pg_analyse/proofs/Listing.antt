-- One name more of a list of columns.
use Rattle.std.proofs.Common.{◌≡◌, sym, ap, ◌∙◌, List, ℕ, [], ◌∷◌, ◌++◌, append_assoc, subst, Option, Some}
use Rattle.std.specs.List.{filter_map}
use Rattle.pg_model.specs.declared.catalogue.Column.{Column}
use Rattle.pg_model.specs.declared.error.SqlError.{SqlError}
use Rattle.pg_resolve.specs.declared.fault.AnalyseFault.{AnalyseFault}
use Rattle.pg_resolve.specs.Causes.{Stops}
use Rattle.pg_analyse.specs.Inserts.{listed_errors, listing_errors}
use Rattle.pg_resolve.proofs.Stopping.{stops_before}

found_first : (f : List ℕ → Option ℕ) (name : List ℕ) (rest : List (List ℕ)) (number : ℕ) → f name ≡ Some number →
    number ∷ filter_map f rest ≡ filter_map f (name ∷ rest)
found_first f name rest number found = cc

pub step_numbers : (f : List ℕ → Option ℕ) (before after : List ℕ) (name : List ℕ) (rest : List (List ℕ)) (number : ℕ) →
    f name ≡ Some number → after ≡ before ++ number ∷ [] →
    after ++ filter_map f rest ≡ before ++ filter_map f (name ∷ rest)
step_numbers f before after name rest number found is =
    ap (λ numbers. numbers ++ filter_map f rest) is ∙ append_assoc before (number ∷ []) (filter_map f rest)
    ∙ ap (λ numbers. before ++ numbers) (found_first f name rest number found)

pub step_errors : (columns : List Column) (before after : List (List ℕ)) (name : List ℕ) (rest : List (List ℕ)) →
    after ≡ before ++ name ∷ [] → listing_errors columns before name ≡ [] →
    listed_errors columns after rest ≡ listed_errors columns before (name ∷ rest)
step_errors columns before after name rest is none =
    ap (λ names. listed_errors columns names rest) is
    ∙ sym (ap (λ errors. errors ++ listed_errors columns (before ++ name ∷ []) rest) none)

pub step_stops : (columns : List Column) (before : List (List ℕ)) (name : List ℕ) (rest : List (List ℕ))
    (errors : List SqlError) (fault : AnalyseFault) → listed_errors columns before (name ∷ rest) ≡ errors →
    Stops (listing_errors columns before name) fault → Stops errors fault
step_stops columns before name rest errors fault is stops =
    subst (λ all. Stops all fault) is (stops_before (listing_errors columns before name) _ fault stops)
