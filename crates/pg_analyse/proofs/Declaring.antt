-- One part more of a CREATE TABLE.
use Rattle.std.proofs.Common.{◌≡◌, sym, ap, ◌∙◌, ℕ, List, [], ◌∷◌, ◌++◌, append_assoc, subst}
use Rattle.std.proofs.lemmas.List.{map-append}
use Rattle.pg_model.specs.declared.catalogue.Column.{Column}
use Rattle.pg_model.specs.declared.error.SqlError.{SqlError}
use Rattle.pg_resolve.specs.declared.fault.AnalyseFault.{AnalyseFault}
use Rattle.pg_resolve.specs.Causes.{Stops}
use Rattle.pg_resolve.specs.Scope.{column_names}
use Rattle.pg_analyse.specs.Tables.{again_errors, twice_errors}
use Rattle.pg_resolve.proofs.Stopping.{stops_before}

-- a column whose name is new moves to the front ones
pub step_errors : (before after : List Column) (column : Column) (rest : List (List ℕ)) →
    after ≡ before ++ column ∷ [] → again_errors (column_names before) column.name ≡ [] →
    twice_errors (column_names after) rest ≡ twice_errors (column_names before) (column.name ∷ rest)
step_errors before after column rest is new =
    ap (λ columns. twice_errors (column_names columns) rest) is
    ∙ ap (λ names. twice_errors names rest) (map-append (λ column. column.name) before (column ∷ []))
    ∙ sym (ap (λ errors. errors ++ twice_errors (column_names before ++ column.name ∷ []) rest) new)

pub step_columns : (before after rest : List Column) (column : Column) → after ≡ before ++ column ∷ [] →
    after ++ rest ≡ before ++ column ∷ rest
step_columns before after rest column is = ap (λ columns. columns ++ rest) is ∙ append_assoc before (column ∷ []) rest

-- a name that is not new stops
pub step_stops : (before : List Column) (name : List ℕ) (rest : List (List ℕ)) (errors : List SqlError) (fault : AnalyseFault) →
    twice_errors (column_names before) (name ∷ rest) ≡ errors → Stops (again_errors (column_names before) name) fault →
    Stops errors fault
step_stops before name rest errors fault is stops =
    subst (λ all. Stops all fault) is (stops_before (again_errors (column_names before) name) _ fault stops)
