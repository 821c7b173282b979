-- What an UPDATE sets.
use Rattle.std.proofs.Common.{◌≡◌, refl, sym, ap, ◌∙◌, inl, subst, ℕ, Bool, true, false, ◌&&◌, List, [], ◌∷◌, ◌++◌, flat_map, Option, Some, None, Ok}
use Rattle.std.specs.Option.{option_map_or}
use Rattle.pg_values.specs.declared.value.Kind.{Kind}
use Rattle.pg_parse_stmt.specs.declared.tree.Assignment.{Assignment}
use Rattle.pg_model.specs.declared.catalogue.Column.{Column}
use Rattle.pg_model.specs.declared.error.SqlError.{SqlError}
use Rattle.pg_model.specs.declared.error.SqlError.TheVariants.{WrongKind}
use Rattle.pg_model.specs.Kinds.{has_kind, may_be_stored}
use Rattle.pg_model.specs.Statements.{column_kind}
use Rattle.pg_resolve.specs.declared.fault.AnalyseFault.{AnalyseFault}
use Rattle.pg_resolve.specs.declared.fault.AnalyseFault.TheVariants.{Error}
use Rattle.pg_resolve.specs.declared.scope.Known.{Known}
use Rattle.pg_analyse.specs.Built.{is_empty}
use Rattle.pg_resolve.specs.Causes.{Stops, first_fault}
use Rattle.pg_analyse.specs.Changes.{fits_column, set_number, setting_errors, stored_errors, target_errors}
use Rattle.pg_resolve.specs.Resolved.{kind_errors, kind_in}
use Rattle.pg_resolve.proofs.Stopping.{stops_before}
use Rattle.pg_analyse.proofs.Storing.{Wrong, and_assoc, empty_append, empty_test, first_wrong, wrong_append, wrong_test}

-- one column more that is set
pub step_errors : (columns : List Column) (before after : List (List ℕ)) (set : Assignment) (rest : List Assignment) →
    after ≡ before ++ set.column ∷ [] → setting_errors columns before set.column ≡ [] →
    target_errors columns after rest ≡ target_errors columns before (set ∷ rest)
step_errors columns before after set rest is none =
    ap (λ names. target_errors columns names rest) is
    ∙ sym (ap (λ errors. errors ++ target_errors columns (before ++ set.column ∷ []) rest) none)

pub step_stops : (columns : List Column) (before : List (List ℕ)) (set : Assignment) (rest : List Assignment)
    (errors : List SqlError) (fault : AnalyseFault) → target_errors columns before (set ∷ rest) ≡ errors →
    Stops (setting_errors columns before set.column) fault → Stops errors fault
step_stops columns before set rest errors fault is stops =
    subst (λ all. Stops all fault) is (stops_before (setting_errors columns before set.column) _ fault stops)

-- one value more
pub step_sets : (scope : List Known) (columns : List Column) (set : Assignment) (sets : List Assignment)
    (fits fit after : Bool) → fit ≡ is_empty (stored_errors scope columns set) → after ≡ (fits && fit) →
    (after && is_empty (flat_map (stored_errors scope columns) sets))
    ≡ (fits && is_empty (flat_map (stored_errors scope columns) (set ∷ sets)))
step_sets scope columns set sets fits fit after is both =
    ap (λ b. b && is_empty (flat_map (stored_errors scope columns) sets)) both
    ∙ and_assoc fits fit (is_empty (flat_map (stored_errors scope columns) sets))
    ∙ ap (λ b. fits && (b && is_empty (flat_map (stored_errors scope columns) sets))) is
    ∙ ap (λ b. fits && b)
    (sym (empty_append (stored_errors scope columns set) (flat_map (stored_errors scope columns) sets)))

-- a value is stored where its kind fits
pub stored_fits : (scope : List Known) (columns : List Column) (set : Assignment) (kind : Option Kind) →
    kind_in scope set.value ≡ Ok kind →
    is_empty (stored_errors scope columns set) ≡ fits_column columns (set_number columns set.column) kind
stored_fits scope columns set kind is = by_kind (column_kind columns (set_number columns set.column))
  where
    by_kind : (to : Option Kind) →
        is_empty (option_map_or (λ to. kind_errors (λ from. may_be_stored from to) (kind_in scope set.value)) to [])
        ≡ option_map_or (may_be_stored kind) to true
    by_kind None = refl
    by_kind (Some to) =
        empty_test (has_kind (λ from. may_be_stored from to) (kind_in scope set.value))
        ∙ ap (has_kind (λ from. may_be_stored from to)) is

wrong_set : (scope : List Known) (columns : List Column) (set : Assignment) → Wrong (stored_errors scope columns set)
wrong_set scope columns set = by_kind (column_kind columns (set_number columns set.column))
  where
    by_kind : (to : Option Kind) →
        Wrong (option_map_or (λ to. kind_errors (λ from. may_be_stored from to) (kind_in scope set.value)) to [])
    by_kind None = inl refl
    by_kind (Some to) = wrong_test (has_kind (λ from. may_be_stored from to) (kind_in scope set.value))

wrong_sets : (scope : List Known) (columns : List Column) (sets : List Assignment) →
    Wrong (flat_map (stored_errors scope columns) sets)
wrong_sets scope columns [] = inl refl
wrong_sets scope columns (set ∷ sets) =
    wrong_append (stored_errors scope columns set) (flat_map (stored_errors scope columns) sets)
    (wrong_set scope columns set) (wrong_sets scope columns sets)

-- where a value may not be stored, the first error is of kinds
pub stops_last : (scope : List Known) (columns : List Column) (sets : List Assignment) →
    is_empty (flat_map (stored_errors scope columns) sets) ≡ false →
    first_fault (flat_map (stored_errors scope columns) sets) ≡ Some (Error WrongKind)
stops_last scope columns sets some =
    first_wrong (flat_map (stored_errors scope columns) sets) (wrong_sets scope columns sets) some
