-- What setting a list of assignments comes to, where the target's row has another version.
use Rattle.std.proofs.Common.{ℕ, ◌≡◌, refl, ap, sym, ◌∙◌, true≢false, false, List, [], ◌∷◌, map, length, nat_eq, None, Some}
use Rattle.pg_exprs.specs.Environment.{Environment}
use Rattle.pg_heap.specs.declared.version.Version.{Version}
use Rattle.pg_model.specs.declared.statement.Action.TheVariants.{Set}
use Rattle.pg_model.specs.declared.statement.Assignment.{Assignment}
use Rattle.pg_model.specs.declared.statement.Change.{Change}
use Rattle.pg_values.specs.declared.value.Value.{Value}
use Rattle.pg_world.specs.declared.candidate.SeenRow.{SeenRow}
use Rattle.pg_world.specs.Candidates.{environment_of}
use Rattle.pg_world.specs.Changes.{new_values, new_values_by, target_values, with_assigned, with_target_version}
use Rattle.pg_world.specs.Evaluation.{OrError, all_values, with_value}
use Rattle.pg_recheck.specs.Versions.{HasValues, assigned_over, rows_with}

-- the rows over which the version is evaluated
pub over_version : (values : List Value) (version : Version) (partners : List SeenRow) →
    HasValues values version →
    record { rows = rows_with values partners; action = None }
    ≡ environment_of (with_target_version version partners)
over_version values version [] has = refl
over_version values version (target ∷ sources) has =
    ap (λ row. record { rows = rows_with row (target ∷ sources); action = None }) (sym has)

-- the values of the target, where there is one
pub version_values : (values : List Value) (version : Version) (partners : List SeenRow) →
    HasValues values version → nat_eq (length partners) 0 ≡ false →
    target_values (with_target_version version partners) ≡ values
version_values values version [] has there = absurd (true≢false there)
version_values values version (target ∷ sources) has there = has

-- what the SET list is worth, the new values are made of
pub set_on : (change : Change) (assignments : List Assignment) (env : Environment)
    (partners : List SeenRow) (assigned : OrError (List (ℕ × Value))) →
    change.action ≡ Set assignments → env ≡ environment_of partners →
    assigned ≡ all_values (map (assigned_over change.target.shape.columns env) assignments) →
    with_value (λ values. Some (with_assigned values 0 (target_values partners))) assigned
    ≡ new_values change partners
set_on change assignments env partners assigned acts over worth =
    ap (with_value (λ values. Some (with_assigned values 0 (target_values partners))))
    (worth
    ∙ ap (λ one. all_values (map (assigned_over change.target.shape.columns one) assignments)) over)
    ∙ ap (λ action. new_values_by action change.target.shape.columns partners) (sym acts)
