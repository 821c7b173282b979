-- A candidate with another version of its target's row.
use Rattle.std.specs.Prelude.{ℕ, ◌≡◌, List, [], ◌∷◌, map, Option, Some, unwrap_or}
use Rattle.pg_values.specs.declared.value.Value.{Value}
use Rattle.pg_exprs.specs.Environment.{Environment}
use Rattle.pg_heap.specs.declared.version.Version.{Version}
use Rattle.pg_model.specs.declared.catalogue.Column.{Column}
use Rattle.pg_model.specs.declared.statement.Assignment.{Assignment}
use Rattle.pg_world.specs.declared.candidate.SeenRow.{SeenRow}
use Rattle.pg_world.specs.Candidates.{fitted_for, row_values}
use Rattle.pg_world.specs.Evaluation.{OrError, value_of, with_value}

-- the rows of a candidate, of which the target's has these values: the others stay as they were seen
abbrev pub rows_with : List Value → List SeenRow → List (Option (List Value))
rows_with values [] = []
rows_with values (target ∷ sources) = Some values ∷ map (λ row. Some (row_values row)) sources

-- the value of a SET over such rows, fitted to its column, with the number of that
abbrev pub assigned_over : List Column → Environment → Assignment → OrError (ℕ × Value)
assigned_over columns env assignment =
    with_value (λ value. (assignment.column, value))
    (fitted_for columns assignment.column (value_of assignment.value env))

-- the version has these values
abbrev pub HasValues : List Value → Version → Type 0
HasValues values version = unwrap_or version.values [] ≡ values
