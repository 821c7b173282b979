-- UPDATE and DELETE: what is set, and their errors by phases.
use Rattle.std.specs.Prelude.{ℕ, Bool, true, List, [], ◌∷◌, ◌++◌, flat_map, map, Option, if◌then◌else◌, unwrap_or}
use Rattle.std.specs.Option.{option_map, option_map_or}
use Rattle.pg_values.specs.declared.value.Kind.{Kind}
use Rattle.pg_names.specs.Names.{is_among, number_of}
use Rattle.pg_parse_expr.specs.Tree.{Tree}
use Rattle.pg_parse_stmt.specs.declared.tree.Assignment.{Assignment as AssignmentTree}
use Rattle.pg_parse_stmt.specs.declared.tree.Delete.{Delete as DeleteTree}
use Rattle.pg_parse_stmt.specs.declared.tree.TableRef.{TableRef}
use Rattle.pg_parse_stmt.specs.declared.tree.Update.{Update as UpdateTree}
use Rattle.pg_model.specs.declared.catalogue.Column.{Column}
use Rattle.pg_model.specs.declared.error.SqlError.{SqlError}
use Rattle.pg_model.specs.declared.error.SqlError.TheVariants as error
use Rattle.pg_model.specs.declared.statement.Action.TheVariants as action
use Rattle.pg_model.specs.declared.statement.Assignment.{Assignment}
use Rattle.pg_model.specs.declared.statement.Change.{Change}
use Rattle.pg_model.specs.declared.statement.NamedTable.{NamedTable}
use Rattle.pg_model.specs.Kinds.{may_be_stored}
use Rattle.pg_model.specs.Statements.{column_kind}
use Rattle.pg_resolve.specs.declared.scope.Known.{Known}
use Rattle.pg_analyse.specs.Queries.{known_name, where_errors}
use Rattle.pg_resolve.specs.Resolved.{expr_errors, expr_of_tree, kind_errors, kind_in}
use Rattle.pg_resolve.specs.Scope.{column_names}

-- expressions know the columns of the target by its alias, or else by its name
abbrev pub target_scope : TableRef → NamedTable → List Known
target_scope target named = record { name = known_name target; columns = named.shape.columns } ∷ []

-- the number of the column that is set; a name without one is an error, and resolved to any number
abbrev pub set_number : List Column → List ℕ → ℕ
set_number columns name = unwrap_or (number_of (column_names columns) name) 0

-- a column and its value, with the names resolved
abbrev pub assignment_of : List Known → List Column → AssignmentTree → Assignment
assignment_of scope columns set =
    record { column = set_number columns set.column; value = expr_of_tree scope set.value }

-- a column that is set exists, and was not set before
abbrev pub setting_errors : List Column → List (List ℕ) → List ℕ → List SqlError
setting_errors columns before name =
    (if is_among (column_names columns) name then [] else error.NoColumn name ∷ [])
    ++ (if is_among before name then error.SetTwice name ∷ [] else [])

-- the errors of each column that is set behind those of the names given
abbrev pub target_errors : List Column → List (List ℕ) → List AssignmentTree → List SqlError
target_errors columns before [] = []
target_errors columns before (set ∷ sets) =
    setting_errors columns before set.column ++ target_errors columns (before ++ set.column ∷ []) sets

-- the errors of a value that is set
abbrev pub set_errors : List Known → AssignmentTree → List SqlError
set_errors scope set = expr_errors scope set.value

-- a value of that kind may be stored in the column of that number
abbrev pub fits_column : List Column → ℕ → Option Kind → Bool
fits_column columns number from = option_map_or (may_be_stored from) (column_kind columns number) true

-- the value may be stored in the column that is set
abbrev pub stored_errors : List Known → List Column → AssignmentTree → List SqlError
stored_errors scope columns set =
    option_map_or (λ to. kind_errors (λ from. may_be_stored from to) (kind_in scope set.value))
    (column_kind columns (set_number columns set.column)) []

-- the expressions, in the order written; then the stored kinds
abbrev pub value_phases : List Known → List Column → List AssignmentTree → Option Tree → List (List SqlError)
value_phases scope columns sets condition =
    (flat_map (set_errors scope) sets ++ where_errors scope condition)
    ∷ flat_map (stored_errors scope columns) sets
    ∷ []

-- the columns that are set; then the expressions and the stored kinds
abbrev pub update_phases : UpdateTree → NamedTable → List (List SqlError)
update_phases update named =
    target_errors named.shape.columns [] update.sets
    ∷ value_phases (target_scope update.target named) named.shape.columns update.sets update.condition

-- the condition
abbrev pub delete_phases : DeleteTree → NamedTable → List (List SqlError)
delete_phases delete named = where_errors (target_scope delete.target named) delete.condition ∷ []

-- the statement that an UPDATE without errors is, of that table
abbrev pub update_of_tree : UpdateTree → NamedTable → Change
update_of_tree update named =
    record {
      target = named;
      action =
          action.Set (map (assignment_of (target_scope update.target named) named.shape.columns) update.sets);
      sources = [];
      condition = option_map (expr_of_tree (target_scope update.target named)) update.condition;
    }

-- the statement that a DELETE without errors is, of that table
abbrev pub delete_of_tree : DeleteTree → NamedTable → Change
delete_of_tree delete named =
    record {
      target = named;
      action = action.Delete;
      sources = [];
      condition = option_map (expr_of_tree (target_scope delete.target named)) delete.condition;
    }
