-- What holds of a statement whose names were resolved over a catalogue.
use Rattle.std.specs.Prelude.{ℕ, ◌≡◌, Bool, true, false, ◌&&◌, nat_le, nat_lt, List, [], ◌∷◌, length, map, Option, Some, None}
use Rattle.std.specs.List.{list_all, All}
use Rattle.std.specs.Option.{ForSome, option_map_or}
use Rattle.pg_lists.specs.Numbered.{item_at}
use Rattle.pg_values.specs.declared.value.Kind.{Kind}
use Rattle.pg_values.specs.Kind.{kind_of_value}
use Rattle.pg_exprs.specs.Tree.{Tree}
use Rattle.pg_names.specs.Names.{are_distinct}
use Rattle.pg_model.specs.declared.catalogue.Check.{Check}
use Rattle.pg_model.specs.declared.catalogue.Column.{Column}
use Rattle.pg_model.specs.declared.catalogue.TableShape.{TableShape}
use Rattle.pg_model.specs.declared.statement.Action.{Action}
use Rattle.pg_model.specs.declared.statement.Action.TheVariants as action
use Rattle.pg_model.specs.declared.statement.Assignment.{Assignment}
use Rattle.pg_model.specs.declared.statement.Change.{Change}
use Rattle.pg_model.specs.declared.statement.Insert.{Insert}
use Rattle.pg_model.specs.declared.statement.NamedTable.{NamedTable}
use Rattle.pg_model.specs.declared.statement.Select.{Select}
use Rattle.pg_model.specs.declared.statement.Source.{Source}
use Rattle.pg_model.specs.declared.statement.Source.TheVariants as source_of
use Rattle.pg_model.specs.declared.statement.Statement.{Statement}
use Rattle.pg_model.specs.declared.statement.Statement.TheVariants as statement
use Rattle.pg_model.specs.Kinds.{is_condition, is_item, is_stored, kinds_of, may_be_stored}
use Rattle.pg_model.specs.Limits.{is_written, most_columns, most_tables}

-- a column has a name that can be written, and its default may be stored in it
abbrev pub is_column : Column → Bool
is_column column = is_written column.name && may_be_stored (kind_of_value column.default) column.kind

-- a CHECK is a condition on the table's own columns
abbrev pub is_check : List Column → Check → Bool
is_check columns check = is_condition (kinds_of columns ∷ []) check.expr

-- a table has 1 to 64 columns, whose names differ, and its CHECKs speak of these
abbrev pub is_shape : TableShape → Bool
is_shape shape =
    is_written shape.name && nat_le 1 (length shape.columns) && nat_le (length shape.columns) most_columns
    && are_distinct (map (λ column. column.name) shape.columns) && list_all is_column shape.columns
    && list_all (is_check shape.columns) shape.checks

-- at most 64 tables, whose names differ
abbrev pub is_catalogue : List TableShape → Bool
is_catalogue catalogue =
    nat_le (length catalogue) most_tables && are_distinct (map (λ shape. shape.name) catalogue)
    && list_all is_shape catalogue

-- the table is the catalogue's table of that number
abbrev pub IsTableOf : List TableShape → NamedTable → Type 0
IsTableOf catalogue named = item_at catalogue named.table ≡ Some named.shape

-- the table that a source is
abbrev pub table_of : Source → Option NamedTable
table_of (source_of.Table named) = Some named

-- a source that is a table is one of the catalogue's
abbrev pub IsSource : List TableShape → Source → Type 0
IsSource catalogue source = ForSome (table_of source) (IsTableOf catalogue)

-- the kinds of a source's columns
abbrev pub source_kinds : Source → List (Option Kind)
source_kinds (source_of.Table named) = kinds_of named.shape.columns

-- a condition, where there is one, is a boolean over the columns of the sources
abbrev pub is_where : List (List (Option Kind)) → Option Tree → Bool
is_where kinds None = true
is_where kinds (Some tree) = is_condition kinds tree

-- the sources are the catalogue's, and items and condition fit over them
pub record IsSelect (catalogue : List TableShape) (select : Select) : Type 0 where
  pub sources : All (IsSource catalogue) select.sources
  pub items : list_all (is_item (map source_kinds select.sources)) select.items ≡ true
  pub condition : is_where (map source_kinds select.sources) select.condition ≡ true

-- the kind of the column of that number
abbrev pub column_kind : List Column → ℕ → Option Kind
column_kind columns number = option_map_or (λ column. Some column.kind) (item_at columns number) None

-- there is a column of that number, and the expression, which names no column, may be stored there
abbrev pub is_value_of : List Column → ℕ → Tree → Bool
is_value_of columns number tree = option_map_or (λ kind. is_stored kind [] tree) (column_kind columns number) false

-- the expressions are for the first of the columns of these numbers, in order, and may be stored there
abbrev pub is_row : List Column → List ℕ → List Tree → Bool
is_row columns numbers [] = true
is_row columns [] (tree ∷ trees) = false
is_row columns (number ∷ numbers) (tree ∷ trees) = is_value_of columns number tree && is_row columns numbers trees

-- the table is the catalogue's, the columns are some of its, and the rows fit them
pub record IsInsert (catalogue : List TableShape) (insert : Insert) : Type 0 where
  pub target : IsTableOf catalogue insert.target
  pub columns : list_all (λ number. nat_lt number (length insert.target.shape.columns)) insert.columns ≡ true
  pub rows : list_all (is_row insert.target.shape.columns insert.columns) insert.rows ≡ true

-- the kinds of the columns that an UPDATE or DELETE knows: those of its target, and of its sources
abbrev pub change_kinds : Change → List (List (Option Kind))
change_kinds change = kinds_of change.target.shape.columns ∷ map source_kinds change.sources

-- there is a column of that number, and the value may be stored there
abbrev pub is_assignment : List (List (Option Kind)) → List Column → Assignment → Bool
is_assignment kinds columns assignment =
    option_map_or (λ kind. is_stored kind kinds assignment.value) (column_kind columns assignment.column) false

-- what a SET list names are columns that may store its values
abbrev pub is_action : List (List (Option Kind)) → List Column → Action → Bool
is_action kinds columns (action.Set assignments) = list_all (is_assignment kinds columns) assignments
is_action kinds columns action.Delete = true

-- target and sources are the catalogue's, and action and condition fit over them
pub record IsChange (catalogue : List TableShape) (change : Change) : Type 0 where
  pub target : IsTableOf catalogue change.target
  pub sources : All (IsSource catalogue) change.sources
  pub action : is_action (change_kinds change) change.target.shape.columns change.action ≡ true
  pub condition : is_where (change_kinds change) change.condition ≡ true

-- a SELECT, an INSERT, an UPDATE and a DELETE fit the catalogue; BEGIN, COMMIT and ROLLBACK always do
pub record IsStatement (catalogue : List TableShape) (given : Statement) : Type 0 where
  pub selects : (select : Select) → given ≡ statement.Select select → IsSelect catalogue select
  pub inserts : (insert : Insert) → given ≡ statement.Insert insert → IsInsert catalogue insert
  pub changes : (change : Change) → given ≡ statement.Change change → IsChange catalogue change
