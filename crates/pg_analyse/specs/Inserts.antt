-- INSERT with VALUES: its columns, its rows, and its errors by phases.
use Rattle.std.specs.Prelude.{ℕ, suc, Bool, true, List, [], ◌∷◌, ◌++◌, ◌==◌, filter_map, flat_map, length, map, nat_le, Option, if◌then◌else◌}
use Rattle.std.specs.Option.{option_map_or}
use Rattle.pg_lists.specs.Numbered.{item_at}
use Rattle.pg_values.specs.declared.value.Kind.{Kind}
use Rattle.pg_names.specs.Names.{is_among, number_of}
use Rattle.pg_parse_expr.specs.Tree.{Tree}
use Rattle.pg_parse_stmt.specs.declared.tree.Insert.{Insert as InsertTree}
use Rattle.pg_parse_stmt.specs.declared.tree.Rows.{Rows as RowsTree}
use Rattle.pg_parse_stmt.specs.declared.tree.Rows.TheVariants as rows_tree
use Rattle.pg_model.specs.declared.catalogue.Column.{Column}
use Rattle.pg_model.specs.declared.error.SqlError.{SqlError}
use Rattle.pg_model.specs.declared.error.SqlError.TheVariants as error
use Rattle.pg_model.specs.declared.statement.Insert.{Insert}
use Rattle.pg_model.specs.declared.statement.NamedTable.{NamedTable}
use Rattle.pg_model.specs.Kinds.{may_be_stored}
use Rattle.pg_model.specs.Statements.{column_kind}
use Rattle.pg_resolve.specs.Resolved.{expr_errors, kind_errors, kind_in, expr_of_tree}
use Rattle.pg_resolve.specs.Scope.{column_names}
use Rattle.pg_analyse.specs.Tables.{again_errors}

-- the rows that VALUES lists
abbrev pub tuples_of : RowsTree → List (List Tree)
tuples_of (rows_tree.Values tuples) = tuples
tuples_of (rows_tree.Query query) = []

-- the numbers from the one given, one for each column
abbrev pub numbers_from : ℕ → List Column → List ℕ
numbers_from number [] = []
numbers_from number (column ∷ columns) = number ∷ numbers_from (suc number) columns

-- the columns that the rows are for: those listed, or all where none is listed
abbrev pub target_columns : List Column → List (List ℕ) → List ℕ
target_columns columns [] = numbers_from 0 columns
target_columns columns (name ∷ names) = filter_map (number_of (column_names columns)) (name ∷ names)

-- a column listed exists, and was not listed before
abbrev pub listing_errors : List Column → List (List ℕ) → List ℕ → List SqlError
listing_errors columns before name =
    (if is_among (column_names columns) name then [] else error.NoColumn name ∷ []) ++ again_errors before name

-- the errors of each column listed behind those of the names given
abbrev pub listed_errors : List Column → List (List ℕ) → List (List ℕ) → List SqlError
listed_errors columns before [] = []
listed_errors columns before (name ∷ names) =
    listing_errors columns before name ++ listed_errors columns (before ++ name ∷ []) names

-- a row has as many expressions as columns are listed; where none is, at most as many as the table has
abbrev pub is_count : List Column → List (List ℕ) → ℕ → Bool
is_count columns [] count = nat_le count (length columns)
is_count columns (name ∷ names) count = count == length (name ∷ names)

-- a row has the number of expressions that it may have
abbrev pub count_errors : List Column → List (List ℕ) → List Tree → List SqlError
count_errors columns names row = if is_count columns names (length row) then [] else error.WrongCount ∷ []

-- a value may be stored in the column of that number
abbrev pub value_errors : List Column → ℕ → Tree → List SqlError
value_errors columns number tree =
    option_map_or (λ to. kind_errors (λ from. may_be_stored from to) (kind_in [] tree)) (column_kind columns number) []

-- each value of a row may be stored in its column
abbrev pub store_errors : List Column → List ℕ → List Tree → List SqlError
store_errors columns numbers [] = []
store_errors columns [] (tree ∷ trees) = []
store_errors columns (number ∷ numbers) (tree ∷ trees) =
    value_errors columns number tree ++ store_errors columns numbers trees

-- a value of that kind may be stored in the column at that place of the list
abbrev pub fits_at : List Column → List ℕ → ℕ → Option Kind → Bool
fits_at columns numbers place from =
    option_map_or (λ number. option_map_or (may_be_stored from) (column_kind columns number) true) (item_at numbers place)
    true

-- the expressions, which know no columns; then the stored kinds
abbrev pub row_phases : List Column → List ℕ → List (List Tree) → List (List SqlError)
row_phases columns numbers rows =
    flat_map (flat_map (expr_errors [])) rows ∷ flat_map (store_errors columns numbers) rows ∷ []

-- the columns listed; the numbers of expressions; the rows
abbrev pub insert_phases : InsertTree → List Column → List (List SqlError)
insert_phases insert columns =
    listed_errors columns [] insert.columns
    ∷ flat_map (count_errors columns insert.columns) (tuples_of insert.rows)
    ∷ row_phases columns (target_columns columns insert.columns) (tuples_of insert.rows)

-- the statement that an INSERT without errors is, into that table
abbrev pub inserted_into : InsertTree → NamedTable → Insert
inserted_into insert named =
    record {
      target = named;
      columns = target_columns named.shape.columns insert.columns;
      rows = map (map (expr_of_tree [])) (tuples_of insert.rows);
    }
