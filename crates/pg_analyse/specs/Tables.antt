-- CREATE TABLE: the table that it declares, and its errors by phases.
use Rattle.std.specs.Prelude.{ℕ, false, List, [], ◌∷◌, ◌++◌, filter_map, length, nat_le, nat_lt, Option, Some, None, if◌then◌else◌}
use Rattle.pg_values.specs.declared.value.Value.TheVariants.{Null}
use Rattle.pg_names.specs.Names.{is_among}
use Rattle.pg_parse_stmt.specs.declared.tree.ColumnPart.{ColumnPart}
use Rattle.pg_parse_stmt.specs.declared.tree.CreateTable.{CreateTable}
use Rattle.pg_parse_stmt.specs.declared.tree.TablePart.{TablePart}
use Rattle.pg_parse_stmt.specs.declared.tree.TablePart.TheVariants as part
use Rattle.pg_model.specs.declared.catalogue.Column.{Column}
use Rattle.pg_model.specs.declared.catalogue.TableShape.{TableShape}
use Rattle.pg_model.specs.declared.error.Counted.TheVariants as counted
use Rattle.pg_model.specs.declared.error.SqlError.{SqlError}
use Rattle.pg_model.specs.declared.error.SqlError.TheVariants as error
use Rattle.pg_model.specs.Limits.{most_columns, most_tables}
use Rattle.pg_analyse.specs.Queries.{table_names}
use Rattle.pg_resolve.specs.Scope.{column_names}

-- a column of its name and kind
abbrev pub declared_column : ColumnPart → Column
declared_column written = record { name = written.name; kind = written.kind; not_null = false; default = Null }

-- the column that a part of CREATE TABLE declares, if it is one
abbrev pub column_of_part : TablePart → Option Column
column_of_part (part.Column written) = Some (declared_column written)
column_of_part (part.Constraint name constraint) = None

-- the columns in the order written
abbrev pub declared_columns : List TablePart → List Column
declared_columns parts = filter_map column_of_part parts

-- the table that CREATE TABLE declares
abbrev pub declared_table : CreateTable → TableShape
declared_table table = record { name = table.name; columns = declared_columns table.parts; checks = [] }

-- no column of that name is among those before it
abbrev pub again_errors : List (List ℕ) → List ℕ → List SqlError
again_errors before name = if is_among before name then error.ColumnTwice name ∷ [] else []

-- no table has the name
abbrev pub taken_errors : List TableShape → List ℕ → List SqlError
taken_errors catalogue name = if is_among (table_names catalogue) name then error.RelationExists name ∷ [] else []

-- there is room for one table more
abbrev pub table_limit_errors : List TableShape → List SqlError
table_limit_errors catalogue = if nat_lt (length catalogue) most_tables then [] else error.TooMany counted.Tables ∷ []

-- the table has at most 64 columns
abbrev pub column_limit_errors : List Column → List SqlError
column_limit_errors columns = if nat_le (length columns) most_columns then [] else error.TooMany counted.Columns ∷ []

-- the limits are kept
abbrev pub limit_errors : List TableShape → List Column → List SqlError
limit_errors catalogue columns = table_limit_errors catalogue ++ column_limit_errors columns

-- no column has the name of one before it
abbrev pub twice_errors : List (List ℕ) → List (List ℕ) → List SqlError
twice_errors before [] = []
twice_errors before (name ∷ names) =
    again_errors before name ++ twice_errors (before ++ name ∷ []) names

-- the table's name; the numbers of tables and of columns; the names of the columns
abbrev pub table_phases : List TableShape → CreateTable → List (List SqlError)
table_phases catalogue table =
    taken_errors catalogue table.name
    ∷ limit_errors catalogue (declared_columns table.parts)
    ∷ twice_errors [] (column_names (declared_columns table.parts))
    ∷ []
