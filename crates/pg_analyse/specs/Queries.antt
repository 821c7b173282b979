-- SELECT: its sources, what `*` means, and its errors by phases.
use Rattle.std.specs.Prelude.{ℕ, suc, List, [], ◌∷◌, ◌++◌, filter_map, flat_map, map, Option, Some, None, if◌then◌else◌, unwrap_or}
use Rattle.std.specs.Option.{option_map, option_map_or, option_and_then}
use Rattle.pg_lists.specs.Numbered.{item_at}
use Rattle.pg_exprs.specs.Tree.{Tree as Resolved, column as resolved_column}
use Rattle.pg_names.specs.Names.{is_among, number_of}
use Rattle.pg_parse_expr.specs.Tree.{Tree}
use Rattle.pg_parse_stmt.specs.declared.tree.Item.{Item}
use Rattle.pg_parse_stmt.specs.declared.tree.Item.TheVariants as item
use Rattle.pg_parse_stmt.specs.declared.tree.Joined.{Joined}
use Rattle.pg_parse_stmt.specs.declared.tree.Select.{Select as SelectTree}
use Rattle.pg_parse_stmt.specs.declared.tree.Source.{Source as SourceTree}
use Rattle.pg_parse_stmt.specs.declared.tree.Source.TheVariants as source_tree
use Rattle.pg_parse_stmt.specs.declared.tree.TableRef.{TableRef}
use Rattle.pg_model.specs.declared.catalogue.Column.{Column}
use Rattle.pg_model.specs.declared.catalogue.TableShape.{TableShape}
use Rattle.pg_model.specs.declared.error.SqlError.{SqlError}
use Rattle.pg_model.specs.declared.error.SqlError.TheVariants as error
use Rattle.pg_model.specs.declared.statement.NamedTable.{NamedTable}
use Rattle.pg_model.specs.declared.statement.Select.{Select}
use Rattle.pg_model.specs.declared.statement.Source.{Source}
use Rattle.pg_model.specs.declared.statement.Source.TheVariants as source
use Rattle.pg_resolve.specs.Resolved.{condition_errors, expr_errors, expr_of_tree}
use Rattle.pg_resolve.specs.declared.scope.Known.{Known}
use Rattle.pg_resolve.specs.Scope.{source_names, source_named}

-- the names of the tables
abbrev pub table_names : List TableShape → List (List ℕ)
table_names catalogue = map (λ shape. shape.name) catalogue

-- the table of that name with its number, if there is one
abbrev pub table_named : List TableShape → List ℕ → Option NamedTable
table_named catalogue name =
    option_and_then (λ number. option_map (λ shape. record { table = number; shape = shape }) (item_at catalogue number))
    (number_of (table_names catalogue) name)

-- the table that a source is
abbrev pub table_in : SourceTree → List TableRef
table_in (source_tree.Table table) = table ∷ []
table_in (source_tree.Values values) = []
table_in (source_tree.Query query) = []

-- the tables that a FROM list names, in order
abbrev pub tables_in : List (Joined SourceTree) → List TableRef
tables_in from = flat_map (λ joined. table_in joined.source) from

-- expressions know a table by its alias, or else by its name
abbrev pub known_name : TableRef → List ℕ
known_name table = unwrap_or table.alias table.name

-- the sources that a FROM list names, where their tables exist
abbrev pub sources_of : List TableShape → List TableRef → List Source
sources_of catalogue tables = filter_map (λ table. option_map source.Table (table_named catalogue table.name)) tables

-- the columns of the table of that name
abbrev pub columns_named : List TableShape → List ℕ → List Column
columns_named catalogue name = option_map_or (λ named. named.shape.columns) (table_named catalogue name) []

-- what expressions know of a table
abbrev pub known_as : List TableShape → TableRef → Known
known_as catalogue table = record { name = known_name table; columns = columns_named catalogue table.name }

-- what expressions over these sources may name
abbrev pub scope_of : List TableShape → List TableRef → List Known
scope_of catalogue tables = map (known_as catalogue) tables

-- the table exists
abbrev pub existence_errors : List TableShape → List ℕ → List SqlError
existence_errors catalogue name = if is_among (table_names catalogue) name then [] else error.NoRelation name ∷ []

-- no source before it has its name
abbrev pub alias_errors : List (List ℕ) → List ℕ → List SqlError
alias_errors before name = if is_among before name then error.SameAlias name ∷ [] else []

-- a table that a FROM list names exists, and its name is new
abbrev pub reference_errors : List TableShape → List (List ℕ) → TableRef → List SqlError
reference_errors catalogue before table =
    existence_errors catalogue table.name ++ alias_errors before (known_name table)

-- the errors of each table behind those of the names given
abbrev pub relation_errors : List TableShape → List (List ℕ) → List TableRef → List SqlError
relation_errors catalogue before [] = []
relation_errors catalogue before (table ∷ tables) =
    reference_errors catalogue before table
    ++ relation_errors catalogue (before ++ known_name table ∷ []) tables

-- the numbers of n columns from the one given
abbrev pub columns_from : ℕ → ℕ → List Column → List Resolved
columns_from source number [] = []
columns_from source number (column ∷ columns) = resolved_column source number ∷ columns_from source (suc number) columns

-- the columns of all sources, which are numbered from the one given
abbrev pub all_columns_from : ℕ → List Known → List Resolved
all_columns_from source [] = []
all_columns_from source (known ∷ scope) = columns_from source 0 known.columns ++ all_columns_from (suc source) scope

-- the columns of the source of that number
abbrev pub columns_of_source : List Known → ℕ → List Resolved
columns_of_source scope number = option_map_or (λ known. columns_from number 0 known.columns) (item_at scope number) []

-- what an item of a SELECT list means: `*` the columns of all sources, and `name.*` those of one
abbrev pub item_exprs : List Known → Item → List Resolved
item_exprs scope item.All = all_columns_from 0 scope
item_exprs scope (item.AllOf name) = option_map_or (columns_of_source scope) (source_named scope name) []
item_exprs scope (item.Expr tree name) = expr_of_tree scope tree ∷ []

-- the errors of an item of a SELECT list
abbrev pub item_errors : List Known → Item → List SqlError
item_errors scope item.All = []
item_errors scope (item.AllOf name) = if is_among (source_names scope) name then [] else error.NoRelation name ∷ []
item_errors scope (item.Expr tree name) = expr_errors scope tree

-- the errors of the condition behind WHERE
abbrev pub where_errors : List Known → Option Tree → List SqlError
where_errors scope None = []
where_errors scope (Some tree) = condition_errors scope tree

-- the errors of the expressions, in the order written
abbrev pub part_errors : List Known → SelectTree → List SqlError
part_errors scope select = flat_map (item_errors scope) select.items ++ where_errors scope select.condition

-- the relations; then the expressions
abbrev pub select_phases : List TableShape → SelectTree → List (List SqlError)
select_phases catalogue select =
    relation_errors catalogue [] (tables_in select.from)
    ∷ part_errors (scope_of catalogue (tables_in select.from)) select
    ∷ []

-- the statement that a SELECT without errors is
abbrev pub select_of_tree : List TableShape → SelectTree → Select
select_of_tree catalogue select =
    record {
      items = flat_map (item_exprs (scope_of catalogue (tables_in select.from))) select.items;
      sources = sources_of catalogue (tables_in select.from);
      condition = option_map (expr_of_tree (scope_of catalogue (tables_in select.from))) select.condition;
    }
