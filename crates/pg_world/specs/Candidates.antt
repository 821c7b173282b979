-- The candidates of a statement: what it takes up one after the other, or its first error.
use Rattle.std.specs.Prelude.{ℕ, suc, nat_eq, Bool, true, false, List, [], ◌∷◌, filter_map, flat_map, map, Option, None, Some, Ok, Err, unwrap_or}
use Rattle.std.specs.Map.{lookup}
use Rattle.std.specs.Option.{option_map_or}
use Rattle.pg_lists.specs.Numbered.{item_at}
use Rattle.pg_values.specs.declared.value.Value.{Value}
use Rattle.pg_xacts.specs.declared.me.Me.{Me}
use Rattle.pg_xacts.specs.Transactions.{Transactions}
use Rattle.pg_heap.specs.declared.version.Version.{Version}
use Rattle.pg_heap.specs.declared.row.Row.{Row}
use Rattle.pg_heap.specs.Seen.{seen, seen_values}
use Rattle.pg_exprs.specs.Environment.{Environment}
use Rattle.pg_exprs.specs.Tree.{Tree}
use Rattle.pg_model.specs.declared.catalogue.Column.{Column}
use Rattle.pg_model.specs.declared.statement.Change.{Change}
use Rattle.pg_model.specs.declared.statement.Insert.{Insert}
use Rattle.pg_model.specs.declared.statement.Select.{Select}
use Rattle.pg_model.specs.declared.statement.Source.{Source}
use Rattle.pg_model.specs.declared.statement.Source.TheVariants as source_of
use Rattle.pg_model.specs.declared.statement.Statement.{Statement}
use Rattle.pg_model.specs.declared.statement.Statement.TheVariants as statement
use Rattle.pg_model.specs.Statements.{column_kind}
use Rattle.pg_world.specs.declared.candidate.SeenRow.{SeenRow}
use Rattle.pg_world.specs.declared.candidate.Candidate.{Candidate}
use Rattle.pg_world.specs.Evaluation.{OrError, all_values, fitted_value, if_valued, is_true, value_of, with_value}
use Rattle.pg_world.specs.declared.table.TableView.{TableView}

-- the rows that a statement sees of its sources

-- the row of that number with the version that was seen, where that has values
abbrev pub seen_row_with : ℕ → Option Version → Option (List Value) → Option SeenRow
seen_row_with row (Some version) (Some values) = Some (record { row = row; version = version })
seen_row_with row _ _ = None

-- the row as a statement sees it, where it sees that it is there
abbrev pub seen_row : Transactions → ℕ → Me → Row → Option SeenRow
seen_row transactions commits me row =
    seen_row_with row.number (seen transactions commits me row)
    (seen_values transactions commits me row)

-- the rows of a table that a statement sees, in order of row number
abbrev pub seen_rows : Transactions → ℕ → Me → TableView → List SeenRow
seen_rows transactions commits me table = filter_map (seen_row transactions commits me) table.rows

-- the number of the table that a source is
abbrev pub table_of_source : Source → ℕ
table_of_source (source_of.Table named) = named.table

-- the tables that a statement reads, in the order written
abbrev pub tables_read : Statement → List ℕ
tables_read (statement.Select select) = map table_of_source select.sources
tables_read (statement.Insert insert) = []
tables_read (statement.Change change) =
    change.target.table ∷ map table_of_source change.sources
tables_read statement.Begin = []
tables_read statement.Commit = []
tables_read statement.Rollback = []

-- what a statement sees of the table of that number
abbrev pub seen_of_table : List TableView → Transactions → ℕ → Me → ℕ → List SeenRow
seen_of_table tables transactions commits me table =
    option_map_or (seen_rows transactions commits me) (item_at tables table) []

-- and of each table that it reads
abbrev pub seen_by : Statement → List TableView → Transactions → ℕ → Me → List (List SeenRow)
seen_by given tables transactions commits me =
    map (seen_of_table tables transactions commits me) (tables_read given)

-- the candidates of an INSERT with VALUES

-- an expression of VALUES names no source
abbrev pub no_sources : Environment
no_sources = record { rows = []; action = None }

-- a value for the column of that number, fitted to its kind
abbrev pub fitted_for : List Column → ℕ → OrError Value → OrError Value
fitted_for columns number result =
    if_valued
    (λ value.
    option_map_or (λ kind. fitted_value kind value) (column_kind columns number) (Ok value))
    result

-- the value of an expression for the column of that number, fitted to its kind
abbrev pub value_for : List Column → ℕ → Tree → OrError Value
value_for columns number tree = fitted_for columns number (value_of tree no_sources)

-- the values that a row lists, in the order written, each with the number of its column
abbrev pub listed_values : List Column → List ℕ → List Tree → List (OrError (ℕ × Value))
listed_values columns (number ∷ numbers) (tree ∷ trees) =
    with_value (λ value. (number, value)) (value_for columns number tree)
    ∷ listed_values columns numbers trees
listed_values columns _ _ = []

-- the value that is listed for a column, or its default, fitted to its kind
abbrev pub value_or_default : Column → Option Value → OrError Value
value_or_default column (Some value) = Ok value
value_or_default column None = fitted_value column.kind column.default

-- the values of the columns in their order, of which the first has that number
abbrev pub column_values : List (ℕ × Value) → ℕ → List Column → List (OrError Value)
column_values listed number [] = []
column_values listed number (column ∷ columns) =
    value_or_default column (lookup (nat_eq number) listed)
    ∷ column_values listed (suc number) columns

-- a proposed row: first the listed values are evaluated, and then the columns left out take their
-- defaults
abbrev pub proposed_row : Insert → List Tree → OrError (List Value)
proposed_row insert trees =
    if_valued (λ listed. all_values (column_values listed 0 insert.target.shape.columns))
    (all_values (listed_values insert.target.shape.columns insert.columns trees))

-- a candidate that is made of no row
abbrev pub proposed_candidate : List Value → Candidate
proposed_candidate values = record { partners = []; made = values }

-- the proposed rows of an INSERT, in the order written
abbrev pub insert_candidates : Insert → OrError (List Candidate)
insert_candidates insert =
    all_values
    (map (λ trees. with_value proposed_candidate (proposed_row insert trees)) insert.rows)

-- the candidates of a plain SELECT

-- each choice of one row from each source, in nested order: the last source runs fastest
abbrev pub combinations : List (List SeenRow) → List (List SeenRow)
combinations [] = [] ∷ []
combinations (rows ∷ sources) =
    flat_map (λ row. map (λ others. row ∷ others) (combinations sources)) rows

-- the values of a row as it is seen
abbrev pub row_values : SeenRow → List Value
row_values row = unwrap_or row.version.values []

-- an expression is evaluated over the versions seen
abbrev pub environment_of : List SeenRow → Environment
environment_of partners =
    record { rows = map (λ row. Some (row_values row)) partners; action = None }

-- whether the WHERE is true of these rows
abbrev pub passes : Option Tree → List SeenRow → OrError Bool
passes None partners = Ok true
passes (Some condition) partners = with_value is_true (value_of condition (environment_of partners))

-- a combination in front of others that pass, where the WHERE is true of it
abbrev pub passing_before : List SeenRow → OrError Bool → OrError (List (List SeenRow)) →
    OrError (List (List SeenRow))
passing_before partners (Err error) others = Err error
passing_before partners (Ok false) others = others
passing_before partners (Ok true) others = with_value (λ passed. partners ∷ passed) others

-- the combinations of which the WHERE is true, in order, or its first error
abbrev pub passing_combinations : Option Tree → List (List SeenRow) → OrError (List (List SeenRow))
passing_combinations condition [] = Ok []
passing_combinations condition (partners ∷ others) =
    passing_before partners (passes condition partners) (passing_combinations condition others)

-- the values of the items over these rows
abbrev pub output_row : List Tree → List SeenRow → OrError (List Value)
output_row items partners = all_values (map (λ item. value_of item (environment_of partners)) items)

-- the rows that are returned, with their items
abbrev pub selected_candidate : List Tree → List SeenRow → OrError Candidate
selected_candidate items partners =
    with_value (λ made. record { partners = partners; made = made }) (output_row items partners)

-- the WHERE is evaluated for each combination, and only then the items, for what is returned
abbrev pub select_candidates : Select → List (List SeenRow) → OrError (List Candidate)
select_candidates select sources =
    if_valued (λ passed. all_values (map (selected_candidate select.items) passed))
    (passing_combinations select.condition (combinations sources))

-- the candidates of an UPDATE or DELETE

-- a candidate of which nothing is made before its row is locked
abbrev pub unmade_candidate : List SeenRow → Candidate
unmade_candidate partners = record { partners = partners; made = [] }

-- each choice of a row of the target and of the sources, of which the WHERE is true
abbrev pub change_candidates : Change → List (List SeenRow) → OrError (List Candidate)
change_candidates change sources =
    with_value (map unmade_candidate)
    (passing_combinations change.condition (combinations sources))

-- the candidates of each form of statement

-- the candidates over what is seen of the tables read; BEGIN, COMMIT and ROLLBACK have none
unfoldable pub candidates_over : Statement → List (List SeenRow) → OrError (List Candidate)
candidates_over (statement.Select select) seen = select_candidates select seen
candidates_over (statement.Insert insert) seen = insert_candidates insert
candidates_over (statement.Change change) seen = change_candidates change seen
candidates_over statement.Begin seen = Ok []
candidates_over statement.Commit seen = Ok []
candidates_over statement.Rollback seen = Ok []

-- the candidates of a statement whose snapshot sees so many commits, or its first error
abbrev pub candidates_of : Statement → List TableView → Transactions → ℕ → Me →
    OrError (List Candidate)
candidates_of given tables transactions commits me =
    candidates_over given (seen_by given tables transactions commits me)
