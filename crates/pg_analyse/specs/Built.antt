-- The forms of statements that are built. Every other statement of the grammar is left for later.
use Rattle.std.specs.Prelude.{Bool, true, false, ◌&&◌, List, [], ◌∷◌, Option, Some, None}
use Rattle.std.specs.List.{list_all}
use Rattle.std.specs.Option.{is_none}
use Rattle.pg_parse_expr.specs.Tree.{Tree, literal, column, column_of, action, unary, binary}
use Rattle.pg_parse_stmt.specs.declared.tree.Assignment.{Assignment}
use Rattle.pg_parse_stmt.specs.declared.tree.Delete.{Delete}
use Rattle.pg_parse_stmt.specs.declared.tree.Insert.{Insert}
use Rattle.pg_parse_stmt.specs.declared.tree.Item.{Item}
use Rattle.pg_parse_stmt.specs.declared.tree.Item.TheVariants as item
use Rattle.pg_parse_stmt.specs.declared.tree.Joined.{Joined}
use Rattle.pg_parse_stmt.specs.declared.tree.Rows.{Rows}
use Rattle.pg_parse_stmt.specs.declared.tree.Rows.TheVariants as rows
use Rattle.pg_parse_stmt.specs.declared.tree.Select.{Select}
use Rattle.pg_parse_stmt.specs.declared.tree.Source.{Source}
use Rattle.pg_parse_stmt.specs.declared.tree.Source.TheVariants as source
use Rattle.pg_parse_stmt.specs.declared.tree.StmtTree.{StmtTree}
use Rattle.pg_parse_stmt.specs.declared.tree.StmtTree.TheVariants as stmt
use Rattle.pg_parse_stmt.specs.declared.tree.TablePart.{TablePart}
use Rattle.pg_parse_stmt.specs.declared.tree.TablePart.TheVariants as part
use Rattle.pg_parse_stmt.specs.declared.tree.Update.{Update}

-- there is no item
abbrev pub is_empty : {X : Type 0} → List X → Bool
is_empty [] = true
is_empty (x ∷ xs) = false

-- expressions without `merge_action()`
abbrev pub is_built_expr : Tree → Bool
is_built_expr (literal value) = true
is_built_expr (column name) = true
is_built_expr (column_of source name) = true
is_built_expr action = false
is_built_expr (unary op a) = is_built_expr a
is_built_expr (binary op a b) = is_built_expr a && is_built_expr b

-- a condition that is left out, or without `merge_action()`
abbrev pub is_built_condition : Option Tree → Bool
is_built_condition None = true
is_built_condition (Some tree) = is_built_expr tree

-- an item of a SELECT list without it
abbrev pub is_built_item : Item → Bool
is_built_item item.All = true
is_built_item (item.AllOf name) = true
is_built_item (item.Expr tree name) = is_built_expr tree

-- a source that is a table
abbrev pub is_table : Source → Bool
is_table (source.Table table) = true
is_table (source.Values values) = false
is_table (source.Query query) = false

-- one table
abbrev pub is_built_from : List (Joined Source) → Bool
is_built_from [] = false
is_built_from (joined ∷ []) = is_table joined.source && is_none joined.on
is_built_from (_ ∷ _ ∷ _) = false

-- SELECT from one table, with WHERE and AS
abbrev pub is_built_select : Select → Bool
is_built_select select =
    list_all is_built_item select.items && is_built_from select.from && is_built_condition select.condition
    && is_empty select.order && is_none select.limit && is_none select.locking

-- VALUES, without `merge_action()`
abbrev pub are_built_rows : Rows → Bool
are_built_rows (rows.Values tuples) = list_all (list_all is_built_expr) tuples
are_built_rows (rows.Query query) = false

-- INSERT with VALUES
abbrev pub is_built_insert : Insert → Bool
is_built_insert insert = are_built_rows insert.rows && is_none insert.conflict && is_empty insert.returning

-- a value that is set, without `merge_action()`
abbrev pub is_built_assignment : Assignment → Bool
is_built_assignment set = is_built_expr set.value

-- UPDATE of one table
abbrev pub is_built_update : Update → Bool
is_built_update update =
    list_all is_built_assignment update.sets && is_empty update.from && is_built_condition update.condition
    && is_empty update.returning

-- DELETE from one table
abbrev pub is_built_delete : Delete → Bool
is_built_delete delete =
    is_empty delete.using && is_built_condition delete.condition && is_empty delete.returning

-- statements that a session may be given
abbrev pub is_built_statement : StmtTree → Bool
is_built_statement stmt.Begin = true
is_built_statement stmt.Commit = true
is_built_statement stmt.Rollback = true
is_built_statement (stmt.Select select) = is_built_select select
is_built_statement (stmt.Insert insert) = is_built_insert insert
is_built_statement (stmt.Update update) = is_built_update update
is_built_statement (stmt.Delete delete) = is_built_delete delete
is_built_statement (stmt.Merge merge) = false
is_built_statement (stmt.CreateTable table) = false
is_built_statement (stmt.CreateIndex index) = false

-- a column with its kind alone
abbrev pub is_built_part : TablePart → Bool
is_built_part (part.Column written) = is_empty written.rules
is_built_part (part.Constraint name constraint) = false

-- declarations: CREATE TABLE of columns with their kinds alone
abbrev pub is_built_declaration : StmtTree → Bool
is_built_declaration (stmt.CreateTable table) = list_all is_built_part table.parts
is_built_declaration (stmt.CreateIndex index) = false
is_built_declaration stmt.Begin = false
is_built_declaration stmt.Commit = false
is_built_declaration stmt.Rollback = false
is_built_declaration (stmt.Select select) = false
is_built_declaration (stmt.Insert insert) = false
is_built_declaration (stmt.Update update) = false
is_built_declaration (stmt.Delete delete) = false
is_built_declaration (stmt.Merge merge) = false
