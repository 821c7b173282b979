-- What analysis makes of a statement as it is written.
use Rattle.std.specs.Prelude.{◌≡◌, List, [], ◌∷◌, ◌++◌, Option, Some, None, Result, Ok, Err, if◌then◌else◌}
use Rattle.pg_parse_stmt.specs.declared.tree.Delete.{Delete as DeleteTree}
use Rattle.pg_parse_stmt.specs.declared.tree.Insert.{Insert as InsertTree}
use Rattle.pg_parse_stmt.specs.declared.tree.StmtTree.{StmtTree}
use Rattle.pg_parse_stmt.specs.declared.tree.StmtTree.TheVariants as stmt
use Rattle.pg_parse_stmt.specs.declared.tree.Update.{Update as UpdateTree}
use Rattle.pg_model.specs.declared.catalogue.TableShape.{TableShape}
use Rattle.pg_model.specs.declared.error.SqlError.TheVariants as error
use Rattle.pg_model.specs.declared.statement.NamedTable.{NamedTable}
use Rattle.pg_model.specs.declared.statement.Statement.{Statement}
use Rattle.pg_model.specs.declared.statement.Statement.TheVariants as statement
use Rattle.pg_resolve.specs.declared.fault.AnalyseFault.{AnalyseFault}
use Rattle.pg_resolve.specs.declared.fault.AnalyseFault.TheVariants as fault
use Rattle.pg_analyse.specs.Built.{is_built_declaration, is_built_statement}
use Rattle.pg_resolve.specs.Causes.{by_phases}
use Rattle.pg_analyse.specs.Changes.{delete_of_tree, delete_phases, update_of_tree, update_phases}
use Rattle.pg_analyse.specs.Tables.{declared_table, table_phases}
use Rattle.pg_analyse.specs.Inserts.{insert_phases, inserted_into}
use Rattle.pg_analyse.specs.Queries.{select_phases, select_of_tree, table_named}

-- an INSERT into the table that was found under its name, if there is one
abbrev pub insert_analysis : InsertTree → Option NamedTable → Result Statement AnalyseFault
insert_analysis insert None = Err (fault.Error (error.NoRelation insert.table))
insert_analysis insert (Some named) =
    by_phases (insert_phases insert named.shape.columns) (statement.Insert (inserted_into insert named))

-- an INSERT over these tables
abbrev pub analysis_of_insert : List TableShape → InsertTree → Result Statement AnalyseFault
analysis_of_insert catalogue insert = insert_analysis insert (table_named catalogue insert.table)

-- an UPDATE of the table that was found under its name, if there is one
abbrev pub update_analysis : UpdateTree → Option NamedTable → Result Statement AnalyseFault
update_analysis update None = Err (fault.Error (error.NoRelation update.target.name))
update_analysis update (Some named) =
    by_phases (update_phases update named) (statement.Change (update_of_tree update named))

-- an UPDATE over these tables
abbrev pub analysis_of_update : List TableShape → UpdateTree → Result Statement AnalyseFault
analysis_of_update catalogue update = update_analysis update (table_named catalogue update.target.name)

-- a DELETE from the table that was found under its name, if there is one
abbrev pub delete_analysis : DeleteTree → Option NamedTable → Result Statement AnalyseFault
delete_analysis delete None = Err (fault.Error (error.NoRelation delete.target.name))
delete_analysis delete (Some named) =
    by_phases (delete_phases delete named) (statement.Change (delete_of_tree delete named))

-- a DELETE over these tables
abbrev pub analysis_of_delete : List TableShape → DeleteTree → Result Statement AnalyseFault
analysis_of_delete catalogue delete = delete_analysis delete (table_named catalogue delete.target.name)

-- a statement of a form that is built
abbrev pub built_analysis : List TableShape → StmtTree → Result Statement AnalyseFault
built_analysis catalogue stmt.Begin = Ok statement.Begin
built_analysis catalogue stmt.Commit = Ok statement.Commit
built_analysis catalogue stmt.Rollback = Ok statement.Rollback
built_analysis catalogue (stmt.Select select) =
    by_phases (select_phases catalogue select) (statement.Select (select_of_tree catalogue select))
built_analysis catalogue (stmt.Insert insert) = analysis_of_insert catalogue insert
built_analysis catalogue (stmt.Update update) = analysis_of_update catalogue update
built_analysis catalogue (stmt.Delete delete) = analysis_of_delete catalogue delete
built_analysis catalogue (stmt.Merge merge) = Err fault.Later
built_analysis catalogue (stmt.CreateTable table) = Err fault.Later
built_analysis catalogue (stmt.CreateIndex index) = Err fault.Later

-- the statement over the catalogue, or its first error; or it is left for later
abbrev pub analysis : List TableShape → StmtTree → Result Statement AnalyseFault
analysis catalogue tree = if is_built_statement tree then built_analysis catalogue tree else Err fault.Later

-- a declaration of a form that is built
abbrev pub built_declaration : List TableShape → StmtTree → Result TableShape AnalyseFault
built_declaration catalogue (stmt.CreateTable table) = by_phases (table_phases catalogue table) (declared_table table)
built_declaration catalogue (stmt.CreateIndex index) = Err fault.Later
built_declaration catalogue stmt.Begin = Err fault.Later
built_declaration catalogue stmt.Commit = Err fault.Later
built_declaration catalogue stmt.Rollback = Err fault.Later
built_declaration catalogue (stmt.Select select) = Err fault.Later
built_declaration catalogue (stmt.Insert insert) = Err fault.Later
built_declaration catalogue (stmt.Update update) = Err fault.Later
built_declaration catalogue (stmt.Delete delete) = Err fault.Later
built_declaration catalogue (stmt.Merge merge) = Err fault.Later

-- the table that a CREATE declares, or its first error; or it is left for later
abbrev pub declaration : List TableShape → StmtTree → Result TableShape AnalyseFault
declaration catalogue tree =
    if is_built_declaration tree then built_declaration catalogue tree else Err fault.Later

-- the catalogue has the table that is declared behind those that it had
abbrev pub Declares : List TableShape → Result TableShape AnalyseFault → List TableShape → Type 0
Declares before (Ok shape) after = after ≡ before ++ shape ∷ []
Declares before (Err fault) after = ⊥
