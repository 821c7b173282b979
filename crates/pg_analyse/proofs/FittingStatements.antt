-- A statement without errors fits its catalogue.
use Rattle.std.proofs.Common.{◌≡◌, refl, subst, Bool, true, false, if◌then◌else◌, List, Option, Some, None, Result, Ok, Err}
use Rattle.std.specs.List.{list_all}
use Rattle.pg_parse_stmt.specs.declared.tree.Delete.{Delete as DeleteTree}
use Rattle.pg_parse_stmt.specs.declared.tree.Insert.{Insert as InsertTree}
use Rattle.pg_parse_stmt.specs.declared.tree.StmtTree.{StmtTree}
use Rattle.pg_parse_stmt.specs.declared.tree.StmtTree.TheVariants as stmt
use Rattle.pg_parse_stmt.specs.declared.tree.Update.{Update as UpdateTree}
use Rattle.pg_model.specs.declared.catalogue.TableShape.{TableShape}
use Rattle.pg_model.specs.declared.statement.Change.{Change}
use Rattle.pg_model.specs.declared.statement.Insert.{Insert}
use Rattle.pg_model.specs.declared.statement.NamedTable.{NamedTable}
use Rattle.pg_model.specs.declared.statement.Select.{Select}
use Rattle.pg_model.specs.declared.statement.Statement.{Statement}
use Rattle.pg_model.specs.declared.statement.Statement.TheVariants as statement
use Rattle.pg_model.specs.Statements.{IsChange, IsInsert, IsSelect, IsStatement}
use Rattle.pg_resolve.specs.declared.fault.AnalyseFault.{AnalyseFault}
use Rattle.pg_resolve.specs.declared.fault.AnalyseFault.TheVariants as fault
use Rattle.pg_analyse.specs.Analysis.{built_analysis, delete_analysis, insert_analysis, update_analysis}
use Rattle.pg_analyse.specs.Built.{is_built_statement}
use Rattle.pg_resolve.specs.Causes.{in_order}
use Rattle.pg_analyse.specs.Changes.{delete_of_tree, delete_phases, update_of_tree, update_phases}
use Rattle.pg_analyse.specs.Inserts.{insert_phases, inserted_into, tuples_of}
use Rattle.pg_analyse.specs.Laws.{StatementsFit}
use Rattle.pg_analyse.proofs.Premises.{is_low_statement, low_statement}
use Rattle.pg_analyse.specs.Queries.{select_phases, select_of_tree, table_named}
use Rattle.pg_analyse.proofs.FittingChanges.{delete_fits, update_fits}
use Rattle.pg_analyse.proofs.FittingInserts.{insert_fits}
use Rattle.pg_analyse.proofs.FittingSelects.{found_table, select_fits}
use Rattle.pg_resolve.proofs.FittingExprs.{is_low}
use Rattle.pg_resolve.proofs.Holding.{err_ok, no_error, the_value}

begin_fits : (catalogue : List TableShape) → IsStatement catalogue statement.Begin
begin_fits catalogue =
    record {
      selects = λ select is. absurd (cc);
      inserts = λ insert is. absurd (cc);
      changes = λ change is. absurd (cc);
    }

commit_fits : (catalogue : List TableShape) → IsStatement catalogue statement.Commit
commit_fits catalogue =
    record {
      selects = λ select is. absurd (cc);
      inserts = λ insert is. absurd (cc);
      changes = λ change is. absurd (cc);
    }

rollback_fits : (catalogue : List TableShape) → IsStatement catalogue statement.Rollback
rollback_fits catalogue =
    record {
      selects = λ select is. absurd (cc);
      inserts = λ insert is. absurd (cc);
      changes = λ change is. absurd (cc);
    }

same_select : (a b : Select) → statement.Select a ≡ statement.Select b → a ≡ b
same_select a b e = cc

same_insert : (a b : Insert) → statement.Insert a ≡ statement.Insert b → a ≡ b
same_insert a b e = cc

same_change : (a b : Change) → statement.Change a ≡ statement.Change b → a ≡ b
same_change a b e = cc

selecting : (catalogue : List TableShape) (select : Select) → IsSelect catalogue select →
    IsStatement catalogue (statement.Select select)
selecting catalogue select fits =
    record {
      selects = λ other is. subst (λ (s : Select). IsSelect catalogue s) (same_select select other is) fits;
      inserts = λ insert is. absurd (cc);
      changes = λ change is. absurd (cc);
    }

inserting : (catalogue : List TableShape) (insert : Insert) → IsInsert catalogue insert →
    IsStatement catalogue (statement.Insert insert)
inserting catalogue insert fits =
    record {
      selects = λ select is. absurd (cc);
      inserts = λ other is. subst (λ (i : Insert). IsInsert catalogue i) (same_insert insert other is) fits;
      changes = λ change is. absurd (cc);
    }

changing : (catalogue : List TableShape) (change : Change) → IsChange catalogue change →
    IsStatement catalogue (statement.Change change)
changing catalogue change fits =
    record {
      selects = λ select is. absurd (cc);
      inserts = λ insert is. absurd (cc);
      changes = λ other is. subst (λ (c : Change). IsChange catalogue c) (same_change change other is) fits;
    }

ok_same : (result : Result Statement AnalyseFault) (a b : Statement) → result ≡ Ok a → result ≡ Ok b → a ≡ b
ok_same result a b one other = cc

insert_into : (catalogue : List TableShape) (insert : InsertTree) (given : Statement) (found : Option NamedTable) →
    table_named catalogue insert.table ≡ found → insert_analysis insert found ≡ Ok given →
    list_all (list_all is_low) (tuples_of insert.rows) ≡ true → IsStatement catalogue given
insert_into catalogue insert given None is e low = absurd (err_ok e)
insert_into catalogue insert given (Some named) is e low =
    subst (λ (s : Statement). IsStatement catalogue s)
    (the_value (in_order (insert_phases insert named.shape.columns)) (statement.Insert (inserted_into insert named)) given e)
    (inserting catalogue (inserted_into insert named)
    (insert_fits catalogue insert named (found_table catalogue insert.table named is) low
    (no_error (in_order (insert_phases insert named.shape.columns)) (statement.Insert (inserted_into insert named)) given e)))

update_of : (catalogue : List TableShape) (update : UpdateTree) (given : Statement) (found : Option NamedTable) →
    table_named catalogue update.target.name ≡ found → update_analysis update found ≡ Ok given →
    is_low_statement (stmt.Update update) ≡ true → IsStatement catalogue given
update_of catalogue update given None is e low = absurd (err_ok e)
update_of catalogue update given (Some named) is e low =
    subst (λ (s : Statement). IsStatement catalogue s)
    (the_value (in_order (update_phases update named)) (statement.Change (update_of_tree update named)) given e)
    (changing catalogue (update_of_tree update named)
    (update_fits catalogue update named (found_table catalogue update.target.name named is) low
    (no_error (in_order (update_phases update named)) (statement.Change (update_of_tree update named)) given e)))

delete_of : (catalogue : List TableShape) (delete : DeleteTree) (given : Statement) (found : Option NamedTable) →
    table_named catalogue delete.target.name ≡ found → delete_analysis delete found ≡ Ok given →
    is_low_statement (stmt.Delete delete) ≡ true → IsStatement catalogue given
delete_of catalogue delete given None is e low = absurd (err_ok e)
delete_of catalogue delete given (Some named) is e low =
    subst (λ (s : Statement). IsStatement catalogue s)
    (the_value (in_order (delete_phases delete named)) (statement.Change (delete_of_tree delete named)) given e)
    (changing catalogue (delete_of_tree delete named)
    (delete_fits catalogue delete named (found_table catalogue delete.target.name named is) low
    (no_error (in_order (delete_phases delete named)) (statement.Change (delete_of_tree delete named)) given e)))

built_fits : (catalogue : List TableShape) (tree : StmtTree) (given : Statement) →
    built_analysis catalogue tree ≡ Ok given → is_low_statement tree ≡ true → IsStatement catalogue given
built_fits catalogue stmt.Begin given e low =
    subst (λ (s : Statement). IsStatement catalogue s) (ok_same (Ok statement.Begin) statement.Begin given refl e)
    (begin_fits catalogue)
built_fits catalogue stmt.Commit given e low =
    subst (λ (s : Statement). IsStatement catalogue s) (ok_same (Ok statement.Commit) statement.Commit given refl e)
    (commit_fits catalogue)
built_fits catalogue stmt.Rollback given e low =
    subst (λ (s : Statement). IsStatement catalogue s) (ok_same (Ok statement.Rollback) statement.Rollback given refl e)
    (rollback_fits catalogue)
built_fits catalogue (stmt.Select select) given e low =
    subst (λ (s : Statement). IsStatement catalogue s)
    (the_value (in_order (select_phases catalogue select)) (statement.Select (select_of_tree catalogue select)) given e)
    (selecting catalogue (select_of_tree catalogue select)
    (select_fits catalogue select low
    (no_error (in_order (select_phases catalogue select)) (statement.Select (select_of_tree catalogue select)) given e)))
built_fits catalogue (stmt.Insert insert) given e low =
    insert_into catalogue insert given (table_named catalogue insert.table) refl e low
built_fits catalogue (stmt.Update update) given e low =
    update_of catalogue update given (table_named catalogue update.target.name) refl e low
built_fits catalogue (stmt.Delete delete) given e low =
    delete_of catalogue delete given (table_named catalogue delete.target.name) refl e low
built_fits catalogue (stmt.Merge merge) given e low = absurd (err_ok e)
built_fits catalogue (stmt.CreateTable table) given e low = absurd (err_ok e)
built_fits catalogue (stmt.CreateIndex index) given e low = absurd (err_ok e)

if_built : (catalogue : List TableShape) (tree : StmtTree) (given : Statement) (built : Bool) →
    (if built then built_analysis catalogue tree else Err fault.Later) ≡ Ok given → is_low_statement tree ≡ true →
    IsStatement catalogue given
if_built catalogue tree given false e low = absurd (err_ok e)
if_built catalogue tree given true e low = built_fits catalogue tree given e low

pub statements_fit : StatementsFit
statements_fit catalogue tree given e within =
    if_built catalogue tree given (is_built_statement tree) e (low_statement tree within)
