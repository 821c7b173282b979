-- A fault of an UPDATE or of a DELETE, behind phases without one.
use Rattle.std.proofs.Common.{◌≡◌, ◌≢◌, ◌∙◌, refl, ap, List, [], ◌++◌, flat_map, inr, true, false, Option, Some, Ok, Err, subst}
use Rattle.std.specs.Prelude.{IfErr, IsErrAnd, Result}
use Rattle.pg_parse_expr.specs.Tree.{Tree}
use Rattle.pg_parse_stmt.specs.declared.tree.Assignment.{Assignment}
use Rattle.pg_parse_stmt.specs.declared.tree.Delete.{Delete as DeleteTree}
use Rattle.pg_parse_stmt.specs.declared.tree.Update.{Update as UpdateTree}
use Rattle.pg_model.specs.declared.catalogue.Column.{Column}
use Rattle.pg_model.specs.declared.catalogue.TableShape.{TableShape}
use Rattle.pg_model.specs.declared.error.SqlError.{SqlError}
use Rattle.pg_model.specs.declared.error.SqlError.TheVariants.{WrongKind}
use Rattle.pg_model.specs.declared.statement.NamedTable.{NamedTable}
use Rattle.pg_model.specs.declared.statement.Statement.TheVariants as statement
use Rattle.pg_resolve.specs.declared.fault.AnalyseFault.{AnalyseFault}
use Rattle.pg_resolve.specs.declared.fault.AnalyseFault.TheVariants.{Memory, Error}
use Rattle.pg_resolve.specs.declared.scope.Known.{Known}
use Rattle.pg_analyse.specs.Analysis.{analysis_of_update, update_analysis}
use Rattle.pg_analyse.specs.Built.{is_empty}
use Rattle.pg_resolve.specs.Causes.{Stops, in_order}
use Rattle.pg_analyse.specs.Changes.{delete_phases, set_errors, stored_errors, target_errors, target_scope, update_of_tree, update_phases, value_phases}
use Rattle.pg_analyse.specs.Queries.{table_named, where_errors}
use Rattle.pg_analyse.proofs.Phases.{an_error}
use Rattle.pg_analyse.proofs.Setting.{stops_last}
use Rattle.pg_resolve.proofs.Stopping.{passed_up, stops_before, stops_behind}
use Rattle.pg_analyse.proofs.Storing.{none_left}

nothing_twice : (a b : List SqlError) → a ≡ [] → b ≡ [] → a ++ b ≡ []
nothing_twice a b p q = rw (p, q) refl

nothing_thrice : (a b c : List SqlError) → a ≡ [] → b ≡ [] → c ≡ [] → (a ++ b) ++ (c ++ []) ≡ []
nothing_thrice a b c p q r = rw (p, q, r) refl

-- where the expressions have no error and the values may be stored
pub values_none : (scope : List Known) (columns : List Column) (sets : List Assignment) (condition : Option Tree) →
    flat_map (set_errors scope) sets ≡ [] → where_errors scope condition ≡ [] →
    is_empty (flat_map (stored_errors scope columns) sets) ≡ true →
    in_order (value_phases scope columns sets condition) ≡ []
values_none scope columns sets condition exprs wheres stored =
    nothing_thrice (flat_map (set_errors scope) sets) (where_errors scope condition)
    (flat_map (stored_errors scope columns) sets) exprs wheres
    (none_left (flat_map (stored_errors scope columns) sets) stored)

-- where a value may not be stored, and no expression has an error
pub values_stop : (scope : List Known) (columns : List Column) (sets : List Assignment) (condition : Option Tree) →
    flat_map (set_errors scope) sets ≡ [] → where_errors scope condition ≡ [] →
    is_empty (flat_map (stored_errors scope columns) sets) ≡ false →
    Stops (in_order (value_phases scope columns sets condition)) (Error WrongKind)
values_stop scope columns sets condition exprs wheres stored =
    stops_behind (flat_map (set_errors scope) sets ++ where_errors scope condition)
    (flat_map (stored_errors scope columns) sets ++ []) (Error WrongKind)
    (nothing_twice (flat_map (set_errors scope) sets) (where_errors scope condition) exprs wheres)
    (stops_before (flat_map (stored_errors scope columns) sets) [] (Error WrongKind)
    (inr (stops_last scope columns sets stored)))

-- a fault of the values or of the condition, behind columns without one
pub update_stops : {V : Type 0} (update : UpdateTree) (named : NamedTable) (scope : List Known) (fault : AnalyseFault)
    (result : Result V AnalyseFault) → scope ≡ target_scope update.target named →
    target_errors named.shape.columns [] update.sets ≡ [] →
    Stops (in_order (value_phases scope named.shape.columns update.sets update.condition)) fault →
    IsErrAnd result (λ up. up ≡ fault) → IfErr result (Stops (in_order (update_phases update named)))
update_stops update named scope fault result is none stops up =
    passed_up result fault (Stops (in_order (update_phases update named))) up
    (stops_behind (target_errors named.shape.columns [] update.sets) _ fault none
    (subst (λ known. Stops (in_order (value_phases known named.shape.columns update.sets update.condition)) fault) is stops))

-- a fault of the condition
pub delete_stops : {V : Type 0} (delete : DeleteTree) (named : NamedTable) (scope : List Known) (fault : AnalyseFault)
    (result : Result V AnalyseFault) → scope ≡ target_scope delete.target named →
    Stops (where_errors scope delete.condition) fault → IsErrAnd result (λ up. up ≡ fault) →
    IfErr result (Stops (in_order (delete_phases delete named)))
delete_stops delete named scope fault result is stops up =
    passed_up result fault (Stops (in_order (delete_phases delete named))) up
    (stops_before (where_errors (target_scope delete.target named) delete.condition) [] fault
    (subst (λ known. Stops (where_errors known delete.condition) fault) is stops))

-- a fault of an UPDATE of the table that its name stands for is what the UPDATE is answered
pub update_answers : {V : Type 0} (catalogue : List TableShape) (update : UpdateTree) (named : NamedTable)
    (result : Result V AnalyseFault) → table_named catalogue update.target.name ≡ Some named →
    IfErr result (Stops (in_order (update_phases update named))) →
    IfErr result (λ fault. fault ≢ Memory → analysis_of_update catalogue update ≡ Err fault)
update_answers catalogue update named (Ok value) is stops = tt
update_answers catalogue update named (Err given) is stops =
    λ other. ap (update_analysis update) is
    ∙ an_error (in_order (update_phases update named)) (statement.Change (update_of_tree update named)) given stops other
