-- An UPDATE and a DELETE without errors fit their catalogue.
use Rattle.std.proofs.Common.{◌≡◌, refl, ℕ, true, false, ◌&&◌, if◌then◌else◌, nat_lt, List, [], ◌∷◌, ◌++◌, length, map, flat_map, Option, Some, None, ltb-true, unwrap_or}
use Rattle.std.proofs.lemmas.List.Elements.{All-nil}
use Rattle.std.specs.List.{list_all}
use Rattle.std.specs.Option.{option_map_or}
use Rattle.pg_lists.specs.Numbered.{item_at}
use Rattle.pg_values.specs.declared.value.Kind.{Kind}
use Rattle.pg_names.specs.Names.{is_among, number_of}
use Rattle.pg_parse_expr.specs.Tree.{Tree}
use Rattle.pg_parse_stmt.specs.declared.tree.Assignment.{Assignment}
use Rattle.pg_parse_stmt.specs.declared.tree.Delete.{Delete as DeleteTree}
use Rattle.pg_parse_stmt.specs.declared.tree.Update.{Update as UpdateTree}
use Rattle.pg_model.specs.declared.catalogue.Column.{Column}
use Rattle.pg_model.specs.declared.catalogue.TableShape.{TableShape}
use Rattle.pg_model.specs.declared.error.SqlError.TheVariants as error
use Rattle.pg_model.specs.declared.statement.NamedTable.{NamedTable}
use Rattle.pg_model.specs.Kinds.{has_kind, is_stored, may_be_stored}
use Rattle.pg_model.specs.Statements.{IsChange, IsSource, IsTableOf, is_assignment}
use Rattle.pg_resolve.specs.declared.scope.Known.{Known}
use Rattle.pg_resolve.specs.Causes.{in_order}
use Rattle.pg_analyse.specs.Changes.{assignment_of, delete_of_tree, delete_phases, set_errors, set_number, setting_errors, stored_errors, target_errors, target_scope, update_of_tree, update_phases}
use Rattle.pg_analyse.specs.Queries.{where_errors}
use Rattle.pg_resolve.specs.Resolved.{expr_errors, expr_of_tree, kind_errors, kind_in}
use Rattle.pg_resolve.specs.Scope.{column_names, scope_kinds}
use Rattle.pg_analyse.proofs.Fitting.{first_none, fourth_none, second_none, third_none}
use Rattle.pg_resolve.proofs.FittingExprs.{expr_fits, is_low}
use Rattle.pg_analyse.proofs.FittingSelects.{where_fits}
use Rattle.pg_resolve.proofs.Holding.{both, else_nil, left_holds, left_nil, right_holds, right_nil}
use Rattle.pg_resolve.proofs.Placing.{among_found, column_below, get_below}
use Rattle.pg_analyse.proofs.Premises.{is_low_condition, is_low_set}

-- the number of a column that exists
found_below : (columns : List Column) (name : List ℕ) (found : Option ℕ) →
    number_of (column_names columns) name ≡ found → (found ≡ None → ⊥) →
    nat_lt (unwrap_or found 0) (length columns) ≡ true
found_below columns name None is some = absurd (some refl)
found_below columns name (Some n) is some = column_below columns name n is

set_below : (columns : List Column) (name : List ℕ) → is_among (column_names columns) name ≡ true →
    nat_lt (set_number columns name) (length columns) ≡ true
set_below columns name among =
    found_below columns name (number_of (column_names columns) name) refl
    (λ none. among_found (column_names columns) name among none)

-- the first column that is set exists
first_among : (columns : List Column) (before : List (List ℕ)) (set : Assignment) (sets : List Assignment) →
    target_errors columns before (set ∷ sets) ≡ [] → is_among (column_names columns) set.column ≡ true
first_among columns before set sets none =
    else_nil (is_among (column_names columns) set.column) (error.NoColumn set.column)
    (left_nil (if is_among (column_names columns) set.column then [] else error.NoColumn set.column ∷ [])
    (if is_among before set.column then error.SetTwice set.column ∷ [] else [])
    (left_nil (setting_errors columns before set.column) (target_errors columns (before ++ set.column ∷ []) sets) none))

-- a value without errors may be stored in a column that exists
value_stored : (scope : List Known) (columns : List Column) (number : ℕ) (tree : Tree) (found : Option Column) →
    item_at columns number ≡ found → nat_lt number (length columns) ≡ true → is_low tree ≡ true →
    expr_errors scope tree ≡ [] →
    option_map_or (λ (to : Kind). kind_errors (λ from. may_be_stored from to) (kind_in scope tree))
    (option_map_or (λ (column : Column). Some column.kind) found None) [] ≡ [] →
    option_map_or (λ (kind : Kind). is_stored kind (scope_kinds scope) (expr_of_tree scope tree))
    (option_map_or (λ (column : Column). Some column.kind) found None) false ≡ true
value_stored scope columns number tree None is below low none stored =
    absurd (get_below columns number (ltb-true number (length columns) below) is)
value_stored scope columns number tree (Some column) is below low none stored =
    expr_fits (λ from. may_be_stored from column.kind) scope tree low none
    (else_nil (has_kind (λ from. may_be_stored from column.kind) (kind_in scope tree)) error.WrongKind stored)

sets_fit : (scope : List Known) (columns : List Column) (before : List (List ℕ)) (sets : List Assignment) →
    target_errors columns before sets ≡ [] → list_all is_low_set sets ≡ true → flat_map (set_errors scope) sets ≡ [] →
    flat_map (stored_errors scope columns) sets ≡ [] →
    list_all (is_assignment (scope_kinds scope) columns) (map (assignment_of scope columns) sets) ≡ true
sets_fit scope columns before [] targets low none stored = refl
sets_fit scope columns before (set ∷ sets) targets low none stored =
    both (is_assignment (scope_kinds scope) columns (assignment_of scope columns set))
    (list_all (is_assignment (scope_kinds scope) columns) (map (assignment_of scope columns) sets))
    (value_stored scope columns (set_number columns set.column) set.value
    (item_at columns (set_number columns set.column)) refl
    (set_below columns set.column (first_among columns before set sets targets))
    (left_holds (is_low_set set) (list_all is_low_set sets) low)
    (left_nil (set_errors scope set) (flat_map (set_errors scope) sets) none)
    (left_nil (stored_errors scope columns set) (flat_map (stored_errors scope columns) sets) stored))
    (sets_fit scope columns (before ++ set.column ∷ []) sets
    (right_nil (setting_errors columns before set.column) (target_errors columns (before ++ set.column ∷ []) sets) targets)
    (right_holds (is_low_set set) (list_all is_low_set sets) low)
    (right_nil (set_errors scope set) (flat_map (set_errors scope) sets) none)
    (right_nil (stored_errors scope columns set) (flat_map (stored_errors scope columns) sets) stored))

-- an UPDATE over the scope of its target
parts_fit : (catalogue : List TableShape) (update : UpdateTree) (named : NamedTable) → IsTableOf catalogue named →
    (list_all is_low_set update.sets && is_low_condition update.condition) ≡ true →
    target_errors named.shape.columns [] update.sets ≡ [] →
    flat_map (set_errors (target_scope update.target named)) update.sets ≡ [] →
    where_errors (target_scope update.target named) update.condition ≡ [] →
    flat_map (stored_errors (target_scope update.target named) named.shape.columns) update.sets ≡ [] →
    IsChange catalogue (update_of_tree update named)
parts_fit catalogue update named is low targets sets wheres stored =
    record {
      target = is;
      sources = All-nil (IsSource catalogue);
      action =
          sets_fit (target_scope update.target named) named.shape.columns [] update.sets targets
          (left_holds (list_all is_low_set update.sets) (is_low_condition update.condition) low) sets stored;
      condition =
          where_fits (target_scope update.target named) update.condition
          (right_holds (list_all is_low_set update.sets) (is_low_condition update.condition) low) wheres;
    }

-- an UPDATE
pub update_fits : (catalogue : List TableShape) (update : UpdateTree) (named : NamedTable) → IsTableOf catalogue named →
    (list_all is_low_set update.sets && is_low_condition update.condition) ≡ true →
    in_order (update_phases update named) ≡ [] → IsChange catalogue (update_of_tree update named)
update_fits catalogue update named is low none =
    parts_fit catalogue update named is low
    (first_none (target_errors named.shape.columns [] update.sets)
    (flat_map (set_errors (target_scope update.target named)) update.sets)
    (where_errors (target_scope update.target named) update.condition)
    (flat_map (stored_errors (target_scope update.target named) named.shape.columns) update.sets) none)
    (second_none (target_errors named.shape.columns [] update.sets)
    (flat_map (set_errors (target_scope update.target named)) update.sets)
    (where_errors (target_scope update.target named) update.condition)
    (flat_map (stored_errors (target_scope update.target named) named.shape.columns) update.sets) none)
    (third_none (target_errors named.shape.columns [] update.sets)
    (flat_map (set_errors (target_scope update.target named)) update.sets)
    (where_errors (target_scope update.target named) update.condition)
    (flat_map (stored_errors (target_scope update.target named) named.shape.columns) update.sets) none)
    (fourth_none (target_errors named.shape.columns [] update.sets)
    (flat_map (set_errors (target_scope update.target named)) update.sets)
    (where_errors (target_scope update.target named) update.condition)
    (flat_map (stored_errors (target_scope update.target named) named.shape.columns) update.sets) none)

-- and a DELETE
pub delete_fits : (catalogue : List TableShape) (delete : DeleteTree) (named : NamedTable) → IsTableOf catalogue named →
    is_low_condition delete.condition ≡ true → in_order (delete_phases delete named) ≡ [] →
    IsChange catalogue (delete_of_tree delete named)
delete_fits catalogue delete named is low none =
    record {
      target = is;
      sources = All-nil (IsSource catalogue);
      action = refl;
      condition =
          where_fits (target_scope delete.target named) delete.condition low
          (left_nil (where_errors (target_scope delete.target named) delete.condition) [] none);
    }
