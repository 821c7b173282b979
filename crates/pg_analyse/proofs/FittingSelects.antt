-- A SELECT without errors fits its catalogue.
use Rattle.std.proofs.Common.{◌≡◌, refl, sym, ap, ◌∙◌, subst, arith, ◌+◌, ◌<◌, ℕ, suc, true, ◌&&◌, nat_lt, List, [], ◌∷◌, ◌++◌, length, map, flat_map, Option, Some, None, lt-ltb, ltb-true, option_map, option_and_then, All}
use Rattle.std.proofs.lemmas.List.Elements.{All-nil, All-cons}
use Rattle.std.proofs.lemmas.List.Folds.{list_all-append}
use Rattle.std.specs.List.{cons_option, list_all}
use Rattle.std.specs.Option.{option_map_or}
use Rattle.pg_lists.specs.Numbered.{item_at}
use Rattle.pg_values.specs.declared.value.Kind.{Kind}
use Rattle.pg_exprs.specs.Tree.{column as resolved_column}
use Rattle.pg_exprs.specs.Kinds.{is_boolean}
use Rattle.pg_names.specs.Names.{is_among, number_of}
use Rattle.pg_parse_expr.specs.Tree.{Tree}
use Rattle.pg_parse_stmt.specs.declared.tree.Item.{Item}
use Rattle.pg_parse_stmt.specs.declared.tree.Item.TheVariants as item
use Rattle.pg_parse_stmt.specs.declared.tree.Select.{Select as SelectTree}
use Rattle.pg_parse_stmt.specs.declared.tree.TableRef.{TableRef}
use Rattle.pg_model.specs.declared.catalogue.Column.{Column}
use Rattle.pg_model.specs.declared.catalogue.TableShape.{TableShape}
use Rattle.pg_model.specs.declared.error.SqlError.TheVariants as error
use Rattle.pg_model.specs.declared.statement.NamedTable.{NamedTable}
use Rattle.pg_model.specs.declared.statement.Source.{Source}
use Rattle.pg_model.specs.declared.statement.Source.TheVariants as source
use Rattle.pg_model.specs.Kinds.{has_columns, has_kind, is_item, kinds_of}
use Rattle.pg_model.specs.Statements.{IsSelect, IsSource, IsTableOf, is_where, source_kinds}
use Rattle.pg_resolve.specs.declared.scope.Known.{Known}
use Rattle.pg_resolve.specs.Causes.{in_order}
use Rattle.pg_analyse.proofs.Premises.{is_low_condition, is_low_item}
use Rattle.pg_analyse.specs.Queries.{alias_errors, all_columns_from, columns_from, columns_of_source, existence_errors, item_errors, item_exprs, known_name, part_errors, reference_errors, relation_errors, scope_of, select_phases, select_of_tree, sources_of, table_named, table_names, tables_in, where_errors}
use Rattle.pg_resolve.specs.Resolved.{expr_errors, kind_errors, kind_in, expr_of_tree}
use Rattle.pg_resolve.specs.Scope.{scope_kinds, source_named}
use Rattle.pg_resolve.proofs.FittingExprs.{expr_fits, kind_exists}
use Rattle.pg_resolve.proofs.Holding.{both, else_nil, left_holds, left_nil, none_some, right_holds, right_nil, some_same}
use Rattle.pg_resolve.proofs.Placing.{Follows, among_found, follows_all, follows_first, follows_next, get_below, has_known, length_of_map, number_below}

-- a table with its number
abbrev with_shape : ℕ → TableShape → NamedTable
with_shape number shape = record { table = number; shape = shape }

abbrev no_table : Option NamedTable
no_table = None

shape_found : (catalogue : List TableShape) (number : ℕ) (named : NamedTable) (found : Option TableShape) →
    item_at catalogue number ≡ found →
    option_map (with_shape number) found ≡ Some named →
    IsTableOf catalogue named
shape_found catalogue number named None is e = absurd (none_some e)
shape_found catalogue number named (Some shape) is e =
    subst (λ (n : NamedTable). IsTableOf catalogue n) (some_same (with_shape number shape) named e) is

number_found : (catalogue : List TableShape) (named : NamedTable) (found : Option ℕ) →
    option_and_then (λ (number : ℕ). option_map (with_shape number)
    (item_at catalogue number)) found ≡ Some named →
    IsTableOf catalogue named
number_found catalogue named None e = absurd (none_some e)
number_found catalogue named (Some number) e = shape_found catalogue number named (item_at catalogue number) refl e

-- a table that is found is the catalogue's
pub found_table : (catalogue : List TableShape) (name : List ℕ) (named : NamedTable) →
    table_named catalogue name ≡ Some named → IsTableOf catalogue named
found_table catalogue name named e = number_found catalogue named (number_of (table_names catalogue) name) e

shape_there : (catalogue : List TableShape) (number : ℕ) (found : Option TableShape) → item_at catalogue number ≡ found →
    nat_lt number (length (table_names catalogue)) ≡ true →
    option_map (with_shape number) found ≡ no_table → ⊥
shape_there catalogue number None is below e =
    let less : number < length (table_names catalogue) = ltb-true number (length (table_names catalogue)) below in
    let count : length (table_names catalogue) ≡ length catalogue =
    length_of_map (λ (shape : TableShape). shape.name) catalogue in
    get_below catalogue number (omega arith) is
shape_there catalogue number (Some shape) is below e = none_some (sym e)

number_there : (catalogue : List TableShape) (name : List ℕ) (found : Option ℕ) →
    number_of (table_names catalogue) name ≡ found → (found ≡ None → ⊥) →
    option_and_then (λ (number : ℕ). option_map (with_shape number)
    (item_at catalogue number)) found ≡ no_table → ⊥
number_there catalogue name None is some e = some refl
number_there catalogue name (Some number) is some e =
    shape_there catalogue number (item_at catalogue number) refl (number_below (table_names catalogue) name number is) e

-- a table that exists is found
table_there : (catalogue : List TableShape) (name : List ℕ) → existence_errors catalogue name ≡ [] →
    table_named catalogue name ≡ None → ⊥
table_there catalogue name none e =
    number_there catalogue name (number_of (table_names catalogue) name) refl
    (among_found (table_names catalogue) name (else_nil (is_among (table_names catalogue) name) (error.NoRelation name) none))
    e

sources_more : (catalogue : List TableShape) (found : Option NamedTable) (sources : List Source) →
    ((named : NamedTable) → found ≡ Some named → IsTableOf catalogue named) → All (IsSource catalogue) sources →
    All (IsSource catalogue) (cons_option (option_map source.Table found) sources)
sources_more catalogue None sources is all = all
sources_more catalogue (Some named) sources is all =
    All-cons (IsSource catalogue) (source.Table named) sources (λ other e. is other e) all

-- the sources are the catalogue's tables
sources_fit : (catalogue : List TableShape) (tables : List TableRef) →
    All (IsSource catalogue) (sources_of catalogue tables)
sources_fit catalogue [] = All-nil (IsSource catalogue)
sources_fit catalogue (table ∷ tables) =
    sources_more catalogue (table_named catalogue table.name) (sources_of catalogue tables)
    (λ named e. found_table catalogue table.name named e) (sources_fit catalogue tables)

kinds_more : (found : Option NamedTable) (sources : List Source) (kinds : List (List (Option Kind))) →
    (found ≡ None → ⊥) → map source_kinds sources ≡ kinds →
    map source_kinds (cons_option (option_map source.Table found) sources)
    ≡ kinds_of (option_map_or (λ (named : NamedTable). named.shape.columns) found []) ∷ kinds
kinds_more None sources kinds some is = absurd (some refl)
kinds_more (Some named) sources kinds some is = ap (λ all. kinds_of named.shape.columns ∷ all) is

-- and their columns are those that the expressions know
same_kinds : (catalogue : List TableShape) (before : List (List ℕ)) (tables : List TableRef) →
    relation_errors catalogue before tables ≡ [] →
    map source_kinds (sources_of catalogue tables) ≡ scope_kinds (scope_of catalogue tables)
same_kinds catalogue before [] none = refl
same_kinds catalogue before (table ∷ tables) none =
    kinds_more (table_named catalogue table.name) (sources_of catalogue tables) (scope_kinds (scope_of catalogue tables))
    (table_there catalogue table.name
    (left_nil (existence_errors catalogue table.name) (alias_errors before (known_name table))
    (left_nil (reference_errors catalogue before table)
    (relation_errors catalogue (before ++ known_name table ∷ []) tables) none)))
    (same_kinds catalogue (before ++ known_name table ∷ []) tables
    (right_nil (reference_errors catalogue before table)
    (relation_errors catalogue (before ++ known_name table ∷ []) tables) none))

-- the columns of a source from a number on
columns_fit : (scope : List Known) (n number : ℕ) (known : Known) (columns : List Column) →
    item_at scope n ≡ Some known → number + length columns ≡ length known.columns →
    list_all (is_item (scope_kinds scope)) (columns_from n number columns) ≡ true
columns_fit scope n number known [] is count = refl
columns_fit scope n number known (column ∷ columns) is count =
    both (is_item (scope_kinds scope) (resolved_column n number))
    (list_all (is_item (scope_kinds scope)) (columns_from n (suc number) columns))
    (both (has_columns (scope_kinds scope) (resolved_column n number)) true
    (has_known scope n number known is (lt-ltb number (length known.columns) (omega arith))) refl)
    (columns_fit scope n (suc number) known columns is (omega arith))

all_fit : (n : ℕ) (scope whole : List Known) → Follows n scope whole →
    list_all (is_item (scope_kinds whole)) (all_columns_from n scope) ≡ true
all_fit n [] whole follows = refl
all_fit n (known ∷ scope) whole follows =
    list_all-append (is_item (scope_kinds whole)) (columns_from n 0 known.columns) (all_columns_from (suc n) scope)
    ∙ both (list_all (is_item (scope_kinds whole)) (columns_from n 0 known.columns))
    (list_all (is_item (scope_kinds whole)) (all_columns_from (suc n) scope))
    (columns_fit whole n 0 known known.columns (follows_first n known scope whole follows) (omega arith))
    (all_fit (suc n) scope whole (follows_next n known scope whole follows))

source_fit : (scope : List Known) (n : ℕ) (found : Option Known) → item_at scope n ≡ found →
    list_all (is_item (scope_kinds scope)) (option_map_or (λ (known : Known). columns_from n 0 known.columns) found []) ≡ true
source_fit scope n None is = refl
source_fit scope n (Some known) is = columns_fit scope n 0 known known.columns is (omega arith)

named_fit : (scope : List Known) (found : Option ℕ) →
    list_all (is_item (scope_kinds scope)) (option_map_or (columns_of_source scope) found []) ≡ true
named_fit scope None = refl
named_fit scope (Some n) = source_fit scope n (item_at scope n) refl

item_fits : (scope : List Known) (given : Item) → is_low_item given ≡ true → item_errors scope given ≡ [] →
    list_all (is_item (scope_kinds scope)) (item_exprs scope given) ≡ true
item_fits scope item.All low none = all_fit 0 scope scope (follows_all scope)
item_fits scope (item.AllOf name) low none = named_fit scope (source_named scope name)
item_fits scope (item.Expr tree name) low none =
    both (is_item (scope_kinds scope) (expr_of_tree scope tree)) true
    (expr_fits (λ kind. true) scope tree low none (kind_exists scope tree none)) refl

items_fit : (scope : List Known) (items : List Item) → list_all is_low_item items ≡ true →
    flat_map (item_errors scope) items ≡ [] →
    list_all (is_item (scope_kinds scope)) (flat_map (item_exprs scope) items) ≡ true
items_fit scope [] low none = refl
items_fit scope (given ∷ items) low none =
    list_all-append (is_item (scope_kinds scope)) (item_exprs scope given) (flat_map (item_exprs scope) items)
    ∙ both (list_all (is_item (scope_kinds scope)) (item_exprs scope given))
    (list_all (is_item (scope_kinds scope)) (flat_map (item_exprs scope) items))
    (item_fits scope given (left_holds (is_low_item given) (list_all is_low_item items) low)
    (left_nil (item_errors scope given) (flat_map (item_errors scope) items) none))
    (items_fit scope items (right_holds (is_low_item given) (list_all is_low_item items) low)
    (right_nil (item_errors scope given) (flat_map (item_errors scope) items) none))

pub where_fits : (scope : List Known) (condition : Option Tree) → is_low_condition condition ≡ true →
    where_errors scope condition ≡ [] → is_where (scope_kinds scope) (option_map (expr_of_tree scope) condition) ≡ true
where_fits scope None low none = refl
where_fits scope (Some tree) low none =
    expr_fits is_boolean scope tree low
    (left_nil (expr_errors scope tree) (kind_errors is_boolean (kind_in scope tree)) none)
    (else_nil (has_kind is_boolean (kind_in scope tree)) error.WrongKind
    (right_nil (expr_errors scope tree) (kind_errors is_boolean (kind_in scope tree)) none))

-- over the scope of its tables
parts_fit : (catalogue : List TableShape) (select : SelectTree) (scope : List Known) →
    scope ≡ scope_of catalogue (tables_in select.from) →
    map source_kinds (sources_of catalogue (tables_in select.from)) ≡ scope_kinds scope →
    (list_all is_low_item select.items && is_low_condition select.condition) ≡ true → part_errors scope select ≡ [] →
    IsSelect catalogue (select_of_tree catalogue select)
parts_fit catalogue select scope is kinds low none =
    record {
      sources = sources_fit catalogue (tables_in select.from);
      items =
          subst (λ (s : List Known). list_all (is_item (map source_kinds (sources_of catalogue (tables_in select.from))))
          (flat_map (item_exprs s) select.items) ≡ true) is
          (subst (λ (k : List (List (Option Kind))). list_all (is_item k) (flat_map (item_exprs scope) select.items) ≡ true)
          (sym kinds)
          (items_fit scope select.items
          (left_holds (list_all is_low_item select.items) (is_low_condition select.condition) low)
          (left_nil (flat_map (item_errors scope) select.items) (where_errors scope select.condition) none)));
      condition =
          subst (λ (s : List Known). is_where (map source_kinds (sources_of catalogue (tables_in select.from)))
          (option_map (expr_of_tree s) select.condition) ≡ true) is
          (subst (λ (k : List (List (Option Kind))). is_where k (option_map (expr_of_tree scope) select.condition) ≡ true)
          (sym kinds)
          (where_fits scope select.condition
          (right_holds (list_all is_low_item select.items) (is_low_condition select.condition) low)
          (right_nil (flat_map (item_errors scope) select.items) (where_errors scope select.condition) none)));
    }

pub select_fits : (catalogue : List TableShape) (select : SelectTree) →
    (list_all is_low_item select.items && is_low_condition select.condition) ≡ true →
    in_order (select_phases catalogue select) ≡ [] → IsSelect catalogue (select_of_tree catalogue select)
select_fits catalogue select low none =
    parts_fit catalogue select (scope_of catalogue (tables_in select.from)) refl
    (same_kinds catalogue [] (tables_in select.from)
    (left_nil (relation_errors catalogue [] (tables_in select.from))
    (part_errors (scope_of catalogue (tables_in select.from)) select ++ []) none))
    low
    (left_nil (part_errors (scope_of catalogue (tables_in select.from)) select) []
    (right_nil (relation_errors catalogue [] (tables_in select.from))
    (part_errors (scope_of catalogue (tables_in select.from)) select ++ []) none))
