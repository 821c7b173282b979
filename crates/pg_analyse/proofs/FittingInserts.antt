-- An INSERT without errors fits its catalogue.
use Rattle.std.proofs.Common.{◌≡◌, refl, ap, ◌∙◌, arith, ◌+◌, ◌≤◌, ℕ, suc, true, false, if◌then◌else◌, nat_lt, List, [], ◌∷◌, ◌++◌, length, map, flat_map, filter_map, Option, Some, None, ltb-true, lt-ltb, eqb-true}
use Rattle.std.proofs.lemmas.Bool.{leb-true}
use Rattle.std.specs.List.{cons_option, list_all}
use Rattle.std.specs.Option.{option_map_or}
use Rattle.pg_lists.specs.Numbered.{item_at}
use Rattle.pg_values.specs.declared.value.Kind.{Kind}
use Rattle.pg_names.specs.Names.{is_among, number_of}
use Rattle.pg_parse_expr.specs.Tree.{Tree}
use Rattle.pg_parse_stmt.specs.declared.tree.Insert.{Insert as InsertTree}
use Rattle.pg_model.specs.declared.catalogue.Column.{Column}
use Rattle.pg_model.specs.declared.catalogue.TableShape.{TableShape}
use Rattle.pg_model.specs.declared.error.SqlError.{SqlError}
use Rattle.pg_model.specs.declared.error.SqlError.TheVariants as error
use Rattle.pg_model.specs.declared.statement.NamedTable.{NamedTable}
use Rattle.pg_model.specs.Kinds.{has_kind, is_stored, may_be_stored}
use Rattle.pg_model.specs.Statements.{IsInsert, IsTableOf, is_row, is_value_of}
use Rattle.pg_resolve.specs.Causes.{in_order}
use Rattle.pg_analyse.specs.Inserts.{count_errors, insert_phases, inserted_into, is_count, listed_errors, listing_errors, numbers_from, store_errors, target_columns, tuples_of, value_errors}
use Rattle.pg_resolve.specs.Resolved.{expr_errors, kind_errors, kind_in, expr_of_tree}
use Rattle.pg_resolve.specs.Scope.{column_names}
use Rattle.pg_analyse.specs.Tables.{again_errors}
use Rattle.pg_resolve.proofs.FittingExprs.{expr_fits, is_low}
use Rattle.pg_resolve.proofs.Holding.{both, else_nil, left_holds, left_nil, right_holds, right_nil}
use Rattle.pg_resolve.proofs.Placing.{among_found, column_below, get_below}

-- the numbers of all columns
all_below : (n count : ℕ) (columns : List Column) → n + length columns ≡ count →
    list_all (λ number. nat_lt number count) (numbers_from n columns) ≡ true
all_below n count [] is = refl
all_below n count (column ∷ columns) is =
    both (nat_lt n count) (list_all (λ number. nat_lt number count) (numbers_from (suc n) columns))
    (lt-ltb n count (omega arith)) (all_below (suc n) count columns (omega arith))

all_counted : (n : ℕ) (columns : List Column) → length (numbers_from n columns) ≡ length columns
all_counted n [] = refl
all_counted n (column ∷ columns) = ap suc (all_counted (suc n) columns)

below_more : (columns : List Column) (name : List ℕ) (found : Option ℕ) (numbers : List ℕ) →
    number_of (column_names columns) name ≡ found →
    list_all (λ number. nat_lt number (length columns)) numbers ≡ true →
    list_all (λ number. nat_lt number (length columns)) (cons_option found numbers) ≡ true
below_more columns name None numbers is below = below
below_more columns name (Some n) numbers is below =
    both (nat_lt n (length columns)) (list_all (λ number. nat_lt number (length columns)) numbers)
    (column_below columns name n is) below

-- those of the columns that are listed
listed_below : (columns : List Column) (names : List (List ℕ)) →
    list_all (λ number. nat_lt number (length columns)) (filter_map (number_of (column_names columns)) names) ≡ true
listed_below columns [] = refl
listed_below columns (name ∷ names) =
    below_more columns name (number_of (column_names columns) name) (filter_map (number_of (column_names columns)) names)
    refl (listed_below columns names)

pub targets_below : (columns : List Column) (names : List (List ℕ)) →
    list_all (λ number. nat_lt number (length columns)) (target_columns columns names) ≡ true
targets_below columns [] = all_below 0 (length columns) columns (omega arith)
targets_below columns (name ∷ names) = listed_below columns (name ∷ names)

counted_more : (found : Option ℕ) (numbers : List ℕ) → (found ≡ None → ⊥) →
    length (cons_option found numbers) ≡ suc (length numbers)
counted_more None numbers some = absurd (some refl)
counted_more (Some n) numbers some = refl

listed_counted : (columns : List Column) (before names : List (List ℕ)) → listed_errors columns before names ≡ [] →
    length (filter_map (number_of (column_names columns)) names) ≡ length names
listed_counted columns before [] none = refl
listed_counted columns before (name ∷ names) none =
    counted_more (number_of (column_names columns) name) (filter_map (number_of (column_names columns)) names)
    (among_found (column_names columns) name
    (else_nil (is_among (column_names columns) name) (error.NoColumn name)
    (left_nil (if is_among (column_names columns) name then [] else error.NoColumn name ∷ []) (again_errors before name)
    (left_nil (listing_errors columns before name) (listed_errors columns (before ++ name ∷ []) names) none))))
    ∙ ap suc (listed_counted columns (before ++ name ∷ []) names
    (right_nil (listing_errors columns before name) (listed_errors columns (before ++ name ∷ []) names) none))

-- a row has no more expressions than there are columns for it
row_counted : (columns : List Column) (names : List (List ℕ)) (count : ℕ) → listed_errors columns [] names ≡ [] →
    is_count columns names count ≡ true → count ≤ length (target_columns columns names)
row_counted columns [] count none counts =
    let most : count ≤ length columns = leb-true count (length columns) counts in
    let same : length (numbers_from 0 columns) ≡ length columns = all_counted 0 columns in omega arith
row_counted columns (name ∷ names) count none counts =
    let most : count ≡ length (name ∷ names) = eqb-true count (length (name ∷ names)) counts in
    let same : length (filter_map (number_of (column_names columns)) (name ∷ names)) ≡ length (name ∷ names) =
    listed_counted columns [] (name ∷ names) none in
    omega arith

value_stored : (columns : List Column) (number : ℕ) (tree : Tree) (found : Option Column) →
    item_at columns number ≡ found → nat_lt number (length columns) ≡ true → is_low tree ≡ true →
    expr_errors [] tree ≡ [] →
    option_map_or (λ (to : Kind). kind_errors (λ from. may_be_stored from to) (kind_in [] tree))
    (option_map_or (λ (column : Column). Some column.kind) found None) [] ≡ [] →
    option_map_or (λ (kind : Kind). is_stored kind [] (expr_of_tree [] tree))
    (option_map_or (λ (column : Column). Some column.kind) found None) false ≡ true
value_stored columns number tree None is below low none stored =
    absurd (get_below columns number (ltb-true number (length columns) below) is)
value_stored columns number tree (Some column) is below low none stored =
    expr_fits (λ from. may_be_stored from column.kind) [] tree low none
    (else_nil (has_kind (λ from. may_be_stored from column.kind) (kind_in [] tree)) error.WrongKind stored)

row_fits : (columns : List Column) (numbers : List ℕ) (row : List Tree) → length row ≤ length numbers →
    list_all (λ number. nat_lt number (length columns)) numbers ≡ true → list_all is_low row ≡ true →
    flat_map (expr_errors []) row ≡ [] → store_errors columns numbers row ≡ [] →
    is_row columns numbers (map (expr_of_tree []) row) ≡ true
row_fits columns numbers [] count below low none stored = refl
row_fits columns [] (tree ∷ row) count below low none stored = absurd (omega arith)
row_fits columns (number ∷ numbers) (tree ∷ row) count below low none stored =
    both (is_value_of columns number (expr_of_tree [] tree)) (is_row columns numbers (map (expr_of_tree []) row))
    (value_stored columns number tree (item_at columns number) refl
    (left_holds (nat_lt number (length columns)) (list_all (λ n. nat_lt n (length columns)) numbers) below)
    (left_holds (is_low tree) (list_all is_low row) low)
    (left_nil (expr_errors [] tree) (flat_map (expr_errors []) row) none)
    (left_nil (value_errors columns number tree) (store_errors columns numbers row) stored))
    (row_fits columns numbers row (omega arith)
    (right_holds (nat_lt number (length columns)) (list_all (λ n. nat_lt n (length columns)) numbers) below)
    (right_holds (is_low tree) (list_all is_low row) low)
    (right_nil (expr_errors [] tree) (flat_map (expr_errors []) row) none)
    (right_nil (value_errors columns number tree) (store_errors columns numbers row) stored))

rows_fit : (columns : List Column) (names : List (List ℕ)) (rows : List (List Tree)) →
    listed_errors columns [] names ≡ [] → list_all (list_all is_low) rows ≡ true →
    flat_map (count_errors columns names) rows ≡ [] → flat_map (flat_map (expr_errors [])) rows ≡ [] →
    flat_map (store_errors columns (target_columns columns names)) rows ≡ [] →
    list_all (is_row columns (target_columns columns names)) (map (map (expr_of_tree [])) rows) ≡ true
rows_fit columns names [] listed low counts none stored = refl
rows_fit columns names (row ∷ rows) listed low counts none stored =
    both (is_row columns (target_columns columns names) (map (expr_of_tree []) row))
    (list_all (is_row columns (target_columns columns names)) (map (map (expr_of_tree [])) rows))
    (row_fits columns (target_columns columns names) row
    (row_counted columns names (length row) listed
    (else_nil (is_count columns names (length row)) error.WrongCount
    (left_nil (count_errors columns names row) (flat_map (count_errors columns names) rows) counts)))
    (targets_below columns names) (left_holds (list_all is_low row) (list_all (list_all is_low) rows) low)
    (left_nil (flat_map (expr_errors []) row) (flat_map (flat_map (expr_errors [])) rows) none)
    (left_nil (store_errors columns (target_columns columns names) row)
    (flat_map (store_errors columns (target_columns columns names)) rows) stored))
    (rows_fit columns names rows listed (right_holds (list_all is_low row) (list_all (list_all is_low) rows) low)
    (right_nil (count_errors columns names row) (flat_map (count_errors columns names) rows) counts)
    (right_nil (flat_map (expr_errors []) row) (flat_map (flat_map (expr_errors [])) rows) none)
    (right_nil (store_errors columns (target_columns columns names) row)
    (flat_map (store_errors columns (target_columns columns names)) rows) stored))

first_none : (a b c d : List SqlError) → a ++ (b ++ (c ++ (d ++ []))) ≡ [] → a ≡ []
first_none a b c d e = left_nil a (b ++ (c ++ (d ++ []))) e

second_none : (a b c d : List SqlError) → a ++ (b ++ (c ++ (d ++ []))) ≡ [] → b ≡ []
second_none a b c d e = left_nil b (c ++ (d ++ [])) (right_nil a (b ++ (c ++ (d ++ []))) e)

third_none : (a b c d : List SqlError) → a ++ (b ++ (c ++ (d ++ []))) ≡ [] → c ≡ []
third_none a b c d e =
    left_nil c (d ++ []) (right_nil b (c ++ (d ++ [])) (right_nil a (b ++ (c ++ (d ++ []))) e))

fourth_none : (a b c d : List SqlError) → a ++ (b ++ (c ++ (d ++ []))) ≡ [] → d ≡ []
fourth_none a b c d e =
    left_nil d [] (right_nil c (d ++ []) (right_nil b (c ++ (d ++ [])) (right_nil a (b ++ (c ++ (d ++ []))) e)))

-- the rows and the columns of an INSERT without errors
tuples_fit : (columns : List Column) (names : List (List ℕ)) (rows : List (List Tree)) →
    listed_errors columns [] names
    ++ (flat_map (count_errors columns names) rows
    ++ (flat_map (flat_map (expr_errors [])) rows
    ++ (flat_map (store_errors columns (target_columns columns names)) rows ++ []))) ≡ [] →
    list_all (list_all is_low) rows ≡ true →
    list_all (is_row columns (target_columns columns names)) (map (map (expr_of_tree [])) rows) ≡ true
tuples_fit columns names rows none low =
    rows_fit columns names rows
    (first_none (listed_errors columns [] names) (flat_map (count_errors columns names) rows)
    (flat_map (flat_map (expr_errors [])) rows) (flat_map (store_errors columns (target_columns columns names)) rows) none)
    low
    (second_none (listed_errors columns [] names) (flat_map (count_errors columns names) rows)
    (flat_map (flat_map (expr_errors [])) rows) (flat_map (store_errors columns (target_columns columns names)) rows) none)
    (third_none (listed_errors columns [] names) (flat_map (count_errors columns names) rows)
    (flat_map (flat_map (expr_errors [])) rows) (flat_map (store_errors columns (target_columns columns names)) rows) none)
    (fourth_none (listed_errors columns [] names) (flat_map (count_errors columns names) rows)
    (flat_map (flat_map (expr_errors [])) rows) (flat_map (store_errors columns (target_columns columns names)) rows) none)

pub insert_fits : (catalogue : List TableShape) (insert : InsertTree) (named : NamedTable) →
    IsTableOf catalogue named → list_all (list_all is_low) (tuples_of insert.rows) ≡ true →
    in_order (insert_phases insert named.shape.columns) ≡ [] → IsInsert catalogue (inserted_into insert named)
insert_fits catalogue insert named is low none =
    record {
      target = is;
      columns = targets_below named.shape.columns insert.columns;
      rows = tuples_fit named.shape.columns insert.columns (tuples_of insert.rows) none low;
    }
