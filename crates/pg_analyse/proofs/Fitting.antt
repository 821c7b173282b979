-- A table that is declared fits behind those of its catalogue.
use Rattle.std.proofs.Common.{◌≡◌, refl, sym, ◌∙◌, subst, arith, ◌<◌, ℕ, suc, Bool, true, false, true≢false, not, ◌&&◌, if◌then◌else◌, nat_le, nat_lt, List, [], ◌∷◌, ◌++◌, append_assoc, append-nil, length, Ok, Err, ltb-true, le-leb}
use Rattle.std.proofs.lemmas.List.{map-append, length-append}
use Rattle.std.proofs.lemmas.List.Folds.{list_all-append}
use Rattle.std.specs.List.{list_all}
use Rattle.pg_names.specs.Names.{are_distinct, is_among}
use Rattle.pg_names.proofs.Distinct.{distinct_snoc}
use Rattle.pg_parse_stmt.specs.declared.tree.CreateTable.{CreateTable}
use Rattle.pg_parse_stmt.specs.declared.tree.StmtTree.TheVariants as stmt
use Rattle.pg_parse_stmt.specs.declared.tree.TablePart.{TablePart}
use Rattle.pg_parse_stmt.specs.declared.tree.TablePart.TheVariants as part
use Rattle.pg_model.specs.declared.catalogue.TableShape.{TableShape}
use Rattle.pg_model.specs.declared.error.Counted.TheVariants as counted
use Rattle.pg_model.specs.declared.error.SqlError.{SqlError}
use Rattle.pg_model.specs.declared.error.SqlError.TheVariants as error
use Rattle.pg_model.specs.Limits.{is_written, most_columns, most_tables}
use Rattle.pg_model.specs.Statements.{is_catalogue, is_column, is_shape}
use Rattle.pg_resolve.specs.declared.fault.AnalyseFault.TheVariants as fault
use Rattle.pg_analyse.specs.Built.{is_built_part, is_empty}
use Rattle.pg_resolve.specs.Causes.{by_phases, in_order}
use Rattle.pg_analyse.specs.Laws.{DeclarationsFit}
use Rattle.pg_parse_stmt.specs.Laws.{is_create_table}
use Rattle.pg_analyse.proofs.Premises.{declaring, is_declaring}
use Rattle.pg_analyse.specs.Queries.{table_names}
use Rattle.pg_resolve.specs.Scope.{column_names}
use Rattle.pg_analyse.specs.Tables.{again_errors, column_limit_errors, declared_columns, declared_table, table_limit_errors, table_phases, taken_errors, twice_errors}
use Rattle.pg_resolve.proofs.Holding.{both, else_nil, err_ok, first_holds, left_holds, left_nil, no_error, right_holds, right_nil, second_holds, six, the_value, then_nil, third_holds, three}

-- names that are each new all differ
twice_distinct : (before names : List (List ℕ)) → are_distinct before ≡ true → twice_errors before names ≡ [] →
    are_distinct (before ++ names) ≡ true
twice_distinct before [] distinct none = subst (λ all. are_distinct all ≡ true) (sym (append-nil before)) distinct
twice_distinct before (name ∷ names) distinct none =
    subst (λ all. are_distinct all ≡ true) (append_assoc before (name ∷ []) names)
    (twice_distinct (before ++ name ∷ []) names
    (distinct_snoc before name distinct
    (then_nil (is_among before name) (error.ColumnTwice name)
    (left_nil (again_errors before name) (twice_errors (before ++ name ∷ []) names) none)))
    (right_nil (again_errors before name) (twice_errors (before ++ name ∷ []) names) none))

-- columns with written names fit
columns_fit : (parts : List TablePart) → list_all is_written (column_names (declared_columns parts)) ≡ true →
    list_all is_column (declared_columns parts) ≡ true
columns_fit [] e = refl
columns_fit (part.Constraint name constraint ∷ parts) e = columns_fit parts e
columns_fit (part.Column written ∷ parts) e =
    both (is_written written.name && true) (list_all is_column (declared_columns parts))
    (both (is_written written.name) true (left_holds (is_written written.name) (list_all is_written (column_names (declared_columns parts))) e) refl)
    (columns_fit parts (right_holds (is_written written.name) (list_all is_written (column_names (declared_columns parts))) e))

some_column : {X : Type 0} (xs : List X) → not (is_empty xs) ≡ true → nat_le 1 (length xs) ≡ true
some_column [] e = absurd (true≢false (sym e))
some_column (x ∷ xs) e = le-leb 1 (suc (length xs)) (omega arith)

room_more : (catalogue : List TableShape) (shape : TableShape) → nat_lt (length catalogue) most_tables ≡ true →
    nat_le (length (catalogue ++ shape ∷ [])) most_tables ≡ true
room_more catalogue shape room =
    let below : length catalogue < most_tables = ltb-true (length catalogue) most_tables room in
    le-leb (length (catalogue ++ shape ∷ [])) most_tables (omega (arith, length-append catalogue (shape ∷ [])))

pub first_none : (a b c d : List SqlError) → a ++ ((b ++ c) ++ (d ++ [])) ≡ [] → a ≡ []
first_none a b c d e = left_nil a ((b ++ c) ++ (d ++ [])) e

pub second_none : (a b c d : List SqlError) → a ++ ((b ++ c) ++ (d ++ [])) ≡ [] → b ≡ []
second_none a b c d e = left_nil b c (left_nil (b ++ c) (d ++ []) (right_nil a ((b ++ c) ++ (d ++ [])) e))

pub third_none : (a b c d : List SqlError) → a ++ ((b ++ c) ++ (d ++ [])) ≡ [] → c ≡ []
third_none a b c d e = right_nil b c (left_nil (b ++ c) (d ++ []) (right_nil a ((b ++ c) ++ (d ++ [])) e))

pub fourth_none : (a b c d : List SqlError) → a ++ ((b ++ c) ++ (d ++ [])) ≡ [] → d ≡ []
fourth_none a b c d e = left_nil d [] (right_nil (b ++ c) (d ++ []) (right_nil a ((b ++ c) ++ (d ++ [])) e))

-- the shape of a table with written names and no error
shape_fits : (table : CreateTable) → is_declaring (stmt.CreateTable table) ≡ true →
    column_limit_errors (declared_columns table.parts) ≡ [] →
    twice_errors [] (column_names (declared_columns table.parts)) ≡ [] → is_shape (declared_table table) ≡ true
shape_fits table declaring few differ =
    six (is_written table.name) (nat_le 1 (length (declared_columns table.parts)))
    (nat_le (length (declared_columns table.parts)) most_columns)
    (are_distinct (column_names (declared_columns table.parts))) (list_all is_column (declared_columns table.parts)) true
    (first_holds (is_written table.name) (not (is_empty (declared_columns table.parts)))
    (list_all is_written (column_names (declared_columns table.parts))) declaring)
    (some_column (declared_columns table.parts)
    (second_holds (is_written table.name) (not (is_empty (declared_columns table.parts)))
    (list_all is_written (column_names (declared_columns table.parts))) declaring))
    (else_nil (nat_le (length (declared_columns table.parts)) most_columns) (error.TooMany counted.Columns) few)
    (twice_distinct [] (column_names (declared_columns table.parts)) refl differ)
    (columns_fit table.parts
    (third_holds (is_written table.name) (not (is_empty (declared_columns table.parts)))
    (list_all is_written (column_names (declared_columns table.parts))) declaring)) refl

fits_table : (catalogue : List TableShape) (table : CreateTable) → in_order (table_phases catalogue table) ≡ [] →
    is_catalogue catalogue ≡ true → is_declaring (stmt.CreateTable table) ≡ true →
    is_catalogue (catalogue ++ declared_table table ∷ []) ≡ true
fits_table catalogue table none catalogued declaring =
    three (nat_le (length (catalogue ++ declared_table table ∷ [])) most_tables)
    (are_distinct (table_names (catalogue ++ declared_table table ∷ [])))
    (list_all is_shape (catalogue ++ declared_table table ∷ []))
    (room_more catalogue (declared_table table)
    (else_nil (nat_lt (length catalogue) most_tables) (error.TooMany counted.Tables)
    (second_none (taken_errors catalogue table.name) (table_limit_errors catalogue)
    (column_limit_errors (declared_columns table.parts))
    (twice_errors [] (column_names (declared_columns table.parts))) none)))
    (subst (λ (names : List (List ℕ)). are_distinct names ≡ true)
    (sym (map-append (λ (shape : TableShape). shape.name) catalogue (declared_table table ∷ [])))
    (distinct_snoc (table_names catalogue) table.name
    (second_holds (nat_le (length catalogue) most_tables) (are_distinct (table_names catalogue))
    (list_all is_shape catalogue) catalogued)
    (then_nil (is_among (table_names catalogue) table.name) (error.RelationExists table.name)
    (first_none (taken_errors catalogue table.name) (table_limit_errors catalogue)
    (column_limit_errors (declared_columns table.parts))
    (twice_errors [] (column_names (declared_columns table.parts))) none))))
    (list_all-append is_shape catalogue (declared_table table ∷ [])
    ∙ both (list_all is_shape catalogue) (is_shape (declared_table table) && true)
    (third_holds (nat_le (length catalogue) most_tables) (are_distinct (table_names catalogue))
    (list_all is_shape catalogue) catalogued)
    (both (is_shape (declared_table table)) true
    (shape_fits table declaring
    (third_none (taken_errors catalogue table.name) (table_limit_errors catalogue)
    (column_limit_errors (declared_columns table.parts))
    (twice_errors [] (column_names (declared_columns table.parts))) none)
    (fourth_none (taken_errors catalogue table.name) (table_limit_errors catalogue)
    (column_limit_errors (declared_columns table.parts))
    (twice_errors [] (column_names (declared_columns table.parts))) none)) refl))

fits_built : (catalogue : List TableShape) (table : CreateTable) (shape : TableShape) (built : Bool) →
    list_all is_built_part table.parts ≡ built →
    (if built then by_phases (table_phases catalogue table) (declared_table table) else Err fault.Later) ≡ Ok shape →
    is_catalogue catalogue ≡ true → is_create_table table ≡ true → is_catalogue (catalogue ++ shape ∷ []) ≡ true
fits_built catalogue table shape false unbuilt is catalogued within = absurd (err_ok is)
fits_built catalogue table shape true built is catalogued within =
    subst (λ (s : TableShape). is_catalogue (catalogue ++ s ∷ []) ≡ true)
    (the_value (in_order (table_phases catalogue table)) (declared_table table) shape is)
    (fits_table catalogue table (no_error (in_order (table_phases catalogue table)) (declared_table table) shape is)
    catalogued (declaring table within built))

pub declarations_fit : DeclarationsFit
declarations_fit catalogue (stmt.CreateTable table) shape is catalogued within =
    fits_built catalogue table shape (list_all is_built_part table.parts) refl is catalogued within
declarations_fit catalogue (stmt.CreateIndex index) shape is catalogued within = absurd (err_ok is)
declarations_fit catalogue stmt.Begin shape is catalogued within = absurd (err_ok is)
declarations_fit catalogue stmt.Commit shape is catalogued within = absurd (err_ok is)
declarations_fit catalogue stmt.Rollback shape is catalogued within = absurd (err_ok is)
declarations_fit catalogue (stmt.Select select) shape is catalogued within = absurd (err_ok is)
declarations_fit catalogue (stmt.Insert insert) shape is catalogued within = absurd (err_ok is)
declarations_fit catalogue (stmt.Update update) shape is catalogued within = absurd (err_ok is)
declarations_fit catalogue (stmt.Delete delete) shape is catalogued within = absurd (err_ok is)
declarations_fit catalogue (stmt.Merge merge) shape is catalogued within = absurd (err_ok is)
