-- What the grammar lets through is what analysis starts from.
use Rattle.std.proofs.Common.{◌≡◌, refl, sym, ◌≤◌, arith, ℕ, suc, Bool, true, false, true≢false, not, ◌&&◌, ◌||◌, ◌==◌, nat_le, List, [], ◌∷◌, length, Option, Some, None, le-leb, leb-true}
use Rattle.std.specs.Char.{is_ascii_digit, is_ascii_lowercase}
use Rattle.std.specs.List.{list_all}
use Rattle.pg_lexer.specs.Bytes.{is_name}
use Rattle.pg_lexer.specs.Keywords.{keyword_of}
use Rattle.pg_parse_expr.specs.Laws.{is_free, is_free_name, is_written as is_spelled}
use Rattle.pg_parse_expr.specs.Tree.{Tree, height}
use Rattle.pg_parse_stmt.specs.Laws.{are_proposed_rows, are_sets, are_sources, is_assignment, is_conflict, is_column_rule, is_create_table, is_delete, is_expr, is_insert, is_item, is_limit, is_locking, is_order_key, is_part, is_select, is_statement, is_table, is_update, none_or, some_and_all, sources_or_none}
use Rattle.pg_parse_stmt.specs.declared.tree.Assignment.{Assignment}
use Rattle.pg_parse_stmt.specs.declared.tree.CreateTable.{CreateTable}
use Rattle.pg_parse_stmt.specs.declared.tree.Delete.{Delete}
use Rattle.pg_parse_stmt.specs.declared.tree.Insert.{Insert}
use Rattle.pg_parse_stmt.specs.declared.tree.Item.{Item}
use Rattle.pg_parse_stmt.specs.declared.tree.Item.TheVariants as item
use Rattle.pg_parse_stmt.specs.declared.tree.Rows.{Rows}
use Rattle.pg_parse_stmt.specs.declared.tree.Rows.TheVariants as rows
use Rattle.pg_parse_stmt.specs.declared.tree.Select.{Select}
use Rattle.pg_parse_stmt.specs.declared.tree.StmtTree.{StmtTree}
use Rattle.pg_parse_stmt.specs.declared.tree.StmtTree.TheVariants as stmt
use Rattle.pg_parse_stmt.specs.declared.tree.TablePart.{TablePart}
use Rattle.pg_parse_stmt.specs.declared.tree.TablePart.TheVariants as part
use Rattle.pg_parse_stmt.specs.declared.tree.Update.{Update}
use Rattle.pg_model.specs.Limits.{is_written}
use Rattle.pg_analyse.specs.Built.{is_built_part, is_empty}
use Rattle.pg_analyse.specs.Inserts.{tuples_of}
use Rattle.pg_resolve.specs.Scope.{column_names}
use Rattle.pg_analyse.specs.Tables.{declared_columns}
use Rattle.pg_resolve.proofs.FittingExprs.{is_low}
use Rattle.pg_resolve.proofs.Holding.{both, left_holds, right_holds, second_holds, third_holds, three}
use Rattle.pg_resolve.proofs.Written.{written_is_name}

-- a CREATE TABLE whose names are written, and which has a column
abbrev pub is_declaring : StmtTree → Bool
is_declaring (stmt.CreateTable table) =
    is_written table.name && not (is_empty (declared_columns table.parts))
    && list_all is_written (column_names (declared_columns table.parts))
is_declaring _ = false

abbrev pub is_low_item : Item → Bool
is_low_item item.All = true
is_low_item (item.AllOf name) = true
is_low_item (item.Expr tree name) = is_low tree

abbrev pub is_low_condition : Option Tree → Bool
is_low_condition None = true
is_low_condition (Some tree) = is_low tree

abbrev pub is_low_set : Assignment → Bool
is_low_set set = is_low set.value

-- the expressions of the statement keep the limit
abbrev pub is_low_statement : StmtTree → Bool
is_low_statement (stmt.Select select) = list_all is_low_item select.items && is_low_condition select.condition
is_low_statement (stmt.Insert insert) = list_all (list_all is_low) (tuples_of insert.rows)
is_low_statement (stmt.Update update) = list_all is_low_set update.sets && is_low_condition update.condition
is_low_statement (stmt.Delete delete) = is_low_condition delete.condition
is_low_statement _ = true

-- a name of the language is written
written : (name : List ℕ) → is_name name ≡ true → is_written name ≡ true
unfolding is_name
written [] is = absurd (true≢false (sym is))
written (b ∷ bs) is =
    let short : length bs ≤ 62 =
    leb-true (length bs) 62
    (third_holds (is_ascii_lowercase b || b == 95)
    (list_all (λ c. is_ascii_lowercase c || is_ascii_digit c || c == 95) bs) (nat_le (length bs) 62) is) in
    three _ _ _ (written_is_name (b ∷ bs) is) (le-leb 1 (suc (length bs)) (omega arith))
    (le-leb (suc (length bs)) 63 (omega (arith, short)))

free_written : (name : List ℕ) → is_free_name name ≡ true → is_written name ≡ true
free_written name free = written name (left_holds (is_name name) (is_free (keyword_of name)) free)

-- items that are some are all
of_some : {V : Type 0} (test : V → Bool) (vs : List V) → some_and_all test vs ≡ true → list_all test vs ≡ true
of_some test [] some = refl
of_some test (v ∷ vs) some = some

weaker : {V : Type 0} (strong weak : V → Bool) → ((v : V) → strong v ≡ true → weak v ≡ true) → (vs : List V) →
    list_all strong vs ≡ true → list_all weak vs ≡ true
weaker strong weak from [] all = refl
weaker strong weak from (v ∷ vs) all =
    both (weak v) (list_all weak vs) (from v (left_holds (strong v) (list_all strong vs) all))
    (weaker strong weak from vs (right_holds (strong v) (list_all strong vs) all))

columns_written : (parts : List TablePart) → list_all is_part parts ≡ true →
    list_all is_written (column_names (declared_columns parts)) ≡ true
columns_written [] all = refl
columns_written (part.Constraint name constraint ∷ parts) all =
    columns_written parts (right_holds (is_part (part.Constraint name constraint)) (list_all is_part parts) all)
columns_written (part.Column given ∷ parts) all =
    both (is_written given.name) (list_all is_written (column_names (declared_columns parts)))
    (free_written given.name
    (left_holds (is_free_name given.name) (list_all is_column_rule given.rules)
    (left_holds (is_part (part.Column given)) (list_all is_part parts) all)))
    (columns_written parts (right_holds (is_part (part.Column given)) (list_all is_part parts) all))

some_columns : (parts : List TablePart) → some_and_all is_part parts ≡ true → list_all is_built_part parts ≡ true →
    not (is_empty (declared_columns parts)) ≡ true
some_columns [] some built = absurd (true≢false (sym some))
some_columns (part.Column given ∷ parts) some built = refl
some_columns (part.Constraint name constraint ∷ parts) some built = absurd (true≢false (sym built))

-- a CREATE TABLE of the language that is built declares columns with written names
pub declaring : (table : CreateTable) → is_create_table table ≡ true → list_all is_built_part table.parts ≡ true →
    is_declaring (stmt.CreateTable table) ≡ true
declaring table within built =
    let some = right_holds (is_free_name table.name) (some_and_all is_part table.parts) within in
    three (is_written table.name) (not (is_empty (declared_columns table.parts)))
    (list_all is_written (column_names (declared_columns table.parts)))
    (free_written table.name (left_holds (is_free_name table.name) (some_and_all is_part table.parts) within))
    (some_columns table.parts some built) (columns_written table.parts (of_some is_part table.parts some))

low : (tree : Tree) → is_expr tree ≡ true → is_low tree ≡ true
low tree within = right_holds (is_spelled tree) (nat_le (height tree) 64) within

low_item : (one : Item) → is_item one ≡ true → is_low_item one ≡ true
low_item item.All within = refl
low_item (item.AllOf name) within = refl
low_item (item.Expr tree name) within = low tree (left_holds (is_expr tree) (none_or is_free_name name) within)

low_condition : (condition : Option Tree) → none_or is_expr condition ≡ true → is_low_condition condition ≡ true
low_condition None within = refl
low_condition (Some tree) within = low tree within

low_rows : (given : Rows) → are_proposed_rows given ≡ true → list_all (list_all is_low) (tuples_of given) ≡ true
low_rows (rows.Query query) within = refl
low_rows (rows.Values tuples) within =
    weaker (some_and_all is_expr) (list_all is_low)
    (λ tuple some. weaker is_expr is_low low tuple (of_some is_expr tuple some)) tuples
    (of_some (some_and_all is_expr) tuples within)

-- the tests of `a && b && c && d && e && f`
four_hold : (a b c d e f : Bool) → (a && b && c && d && e && f) ≡ true → (a && b && c && d) ≡ true
four_hold a b c d e f all = left_holds (a && b && c && d) e (left_holds (a && b && c && d && e) f all)

low_select : (select : Select) → is_select select ≡ true → is_low_statement (stmt.Select select) ≡ true
low_select select within =
    let four =
    four_hold (some_and_all is_item select.items) (are_sources select.from) (none_or is_expr select.condition)
    (list_all is_order_key select.order) (none_or is_limit select.limit) (none_or is_locking select.locking) within in
    let three_hold =
    left_holds (some_and_all is_item select.items && are_sources select.from && none_or is_expr select.condition)
    (list_all is_order_key select.order) four in
    let condition =
    third_holds (some_and_all is_item select.items) (are_sources select.from) (none_or is_expr select.condition) three_hold in
    let items =
    left_holds (some_and_all is_item select.items) (are_sources select.from)
    (left_holds (some_and_all is_item select.items && are_sources select.from) (none_or is_expr select.condition) three_hold) in
    both (list_all is_low_item select.items) (is_low_condition select.condition)
    (weaker is_item is_low_item low_item select.items (of_some is_item select.items items))
    (low_condition select.condition condition)

low_insert : (insert : Insert) → is_insert insert ≡ true → is_low_statement (stmt.Insert insert) ≡ true
low_insert insert within =
    let four =
    four_hold (is_free_name insert.table) (none_or is_free_name insert.alias) (list_all is_free_name insert.columns)
    (are_proposed_rows insert.rows) (none_or is_conflict insert.conflict) (list_all is_item insert.returning) within in
    low_rows insert.rows
    (right_holds
    (is_free_name insert.table && none_or is_free_name insert.alias && list_all is_free_name insert.columns)
    (are_proposed_rows insert.rows) four)

low_set : (set : Assignment) → is_assignment set ≡ true → is_low_set set ≡ true
low_set set within = low set.value (right_holds (is_free_name set.column) (is_expr set.value) within)

low_update : (update : Update) → is_update update ≡ true → is_low_statement (stmt.Update update) ≡ true
low_update update within =
    let four =
    left_holds
    (is_table update.target && are_sets update.sets && sources_or_none update.from && none_or is_expr update.condition)
    (list_all is_item update.returning) within in
    let sets =
    second_holds (is_table update.target) (are_sets update.sets) (sources_or_none update.from)
    (left_holds (is_table update.target && are_sets update.sets && sources_or_none update.from)
    (none_or is_expr update.condition) four) in
    let condition =
    right_holds (is_table update.target && are_sets update.sets && sources_or_none update.from)
    (none_or is_expr update.condition) four in
    both (list_all is_low_set update.sets) (is_low_condition update.condition)
    (weaker is_assignment is_low_set low_set update.sets (of_some is_assignment update.sets sets))
    (low_condition update.condition condition)

low_delete : (delete : Delete) → is_delete delete ≡ true → is_low_statement (stmt.Delete delete) ≡ true
low_delete delete within =
    low_condition delete.condition
    (third_holds (is_table delete.target) (sources_or_none delete.using) (none_or is_expr delete.condition)
    (left_holds (is_table delete.target && sources_or_none delete.using && none_or is_expr delete.condition)
    (list_all is_item delete.returning) within))

-- the expressions of a statement of the language keep the limit
pub low_statement : (tree : StmtTree) → is_statement tree ≡ true → is_low_statement tree ≡ true
low_statement stmt.Begin within = refl
low_statement stmt.Commit within = refl
low_statement stmt.Rollback within = refl
low_statement (stmt.Select select) within = low_select select within
low_statement (stmt.Insert insert) within = low_insert insert within
low_statement (stmt.Update update) within = low_update update within
low_statement (stmt.Delete delete) within = low_delete delete within
low_statement (stmt.Merge merge) within = refl
low_statement (stmt.CreateTable table) within = refl
low_statement (stmt.CreateIndex index) within = refl
