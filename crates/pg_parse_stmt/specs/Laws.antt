-- What is proved of the grammar alone.
use Rattle.std.specs.Prelude.{◌≡◌, ℕ, negsuc, ◌+◌, suc, Bool, true, false, ◌&&◌, ◌||◌, nat_le, List, [], ◌∷◌, Option, Some, None, is_none}
use Rattle.std.specs.List.{list_all}
use Rattle.pg_grammar.specs.Limits.{Limit}
use Rattle.pg_lexer.specs.Keywords.{may_be_name, spelling}
use Rattle.pg_lexer.specs.declared.keyword.Keyword.{Keyword}
use Rattle.pg_lexer.specs.declared.keyword.Keyword.TheVariants as k
use Rattle.pg_lexer.specs.declared.token.Token.{Token}
use Rattle.pg_lexer.specs.declared.token.Token.TheVariants as token
use Rattle.pg_values.specs.declared.value.Value.{Value}
use Rattle.pg_values.specs.declared.value.Value.TheVariants as value
use Rattle.pg_parse_expr.specs.Laws.{is_literal, is_free_name, is_written, is_token}
use Rattle.pg_parse_expr.specs.Tree.{Tree, height}
use Rattle.pg_parse_stmt.specs.Grammar.{name, alias, sources_in, one_source, sources_of, sentence}
use Rattle.pg_parse_stmt.specs.declared.tree.Item.{Item}
use Rattle.pg_parse_stmt.specs.declared.tree.Item.TheVariants as item_of
use Rattle.pg_parse_stmt.specs.declared.tree.TableRef.{TableRef}
use Rattle.pg_parse_stmt.specs.declared.tree.Source.{Source}
use Rattle.pg_parse_stmt.specs.declared.tree.Source.TheVariants as source_of
use Rattle.pg_parse_stmt.specs.declared.tree.Joined.{Joined}
use Rattle.pg_parse_stmt.specs.declared.tree.Subselect.{Subselect}
use Rattle.pg_parse_stmt.specs.declared.tree.OrderKey.{OrderKey}
use Rattle.pg_parse_stmt.specs.declared.tree.Locking.{Locking}
use Rattle.pg_parse_stmt.specs.declared.tree.Select.{Select}
use Rattle.pg_parse_stmt.specs.declared.tree.Rows.{Rows}
use Rattle.pg_parse_stmt.specs.declared.tree.Rows.TheVariants as rows_of
use Rattle.pg_parse_stmt.specs.declared.tree.Element.{Element}
use Rattle.pg_parse_stmt.specs.declared.tree.Element.TheVariants as element_of
use Rattle.pg_parse_stmt.specs.declared.tree.ConflictTarget.{ConflictTarget}
use Rattle.pg_parse_stmt.specs.declared.tree.ConflictTarget.TheVariants as target_of
use Rattle.pg_parse_stmt.specs.declared.tree.Assignment.{Assignment}
use Rattle.pg_parse_stmt.specs.declared.tree.Conflict.{Conflict}
use Rattle.pg_parse_stmt.specs.declared.tree.Conflict.TheVariants as conflict_of
use Rattle.pg_parse_stmt.specs.declared.tree.Insert.{Insert}
use Rattle.pg_parse_stmt.specs.declared.tree.Update.{Update}
use Rattle.pg_parse_stmt.specs.declared.tree.Delete.{Delete}
use Rattle.pg_parse_stmt.specs.declared.tree.Change.{Change}
use Rattle.pg_parse_stmt.specs.declared.tree.Change.TheVariants as change_tree
use Rattle.pg_parse_stmt.specs.declared.tree.Addition.{Addition}
use Rattle.pg_parse_stmt.specs.declared.tree.Addition.TheVariants as addition_of
use Rattle.pg_parse_stmt.specs.declared.tree.When.{When}
use Rattle.pg_parse_stmt.specs.declared.tree.When.TheVariants as when_of
use Rattle.pg_parse_stmt.specs.declared.tree.Merge.{Merge}
use Rattle.pg_parse_stmt.specs.declared.tree.ColumnConstraint.{ColumnConstraint}
use Rattle.pg_parse_stmt.specs.declared.tree.ColumnConstraint.TheVariants as column_constraint
use Rattle.pg_parse_stmt.specs.declared.tree.ColumnRule.{ColumnRule}
use Rattle.pg_parse_stmt.specs.declared.tree.ColumnRule.TheVariants as column_rule
use Rattle.pg_parse_stmt.specs.declared.tree.TableConstraint.{TableConstraint}
use Rattle.pg_parse_stmt.specs.declared.tree.TableConstraint.TheVariants as table_constraint
use Rattle.pg_parse_stmt.specs.declared.tree.TablePart.{TablePart}
use Rattle.pg_parse_stmt.specs.declared.tree.TablePart.TheVariants as part_of
use Rattle.pg_parse_stmt.specs.declared.tree.CreateTable.{CreateTable}
use Rattle.pg_parse_stmt.specs.declared.tree.CreateIndex.{CreateIndex}
use Rattle.pg_parse_stmt.specs.declared.tree.StmtTree.{StmtTree}
use Rattle.pg_parse_stmt.specs.declared.tree.StmtTree.TheVariants as stmt

-- a list of tokens is at most one statement, also where the last tokens need not keep a limit
abbrev pub AtMostOneStatement : Type 0
AtMostOneStatement =
    (version : ℕ) (m n : Limit → ℕ) (tokens : List Token) (a b : StmtTree) →
    sentence version m tokens a [] → sentence version n tokens b [] → a ≡ b

-- a reserved word is no name, wherever the grammar wants one, but for the words that may be names
abbrev pub ReservedWordsAreNoNames : Type 0
ReservedWordsAreNoNames =
    (word : Keyword) (m : Limit → ℕ) (tokens behind : List Token) (v : List ℕ) → may_be_name word ≡ false →
    name m (token.Keyword word ∷ tokens) v behind → ⊥

-- those are names wherever the grammar wants one
abbrev pub WordsThatMayBeNames : Type 0
WordsThatMayBeNames =
    (word : Keyword) (m : Limit → ℕ) (tokens : List Token) → may_be_name word ≡ true →
    name m (token.Keyword word ∷ tokens) (spelling word) tokens

-- but no reserved word is an alias without AS: AS alone of them begins one
abbrev pub NoWordIsAnAliasWithoutAs : Type 0
NoWordIsAnAliasWithoutAs =
    (word : Keyword) (m : Limit → ℕ) (tokens behind : List Token) (v : List ℕ) →
    alias m (token.Keyword word ∷ tokens) v behind → word ≡ k.As

-- what is left out, or passes the test
abbrev pub none_or : {V : Type 0} → (V → Bool) → Option V → Bool
none_or test None = true
none_or test (Some v) = test v

-- one or more, and each passes the test
abbrev pub some_and_all : {V : Type 0} → (V → Bool) → List V → Bool
some_and_all test [] = false
some_and_all test (v ∷ vs) = list_all test (v ∷ vs)

-- an expression that a line may have: of at most 64 nodes on a path, with literals and names that can be written
abbrev pub is_expr : Tree → Bool
is_expr e = is_written e && nat_le (height e) 64

abbrev pub are_names : List (List ℕ) → Bool
are_names = some_and_all is_free_name

abbrev pub is_item : Item → Bool
is_item item_of.All = true
is_item (item_of.AllOf n) = is_free_name n
is_item (item_of.Expr e n) = is_expr e && none_or is_free_name n

abbrev pub is_table : TableRef → Bool
is_table t = is_free_name t.name && none_or is_free_name t.alias

-- the first source has no condition of its own, and there are at most 8, those before them counted
abbrev pub are_joined : {S : Type 0} → (S → Bool) → (S → ℕ) → ℕ → List (Joined S) → Bool
are_joined is_source count n [] = false
are_joined is_source count n (j ∷ js) =
    is_none j.on && list_all (λ x. is_source x.source && none_or is_expr x.on) (j ∷ js)
    && nat_le (n + sources_in count (j ∷ js)) 8

-- a subselect with n sources before it
abbrev pub is_subselect : ℕ → Subselect → Bool
is_subselect n q =
    some_and_all is_item q.items && are_joined is_table one_source n q.from && none_or is_expr q.condition

abbrev pub are_rows : List (List Tree) → Bool
are_rows = some_and_all (some_and_all is_expr)

-- a source by itself; the list in which it stands counts those inside it too
abbrev pub is_source : Source → Bool
is_source (source_of.Table t) = is_table t
is_source (source_of.Values v) = are_rows v.rows && is_free_name v.alias && are_names v.columns
is_source (source_of.Query q) = is_subselect 1 q.query && is_free_name q.alias

abbrev pub are_sources : List (Joined Source) → Bool
are_sources = are_joined is_source sources_of 0

-- sources, or none where the list is left out
abbrev pub sources_or_none : List (Joined Source) → Bool
sources_or_none [] = true
sources_or_none (j ∷ js) = are_sources (j ∷ js)

abbrev pub is_order_key : OrderKey → Bool
is_order_key o = is_expr o.expr

-- the greatest integer literal
abbrev pub is_limit : ℕ → Bool
is_limit n = nat_le n 9223372036854775807

abbrev pub is_locking : Locking → Bool
is_locking l = none_or is_free_name l.table

abbrev pub is_select : Select → Bool
is_select q =
    some_and_all is_item q.items && are_sources q.from && none_or is_expr q.condition && list_all is_order_key q.order
    && none_or is_limit q.limit && none_or is_locking q.locking

abbrev pub are_proposed_rows : Rows → Bool
are_proposed_rows (rows_of.Values r) = are_rows r
are_proposed_rows (rows_of.Query q) = is_subselect 0 q

abbrev pub is_element : Element → Bool
is_element (element_of.Column n) = is_free_name n
is_element (element_of.Expr e) = is_expr e

abbrev pub is_target : ConflictTarget → Bool
is_target (target_of.Elements e c) = some_and_all is_element e && none_or is_expr c
is_target (target_of.Constraint n) = is_free_name n

abbrev pub is_assignment : Assignment → Bool
is_assignment a = is_free_name a.column && is_expr a.value

abbrev pub are_sets : List Assignment → Bool
are_sets = some_and_all is_assignment

abbrev pub is_conflict : Conflict → Bool
is_conflict (conflict_of.Nothing t) = none_or is_target t
is_conflict (conflict_of.Update u) = is_target u.target && are_sets u.sets && none_or is_expr u.condition

abbrev pub is_insert : Insert → Bool
is_insert q =
    is_free_name q.table && none_or is_free_name q.alias && list_all is_free_name q.columns && are_proposed_rows q.rows
    && none_or is_conflict q.conflict && list_all is_item q.returning

abbrev pub is_update : Update → Bool
is_update q =
    is_table q.target && are_sets q.sets && sources_or_none q.from && none_or is_expr q.condition && list_all is_item q.returning

abbrev pub is_delete : Delete → Bool
is_delete q = is_table q.target && sources_or_none q.using && none_or is_expr q.condition && list_all is_item q.returning

abbrev pub is_change : Change → Bool
is_change (change_tree.Update s) = are_sets s
is_change change_tree.Delete = true
is_change change_tree.Nothing = true

abbrev pub is_addition : Addition → Bool
is_addition (addition_of.Insert c v) = list_all is_free_name c && some_and_all is_expr v
is_addition addition_of.Nothing = true

abbrev pub is_when : When → Bool
is_when (when_of.Matched c a) = none_or is_expr c && is_change a
is_when (when_of.NotBySource c a) = none_or is_expr c && is_change a
is_when (when_of.NotByTarget c a) = none_or is_expr c && is_addition a

abbrev pub is_merge : Merge → Bool
is_merge q =
    is_table q.target && is_source q.source && nat_le (sources_of q.source) 8 && is_expr q.on
    && some_and_all is_when q.clauses && list_all is_item q.returning

-- a number behind a minus sign
abbrev pub is_negative : Value → Bool
is_negative (value.Int (negsuc n)) = nat_le (suc n) 2147483647
is_negative (value.Big (negsuc n)) = nat_le 2147483648 (suc n) && nat_le (suc n) 9223372036854775807
is_negative _ = false

abbrev pub is_column_constraint : ColumnConstraint → Bool
is_column_constraint column_constraint.Primary = true
is_column_constraint column_constraint.Unique = true
is_column_constraint (column_constraint.Check e) = is_expr e

abbrev pub is_column_rule : ColumnRule → Bool
is_column_rule column_rule.NotNull = true
is_column_rule (column_rule.Default v) = is_literal v || is_negative v
is_column_rule (column_rule.Constraint n c) = none_or is_free_name n && is_column_constraint c

abbrev pub is_table_constraint : TableConstraint → Bool
is_table_constraint (table_constraint.Primary c) = are_names c
is_table_constraint (table_constraint.Unique c) = are_names c
is_table_constraint (table_constraint.Check e) = is_expr e

abbrev pub is_part : TablePart → Bool
is_part (part_of.Column c) = is_free_name c.name && list_all is_column_rule c.rules
is_part (part_of.Constraint n c) = none_or is_free_name n && is_table_constraint c

abbrev pub is_create_table : CreateTable → Bool
is_create_table q = is_free_name q.name && some_and_all is_part q.parts

abbrev pub is_create_index : CreateIndex → Bool
is_create_index q =
    is_free_name q.name && is_free_name q.table && some_and_all is_element q.elements && none_or is_expr q.predicate

-- a statement within the limits, whose literals and names can be written
abbrev pub is_statement : StmtTree → Bool
is_statement stmt.Begin = true
is_statement stmt.Commit = true
is_statement stmt.Rollback = true
is_statement (stmt.Select q) = is_select q
is_statement (stmt.Insert q) = is_insert q
is_statement (stmt.Update q) = is_update q
is_statement (stmt.Delete q) = is_delete q
is_statement (stmt.Merge q) = is_merge q
is_statement (stmt.CreateTable q) = is_create_table q
is_statement (stmt.CreateIndex q) = is_create_index q

-- every statement within the limits has a spelling
abbrev pub EachStatementIsSpelled : Type 0
EachStatementIsSpelled =
    (version : ℕ) (tree : StmtTree) → is_statement tree ≡ true →
    (tokens : List Token) × (list_all is_token tokens ≡ true) × sentence version (λ k. 0) tokens tree []

-- and what is read is a statement within these limits
abbrev pub EachStatementIsWithin : Type 0
EachStatementIsWithin =
    (version : ℕ) (tokens : List Token) (tree : StmtTree) → list_all is_token tokens ≡ true →
    sentence version (λ k. 0) tokens tree [] → is_statement tree ≡ true
