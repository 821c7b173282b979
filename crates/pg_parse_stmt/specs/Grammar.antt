-- The grammar of statements, rule by rule. Words that may be left out leave no trace in a tree. A rule with a number
-- n counts sources: n is how many of the statement's sources begin before it.
use Rattle.std.specs.Prelude.{ℕ, ◌+◌, suc, List, [], ◌∷◌, ◌++◌, length, Option, Some, None}
use Rattle.pg_values.specs.declared.value.Value.{Value}
use Rattle.pg_grammar.specs.Limits.{sources}
use Rattle.pg_grammar.specs.Languages.{Lang, gives, one, bind, either, more, reaches}
use Rattle.pg_lexer.specs.declared.keyword.Keyword.TheVariants as k
use Rattle.pg_lexer.specs.declared.sign.Sign.TheVariants as s
use Rattle.pg_lexer.specs.declared.token.Token.{Token}
use Rattle.pg_parse_expr.specs.Grammar.{expr}
use Rattle.pg_parse_expr.specs.Operators.{name_of, value_of}
use Rattle.pg_parse_expr.specs.Tree.{Tree}
use Rattle.pg_parse_stmt.specs.Forms.{word, sign, or_else, optional, list_of, in_brackets}
use Rattle.pg_parse_stmt.specs.Words.{bare_name_of, integer_of, kind_of, negative_of, direction_of, nulls_of, strength_of, lead_of, link_of, change_of, constraint_of, rule_of}
use Rattle.pg_parse_stmt.specs.declared.tree.Item.{Item}
use Rattle.pg_parse_stmt.specs.declared.tree.Item.TheVariants as item_of
use Rattle.pg_parse_stmt.specs.declared.tree.TableRef.{TableRef}
use Rattle.pg_parse_stmt.specs.declared.tree.Source.{Source}
use Rattle.pg_parse_stmt.specs.declared.tree.Source.TheVariants as source_of
use Rattle.pg_parse_stmt.specs.declared.tree.Joined.{Joined}
use Rattle.pg_parse_stmt.specs.declared.tree.Subselect.{Subselect}
use Rattle.pg_parse_stmt.specs.declared.tree.Direction.{Direction}
use Rattle.pg_parse_stmt.specs.declared.tree.Direction.TheVariants.{Ascending, Descending}
use Rattle.pg_parse_stmt.specs.declared.tree.NullsPlace.{NullsPlace}
use Rattle.pg_parse_stmt.specs.declared.tree.NullsPlace.TheVariants.{First, Last}
use Rattle.pg_parse_stmt.specs.declared.tree.OrderKey.{OrderKey}
use Rattle.pg_parse_stmt.specs.declared.tree.LockStrength.{LockStrength}
use Rattle.pg_parse_stmt.specs.declared.tree.LockStrength.TheVariants as lock
use Rattle.pg_parse_stmt.specs.declared.tree.LockWait.{LockWait}
use Rattle.pg_parse_stmt.specs.declared.tree.LockWait.TheVariants as wait_of
use Rattle.pg_parse_stmt.specs.declared.tree.Locking.{Locking}
use Rattle.pg_parse_stmt.specs.declared.tree.Select.{Select}
use Rattle.pg_parse_stmt.specs.declared.tree.Rows.{Rows}
use Rattle.pg_parse_stmt.specs.declared.tree.Rows.TheVariants as rows_of
use Rattle.pg_parse_stmt.specs.declared.tree.Element.{Element}
use Rattle.pg_parse_stmt.specs.declared.tree.Element.TheVariants as element_of
use Rattle.pg_parse_stmt.specs.declared.tree.ConflictTarget.{ConflictTarget}
use Rattle.pg_parse_stmt.specs.declared.tree.ConflictTarget.TheVariants as target_of
use Rattle.pg_parse_stmt.specs.declared.tree.Assignment.{Assignment}
use Rattle.pg_parse_stmt.specs.declared.tree.Conflict.{Conflict}
use Rattle.pg_parse_stmt.specs.declared.tree.Conflict.TheVariants as conflict_of
use Rattle.pg_parse_stmt.specs.declared.tree.Insert.{Insert}
use Rattle.pg_parse_stmt.specs.declared.tree.Update.{Update}
use Rattle.pg_parse_stmt.specs.declared.tree.Delete.{Delete}
use Rattle.pg_parse_stmt.specs.declared.tree.Change.{Change}
use Rattle.pg_parse_stmt.specs.declared.tree.Change.TheVariants as change_tree
use Rattle.pg_parse_stmt.specs.declared.tree.Addition.{Addition}
use Rattle.pg_parse_stmt.specs.declared.tree.Addition.TheVariants as addition_of
use Rattle.pg_parse_stmt.specs.declared.tree.When.{When}
use Rattle.pg_parse_stmt.specs.declared.tree.When.TheVariants as when_of
use Rattle.pg_parse_stmt.specs.declared.tree.Merge.{Merge}
use Rattle.pg_parse_stmt.specs.declared.tree.ColumnConstraint.{ColumnConstraint}
use Rattle.pg_parse_stmt.specs.declared.tree.ColumnConstraint.TheVariants as column_constraint
use Rattle.pg_parse_stmt.specs.declared.tree.ColumnRule.{ColumnRule}
use Rattle.pg_parse_stmt.specs.declared.tree.ColumnRule.TheVariants as column_rule
use Rattle.pg_parse_stmt.specs.declared.tree.TableConstraint.{TableConstraint}
use Rattle.pg_parse_stmt.specs.declared.tree.TableConstraint.TheVariants as table_constraint
use Rattle.pg_parse_stmt.specs.declared.tree.TablePart.{TablePart}
use Rattle.pg_parse_stmt.specs.declared.tree.TablePart.TheVariants as part_of
use Rattle.pg_parse_stmt.specs.declared.tree.StmtTree.{StmtTree}
use Rattle.pg_parse_stmt.specs.declared.tree.StmtTree.TheVariants as stmt
use Rattle.pg_parse_stmt.specs.declared.word.Lead.{Lead}
use Rattle.pg_parse_stmt.specs.declared.word.Lead.TheVariants as lead
use Rattle.pg_parse_stmt.specs.declared.word.Link.{Link}
use Rattle.pg_parse_stmt.specs.declared.word.Link.TheVariants as link
use Rattle.pg_parse_stmt.specs.declared.word.ChangeWord.{ChangeWord}
use Rattle.pg_parse_stmt.specs.declared.word.ChangeWord.TheVariants as change_word
use Rattle.pg_parse_stmt.specs.declared.word.ConstraintWord.{ConstraintWord}
use Rattle.pg_parse_stmt.specs.declared.word.ConstraintWord.TheVariants as constraint_word
use Rattle.pg_parse_stmt.specs.declared.word.RuleWord.{RuleWord}
use Rattle.pg_parse_stmt.specs.declared.word.RuleWord.TheVariants as rule_word

-- a name: a word that is not reserved, or a reserved one that may be a name
unfoldable pub name : Lang Token (List ℕ)
name = one name_of

-- name {"," name}
unfoldable pub names : Lang Token (List (List ℕ))
names = list_of name

-- [AS] name, where without AS the name is no reserved word
unfoldable pub alias : Lang Token (List ℕ)
alias = either (word k.As name) (one bare_name_of)

-- [[AS] name], behind a table's name
unfoldable pub table_named : List ℕ → Lang Token TableRef
table_named n = bind (optional alias) (λ a. gives (record { name = n; alias = a }))

-- name [[AS] name]
unfoldable pub table_ref : Lang Token TableRef
table_ref = bind name table_named

-- [WHERE expr]
unfoldable pub condition : Lang Token (Option Tree)
condition = optional (word k.Where expr)

-- [AS name]
unfoldable pub as_name : Lang Token (Option (List ℕ))
as_name = optional (word k.As name)

-- expr [AS name]
unfoldable pub named_expr : Lang Token Item
named_expr = bind expr (λ e. bind as_name (λ n. gives (item_of.Expr e n)))

-- name "." "*"
unfoldable pub all_of : Lang Token Item
all_of = bind name (λ n. sign s.Dot (sign s.Star (gives (item_of.AllOf n))))

-- "*" | name "." "*" | expr [AS name]
unfoldable pub item : Lang Token Item
item = either (sign s.Star (gives item_of.All)) (either all_of named_expr)

-- item {"," item}
unfoldable pub items : Lang Token (List Item)
items = list_of item

-- [RETURNING items]
unfoldable pub returning : Lang Token (List Item)
returning = or_else [] (word k.Returning items)

-- "(" expr {"," expr} ")"
unfoldable pub tuple : Lang Token (List Tree)
tuple = in_brackets (list_of expr)

-- tuple {"," tuple}, behind VALUES
unfoldable pub tuples : Lang Token (List (List Tree))
tuples = list_of tuple

-- name "=" expr
unfoldable pub assignment : Lang Token Assignment
assignment = bind name (λ n. sign s.Equal (bind expr (λ e. gives (record { column = n; value = e }))))

-- name "=" expr {"," name "=" expr}, behind SET
unfoldable pub sets : Lang Token (List Assignment)
sets = list_of assignment

-- name | "(" expr ")"
unfoldable pub element : Lang Token Element
element =
    either (bind name (λ n. gives (element_of.Column n))) (bind (in_brackets expr) (λ e. gives (element_of.Expr e)))

-- "(" element {"," element} ")"
unfoldable pub elements : Lang Token (List Element)
elements = in_brackets (list_of element)

-- a source, where n begin before it, and how many sources it holds
abbrev pub SourceRule : Type 0 → Type 1
SourceRule S = ℕ → Lang Token S

-- how many sources begin in a list
abbrev pub sources_in : {S : Type 0} → (S → ℕ) → List (Joined S) → ℕ
sources_in count [] = 0
sources_in count (j ∷ js) = count j.source + sources_in count js

-- source ON expr
unfoldable pub joined : {S : Type 0} → Lang Token S → Lang Token (Joined S)
joined source = bind source (λ x. word k.On (bind expr (λ e. gives (record { source = x; on = Some e }))))

-- a source with no condition of its own
unfoldable pub alone : {S : Type 0} → Lang Token S → Lang Token (Joined S)
alone source = bind source (λ x. gives (record { source = x; on = None }))

-- "," source | [INNER] JOIN source ON expr, by its first word
unfoldable pub linked : {S : Type 0} → Lang Token S → Link → Lang Token (Joined S)
linked source link.Comma = alone source
linked source link.Inner = word k.Join (joined source)
linked source link.Join = joined source

-- one more source, by the word or comma before it
unfoldable pub next_source : {S : Type 0} → SourceRule S → (S → ℕ) → ℕ → List (Joined S) → Lang Token (List (Joined S))
next_source source count n list =
    bind (one link_of) (λ l. bind (linked (source (n + sources_in count list)) l) (λ x. gives (list ++ x ∷ [])))

-- source {"," source | [INNER] JOIN source ON expr}
unfoldable pub from_of : {S : Type 0} → SourceRule S → (S → ℕ) → ℕ → Lang Token (List (Joined S))
from_of source count n = bind (alone (source n)) (λ x. more (next_source source count n) (x ∷ []))

-- a source that is a table
unfoldable pub table_source : SourceRule TableRef
table_source n = reaches sources (suc n) table_ref

abbrev pub one_source : TableRef → ℕ
one_source _ = 1

-- items FROM from [WHERE expr], behind SELECT; its sources are tables
unfoldable pub subselect : ℕ → Lang Token Subselect
subselect n =
    bind items (λ i. word k.From (bind (from_of table_source one_source n) (λ f. bind condition (λ c.
    gives (record { items = i; from = f; condition = c })))))

-- tuples ")" [AS] name "(" names ")", behind "(" VALUES
unfoldable pub values_source : Lang Token Source
values_source =
    bind tuples (λ r. sign s.Close (bind alias (λ a. bind (in_brackets names) (λ c.
    gives (source_of.Values (record { rows = r; alias = a; columns = c }))))))

-- subselect ")" [AS] name, behind "(" SELECT
unfoldable pub query_source : ℕ → Lang Token Source
query_source n =
    bind (subselect n) (λ q. sign s.Close (bind alias (λ a. gives (source_of.Query (record { query = q; alias = a })))))

-- a source behind its "(", where n begin before what it holds: by VALUES or SELECT
unfoldable pub bracketed : ℕ → Lang Token Source
bracketed n = either (word k.Values values_source) (word k.Select (query_source n))

-- name [[AS] name] | "(" VALUES tuples ")" [AS] name "(" names ")" | "(" SELECT subselect ")" [AS] name
unfoldable pub source : SourceRule Source
source n =
    reaches sources (suc n) (either (bind table_ref (λ t. gives (source_of.Table t))) (sign s.Open (bracketed (suc n))))

-- a source counts itself and those inside it
abbrev pub sources_of : Source → ℕ
sources_of (source_of.Table t) = 1
sources_of (source_of.Values v) = 1
sources_of (source_of.Query q) = suc (length q.query.from)

-- the sources of a statement
unfoldable pub from : Lang Token (List (Joined Source))
from = from_of source sources_of 0

-- [ASC | DESC]
unfoldable pub direction : Lang Token Direction
direction = or_else Ascending (one direction_of)

-- where NULL stands if it counts as the greatest value
abbrev pub nulls_by : Direction → NullsPlace
nulls_by Ascending = Last
nulls_by Descending = First

-- [NULLS (FIRST | LAST)]
unfoldable pub nulls : Direction → Lang Token NullsPlace
nulls d = or_else (nulls_by d) (word k.Nulls (one nulls_of))

-- expr [ASC | DESC] [NULLS (FIRST | LAST)]
unfoldable pub order_key : Lang Token OrderKey
order_key =
    bind expr (λ e. bind direction (λ d. bind (nulls d) (λ n. gives (record { expr = e; direction = d; nulls = n }))))

-- [ORDER BY order_key {"," order_key}]
unfoldable pub order : Lang Token (List OrderKey)
order = or_else [] (word k.Order (word k.By (list_of order_key)))

-- [LIMIT integer]
unfoldable pub limit : Lang Token (Option ℕ)
limit = optional (word k.Limit (one integer_of))

-- what is behind the first word of a strength: KEY begins KEY SHARE, and NO begins NO KEY UPDATE
unfoldable pub strength_behind : LockStrength → Lang Token LockStrength
strength_behind lock.KeyShare = word k.Share (gives lock.KeyShare)
strength_behind lock.Share = gives lock.Share
strength_behind lock.NoKeyUpdate = word k.Key (word k.Update (gives lock.NoKeyUpdate))
strength_behind lock.Update = gives lock.Update

-- KEY SHARE | SHARE | NO KEY UPDATE | UPDATE
unfoldable pub strength : Lang Token LockStrength
strength = bind (one strength_of) strength_behind

-- [NOWAIT | SKIP LOCKED]
unfoldable pub lock_wait : Lang Token LockWait
lock_wait =
    or_else wait_of.Wait
    (either (word k.Nowait (gives wait_of.Fail)) (word k.Skip (word k.Locked (gives wait_of.Skip))))

-- [OF name]
unfoldable pub of_table : Lang Token (Option (List ℕ))
of_table = optional (word k.Of name)

-- strength [OF name] [NOWAIT | SKIP LOCKED], behind FOR
unfoldable pub locked : Lang Token Locking
locked =
    bind strength (λ st. bind of_table (λ t. bind lock_wait (λ w.
    gives (record { strength = st; table = t; wait = w }))))

-- [FOR strength [OF name] [NOWAIT | SKIP LOCKED]]
unfoldable pub locking : Lang Token (Option Locking)
locking = optional (word k.For locked)

-- items FROM from [WHERE expr] [ORDER BY order_key {"," order_key}] [LIMIT integer] [FOR locked], behind SELECT
unfoldable pub select : Lang Token Select
select =
    bind items (λ i. word k.From (bind from (λ f. bind condition (λ c. bind order (λ o. bind limit (λ l.
    bind locking (λ h.
    gives (record { items = i; from = f; condition = c; order = o; limit = l; locking = h }))))))))

-- VALUES tuples | SELECT subselect
unfoldable pub rows : Lang Token Rows
rows =
    either (word k.Values (bind tuples (λ r. gives (rows_of.Values r))))
    (word k.Select (bind (subselect 0) (λ q. gives (rows_of.Query q))))

-- "(" element {"," element} ")" [WHERE expr]
unfoldable pub target_elements : Lang Token ConflictTarget
target_elements = bind elements (λ e. bind condition (λ c. gives (target_of.Elements e c)))

-- ON CONSTRAINT name
unfoldable pub target_constraint : Lang Token ConflictTarget
target_constraint = word k.On (word k.Constraint (bind name (λ n. gives (target_of.Constraint n))))

-- "(" element {"," element} ")" [WHERE expr] | ON CONSTRAINT name
unfoldable pub conflict_target : Lang Token ConflictTarget
conflict_target = either target_elements target_constraint

-- UPDATE SET sets [WHERE expr], behind DO
unfoldable pub upsert : ConflictTarget → Lang Token Conflict
upsert t =
    word k.Update (word k.Set (bind sets (λ a. bind condition (λ c.
    gives (conflict_of.Update (record { target = t; sets = a; condition = c }))))))

-- NOTHING, or with a target UPDATE, behind DO
unfoldable pub conflict_act : Option ConflictTarget → Lang Token Conflict
conflict_act None = word k.Nothing (gives (conflict_of.Nothing None))
conflict_act (Some t) = either (word k.Nothing (gives (conflict_of.Nothing (Some t)))) (upsert t)

-- ON CONFLICT [target] DO NOTHING | ON CONFLICT target DO UPDATE SET sets [WHERE expr]
unfoldable pub conflict : Lang Token Conflict
conflict = word k.On (word k.Conflict (bind (optional conflict_target) (λ t. word k.Do (conflict_act t))))

-- ["(" names ")"]
unfoldable pub columns : Lang Token (List (List ℕ))
columns = or_else [] (in_brackets names)

-- INTO name [AS name] ["(" names ")"] rows [conflict] [RETURNING items], behind INSERT
unfoldable pub insert : Lang Token Insert
insert =
    word k.Into (bind name (λ t. bind as_name (λ a. bind columns (λ c. bind rows (λ r.
    bind (optional conflict) (λ o. bind returning (λ i.
    gives (record { table = t; alias = a; columns = c; rows = r; conflict = o; returning = i }))))))))

-- name [[AS] name] SET sets [FROM from] [WHERE expr] [RETURNING items], behind UPDATE
unfoldable pub update : Lang Token Update
update =
    bind table_ref (λ t. word k.Set (bind sets (λ a. bind (or_else [] (word k.From from)) (λ f. bind condition (λ c.
    bind returning (λ i.
    gives (record { target = t; sets = a; from = f; condition = c; returning = i })))))))

-- FROM name [[AS] name] [USING from] [WHERE expr] [RETURNING items], behind DELETE
unfoldable pub delete : Lang Token Delete
delete =
    word k.From (bind table_ref (λ t. bind (or_else [] (word k.Using from)) (λ u. bind condition (λ c.
    bind returning (λ i.
    gives (record { target = t; using = u; condition = c; returning = i }))))))

-- what is behind the first word of a change
unfoldable pub change_behind : ChangeWord → Lang Token Change
change_behind change_word.Update = word k.Set (bind sets (λ a. gives (change_tree.Update a)))
change_behind change_word.Delete = gives change_tree.Delete
change_behind change_word.Do = word k.Nothing (gives change_tree.Nothing)

-- UPDATE SET sets | DELETE | DO NOTHING
unfoldable pub change : Lang Token Change
change = bind (one change_of) change_behind

-- INSERT ["(" names ")"] VALUES tuple
unfoldable pub addition_insert : Lang Token Addition
addition_insert = word k.Insert (bind columns (λ c. word k.Values (bind tuple (λ t. gives (addition_of.Insert c t)))))

-- DO NOTHING
unfoldable pub addition_nothing : Lang Token Addition
addition_nothing = word k.Do (word k.Nothing (gives addition_of.Nothing))

-- INSERT ["(" names ")"] VALUES tuple | DO NOTHING
unfoldable pub addition : Lang Token Addition
addition = either addition_insert addition_nothing

-- [AND expr] THEN, and what is to be done
unfoldable pub then : {A : Type 0} → Lang Token A → (Option Tree → A → When) → Lang Token When
then act make = bind (optional (word k.And expr)) (λ c. word k.Then (bind act (λ a. gives (make c a))))

-- SOURCE [AND expr] THEN change | TARGET [AND expr] THEN addition, behind WHEN NOT MATCHED BY
unfoldable pub by_whom : Lang Token When
by_whom = either (word k.Source (then change when_of.NotBySource)) (word k.Target (then addition when_of.NotByTarget))

-- BY SOURCE [AND expr] THEN change | [BY TARGET] [AND expr] THEN addition, behind WHEN NOT MATCHED
unfoldable pub not_matched : Lang Token When
not_matched = either (word k.By by_whom) (then addition when_of.NotByTarget)

-- MATCHED [AND expr] THEN change | NOT MATCHED BY SOURCE [AND expr] THEN change
-- | NOT MATCHED [BY TARGET] [AND expr] THEN addition, behind WHEN
unfoldable pub when_behind : Lang Token When
when_behind = either (word k.Matched (then change when_of.Matched)) (word k.Not (word k.Matched not_matched))

-- WHEN, and what is behind it
unfoldable pub when : Lang Token When
when = word k.When when_behind

-- one more WHEN clause
unfoldable pub next_when : List When → Lang Token (List When)
next_when list = bind when (λ w. gives (list ++ w ∷ []))

-- when {when}
unfoldable pub whens : Lang Token (List When)
whens = bind when (λ w. more next_when (w ∷ []))

-- INTO name [[AS] name] USING source ON expr when {when} [RETURNING items], behind MERGE
unfoldable pub merge : Lang Token Merge
merge =
    word k.Into (bind table_ref (λ t. word k.Using (bind (source 0) (λ x. word k.On (bind expr (λ e. bind whens (λ w.
    bind returning (λ i.
    gives (record { target = t; source = x; on = e; clauses = w; returning = i })))))))))

-- literal, or a minus sign and an integer, behind DEFAULT
unfoldable pub default : Lang Token Value
default = either (one value_of) (sign s.Minus (one negative_of))

-- a column's constraint by its first word: PRIMARY KEY | UNIQUE | CHECK "(" expr ")"
unfoldable pub column_constraint_behind : ConstraintWord → Lang Token ColumnConstraint
column_constraint_behind constraint_word.Primary = word k.Key (gives column_constraint.Primary)
column_constraint_behind constraint_word.Unique = gives column_constraint.Unique
column_constraint_behind constraint_word.Check = bind (in_brackets expr) (λ e. gives (column_constraint.Check e))

-- the same, with its name
unfoldable pub column_constraint_named : Option (List ℕ) → ConstraintWord → Lang Token ColumnRule
column_constraint_named n w = bind (column_constraint_behind w) (λ c. gives (column_rule.Constraint n c))

-- NOT NULL | DEFAULT literal | [CONSTRAINT name] (PRIMARY KEY | UNIQUE | CHECK "(" expr ")"), by its first word
unfoldable pub column_rule_behind : RuleWord → Lang Token ColumnRule
column_rule_behind rule_word.Not = word k.Null (gives column_rule.NotNull)
column_rule_behind rule_word.Default = bind default (λ v. gives (column_rule.Default v))
column_rule_behind rule_word.Named = bind name (λ n. bind (one constraint_of) (column_constraint_named (Some n)))
column_rule_behind (rule_word.Unnamed w) = column_constraint_named None w

-- one more rule of a column
unfoldable pub next_rule : List ColumnRule → Lang Token (List ColumnRule)
next_rule list = bind (one rule_of) (λ w. bind (column_rule_behind w) (λ r. gives (list ++ r ∷ [])))

-- name kind, and any number of rules
unfoldable pub column_part : Lang Token TablePart
column_part =
    bind name (λ n. bind (one kind_of) (λ t. bind (more next_rule []) (λ r.
    gives (part_of.Column (record { name = n; kind = t; rules = r })))))

-- a constraint of the table by its first word: (PRIMARY KEY | UNIQUE) "(" names ")" | CHECK "(" expr ")"
unfoldable pub table_constraint_behind : ConstraintWord → Lang Token TableConstraint
table_constraint_behind constraint_word.Primary =
    word k.Key (bind (in_brackets names) (λ c. gives (table_constraint.Primary c)))
table_constraint_behind constraint_word.Unique = bind (in_brackets names) (λ c. gives (table_constraint.Unique c))
table_constraint_behind constraint_word.Check = bind (in_brackets expr) (λ e. gives (table_constraint.Check e))

-- [CONSTRAINT name], and a constraint of the table
unfoldable pub constraint_part : Lang Token TablePart
constraint_part =
    bind (optional (word k.Constraint name)) (λ n. bind (bind (one constraint_of) table_constraint_behind) (λ c.
    gives (part_of.Constraint n c)))

-- a column, or a constraint of the table
unfoldable pub part : Lang Token TablePart
part = either column_part constraint_part

-- TABLE name "(" part {"," part} ")", behind CREATE
unfoldable pub create_table : Lang Token StmtTree
create_table =
    word k.Table (bind name (λ n. bind (in_brackets (list_of part)) (λ p.
    gives (stmt.CreateTable (record { name = n; parts = p })))))

-- UNIQUE INDEX name ON name "(" element {"," element} ")" [WHERE expr], behind CREATE
unfoldable pub create_index : Lang Token StmtTree
create_index =
    word k.Unique (word k.Index (bind name (λ n. word k.On (bind name (λ t. bind elements (λ e. bind condition (λ c.
    gives (stmt.CreateIndex (record { name = n; table = t; elements = e; predicate = c })))))))))

-- [WORK | TRANSACTION], behind the first word of the statement x
unfoldable pub transaction : StmtTree → Lang Token StmtTree
transaction x = or_else x (either (word k.Work (gives x)) (word k.Transaction (gives x)))

-- LEVEL READ COMMITTED, behind ISOLATION
unfoldable pub committed : StmtTree → Lang Token StmtTree
committed x = word k.Level (word k.Read (word k.Committed (gives x)))

-- [ISOLATION LEVEL READ COMMITTED]
unfoldable pub isolation : StmtTree → Lang Token StmtTree
isolation x = or_else x (word k.Isolation (committed x))

-- [WORK | TRANSACTION] [ISOLATION LEVEL READ COMMITTED], behind BEGIN
unfoldable pub begin : Lang Token StmtTree
begin = bind (transaction stmt.Begin) isolation

-- what is behind the first word of a statement, in a version of the language; there is no version but 1 yet
unfoldable pub statement_behind : ℕ → Lead → Lang Token StmtTree
statement_behind version lead.Begin = begin
statement_behind version lead.Commit = transaction stmt.Commit
statement_behind version lead.Rollback = transaction stmt.Rollback
statement_behind version lead.Select = bind select (λ x. gives (stmt.Select x))
statement_behind version lead.Insert = bind insert (λ x. gives (stmt.Insert x))
statement_behind version lead.Update = bind update (λ x. gives (stmt.Update x))
statement_behind version lead.Delete = bind delete (λ x. gives (stmt.Delete x))
statement_behind version lead.Merge = bind merge (λ x. gives (stmt.Merge x))
statement_behind version lead.Create = either create_table create_index

-- a statement by its first word
unfoldable pub statement : ℕ → Lang Token StmtTree
statement version = bind (one lead_of) (statement_behind version)

-- a statement on a line of its own: one `;` may end it
unfoldable pub sentence : ℕ → Lang Token StmtTree
sentence version = bind (statement version) (λ x. or_else x (sign s.Semicolon (gives x)))
