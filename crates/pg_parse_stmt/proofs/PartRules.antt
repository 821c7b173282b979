-- Parts of statements as rules.
use Rattle.std.proofs.Common.{◌≡◌, Bool, true, false, List, [], Option, Some, refl, not, ◌&&◌}
use Rattle.pg_parse_stmt.proofs.Common.{and_from, Seen, Reads, Lang, one, bind, more, Starts, Spelled, starts_token, starts_bind, spelled_more, Token, spelling, behind_expr, expr, Tree, any, is_word, is_comma, behind_list, behind_as, behind_item, behind_columns, behind_sets, behind_condition, behind_conflict, behind_order_key, behind_direction, behind_nulls, behind_of, behind_wait, behind_locked, behind_guard, behind_part, behind_constraint_name, word, optional, committed, name, as_name, named_expr, assignment, sets, condition, elements, tuple, columns, direction, nulls, nulls_by, order_key, strength, of_table, lock_wait, locked, target_elements, target_constraint, upsert, addition_insert, then, next_rule, column_part, table_constraint_behind, constraint_part, column_constraint_named, column_rule_behind, spelled_name, spelled_expr, spelled_sets, spelled_elements, spelled_tuple, spelled_kind, spelled_constraint, spelled_optional, nulls_of, kind_of, constraint_of, Item, Assignment, OrderKey, Locking, ConflictTarget, Conflict, Addition, When, TablePart, ColumnRule, StmtTree, Rule, maybe, Fits, starts_any, starts_before, spelled, less, own, Comes}
use Rattle.pg_lexer.specs.declared.keyword.Keyword.TheVariants as k
use Rattle.pg_lexer.specs.declared.sign.Sign.TheVariants as s
use Rattle.pg_lexer.specs.declared.token.Token.TheVariants as t
use Rattle.pg_parse_stmt.specs.declared.tree.Item.TheVariants as item_of
use Rattle.pg_parse_stmt.specs.declared.tree.ConflictTarget.TheVariants as target_of
use Rattle.pg_parse_stmt.specs.declared.tree.Conflict.TheVariants as conflict_of
use Rattle.pg_parse_stmt.specs.declared.tree.Addition.TheVariants as addition_of
use Rattle.pg_parse_stmt.specs.declared.tree.TablePart.TheVariants as part_of
use Rattle.pg_parse_stmt.specs.declared.word.RuleWord.TheVariants as rule_word
use Rattle.pg_grammar.proofs.Rules as rule
use Rattle.pg_parse_stmt.proofs.Lists.{and_left}
use Rattle.pg_parse_stmt.proofs.Steps.{and_right, starts_optional}
use Rattle.pg_parse_stmt.proofs.Following.{as_behind_expr, expr_direction, nulls_behind_expr, nulls_behind_direction, where_behind_sets, values_behind_columns, then_behind_guard, nowait_behind_of, skip_behind_of}
use Rattle.pg_parse_stmt.proofs.Conditions.{spelled_where}
use Rattle.pg_parse_stmt.proofs.Naming.{spelled_as_name}
use Rattle.pg_parse_stmt.proofs.Elements.{spelled_columns}
use Rattle.pg_parse_stmt.proofs.Locks.{spelled_strength, spelled_of, spelled_wait, starts_wait}
use Rattle.pg_parse_stmt.proofs.Orders.{spelled_direction, starts_direction, spelled_nulls}
use Rattle.pg_parse_stmt.proofs.Constraints.{spelled_named_constraint}
use Rattle.pg_parse_stmt.proofs.Parts.{spelled_by_word, starts_by_word}
use Rattle.pg_grammar.proofs.Rules.{token, gives}
use Rattle.pg_parse_stmt.proofs.Starting.{or_starts, optional_starts}

item_expr : (o : Option Token) → behind_item o ≡ true → behind_expr o ≡ true
unfolding behind_item
item_expr o e = and_left (behind_expr o) (behind_as o) e

item_as : (o : Option Token) → behind_item o ≡ true → behind_as o ≡ true
unfolding behind_item
item_as o e = and_right (behind_expr o) (behind_as o) e

-- expr [AS name]
abbrev pub named_expr_rule : Rule Token Item
named_expr_rule =
    rule.part behind_expr behind_expr expr (λ e. maybe behind_item behind_as as_name (λ n. gives (item_of.Expr e n)))

named_expr_fits : Fits named_expr_rule behind_item
unfolding as_name
named_expr_fits =
    search (own, spelled_expr, optional_starts, as_behind_expr, item_expr, less, spelled_as_name, item_as) depth 14

pub named_expr_read : {xs : List Token} {o : Seen Token Item} → Comes named_expr_rule behind_item xs o → Reads named_expr behind_item xs o
unfolding named_expr
named_expr_read c = c.to named_expr_fits

-- name "=" expr
abbrev pub assignment_rule : Rule Token Assignment
assignment_rule =
    rule.part any any name (λ n. token (t.Sign s.Equal) (rule.part behind_expr behind_expr expr (λ e.
    gives (record { column = n; value = e }))))

assignment_fits : Fits assignment_rule behind_expr
assignment_fits =
    search (own, spelled_name, spelled_expr) depth 14

pub assignment_read : {xs : List Token} {o : Seen Token Assignment} → Comes assignment_rule behind_expr xs o → Reads assignment behind_expr xs o
unfolding assignment
assignment_read c = c.to assignment_fits

key_expr : (o : Option Token) → behind_order_key o ≡ true → behind_expr o ≡ true
unfolding behind_order_key
key_expr o e =
    and_left (behind_expr o) (behind_direction o) (and_left (behind_expr o && behind_direction o) (behind_nulls o) e)

key_direction : (o : Option Token) → behind_order_key o ≡ true → behind_direction o ≡ true
unfolding behind_order_key
key_direction o e =
    and_right (behind_expr o) (behind_direction o) (and_left (behind_expr o && behind_direction o) (behind_nulls o) e)

key_nulls : (o : Option Token) → behind_order_key o ≡ true → behind_nulls o ≡ true
unfolding behind_order_key
key_nulls o e = and_right (behind_expr o && behind_direction o) (behind_nulls o) e

-- behind a direction
abbrev pub between_key : Option Token → Bool
between_key o = behind_expr o && behind_direction o

nulls_between : between_key (Some (t.Keyword k.Nulls)) ≡ true
nulls_between = and_from (behind_expr (Some (t.Keyword k.Nulls))) _ nulls_behind_expr nulls_behind_direction

key_between : (o : Option Token) → behind_order_key o ≡ true → between_key o ≡ true
key_between o e = and_from (behind_expr o) (behind_direction o) (key_expr o e) (key_direction o e)

-- expr [ASC | DESC] [NULLS (FIRST | LAST)]
abbrev pub order_key_rule : Rule Token OrderKey
order_key_rule =
    rule.part behind_expr behind_expr expr (λ e. maybe between_key behind_direction direction (λ d.
    maybe behind_order_key behind_nulls (nulls d) (λ n.
    gives (record { expr = e; direction = d; nulls = n }))))

order_key_fits : Fits order_key_rule behind_order_key
unfolding nulls
order_key_fits = (
  own spelled_expr,
  λ e. starts_before behind_expr behind_expr between_key direction (λ o b. and_left (behind_expr o) (behind_direction o) b)
      (starts_direction behind_expr expr_direction),
  λ e. (
    less spelled_direction (λ o b. and_right (behind_expr o) (behind_direction o) b),
    λ d. or_starts between_key behind_order_key (nulls_by d) (t.Keyword k.Nulls) (one nulls_of) nulls_between key_between,
    λ d. (less (spelled_nulls d) key_nulls, λ n o b. b, λ n. tt),
  ),
)

pub order_key_read : {xs : List Token} {o : Seen Token OrderKey} → Comes order_key_rule behind_order_key xs o → Reads order_key behind_order_key xs o
unfolding order_key
order_key_read c = c.to order_key_fits

locked_of : (o : Option Token) → behind_locked o ≡ true → behind_of o ≡ true
unfolding behind_locked
locked_of o e = and_left (behind_of o) (behind_wait o) e

locked_wait : (o : Option Token) → behind_locked o ≡ true → behind_wait o ≡ true
unfolding behind_locked
locked_wait o e = and_right (behind_of o) (behind_wait o) e

-- strength [OF name] [NOWAIT | SKIP LOCKED], behind FOR
abbrev pub locked_rule : Rule Token Locking
locked_rule =
    rule.part any any strength (λ x. maybe behind_of behind_of of_table (λ n. maybe behind_locked behind_wait lock_wait (λ w.
    gives (record { strength = x; table = n; wait = w }))))

locked_fits : Fits locked_rule behind_locked
locked_fits = (
  own spelled_strength,
  λ x. starts_any of_table behind_of,
  λ x. (
    own spelled_of,
    λ n. starts_before behind_of behind_of behind_locked lock_wait locked_of
        (starts_wait behind_of nowait_behind_of skip_behind_of),
    λ n. (less spelled_wait locked_wait, λ w o b. b, λ w. tt),
  ),
)

pub locked_read : {xs : List Token} {o : Seen Token Locking} → Comes locked_rule behind_locked xs o → Reads locked behind_locked xs o
unfolding locked
locked_read c = c.to locked_fits

-- "(" element {"," element} ")" [WHERE expr]
abbrev pub target_elements_rule : Rule Token ConflictTarget
target_elements_rule =
    rule.part any any elements (λ e. maybe behind_condition behind_condition condition (λ c. gives (target_of.Elements e c)))

target_elements_fits : Fits target_elements_rule behind_condition
target_elements_fits =
    search (own, spelled_elements, starts_any, spelled_where) depth 14

pub target_elements_read : {xs : List Token} {o : Seen Token ConflictTarget} → Comes target_elements_rule behind_condition xs o → Reads target_elements behind_condition xs o
unfolding target_elements
target_elements_read c = c.to target_elements_fits

-- ON CONSTRAINT name
abbrev pub target_constraint_rule : Rule Token ConflictTarget
target_constraint_rule =
    token (t.Keyword k.On) (token (t.Keyword k.Constraint) (rule.part any any name (λ n. gives (target_of.Constraint n))))

target_constraint_fits : Fits target_constraint_rule any
target_constraint_fits =
    search (own, spelled_name) depth 14

pub target_constraint_read : {xs : List Token} {o : Seen Token ConflictTarget} → Comes target_constraint_rule any xs o → Reads target_constraint any xs o
unfolding target_constraint
target_constraint_read c = c.to target_constraint_fits

pub behind_conflict_behind_sets : (o : Option Token) → behind_conflict o ≡ true → behind_sets o ≡ true
unfolding behind_conflict
behind_conflict_behind_sets o e = and_left (behind_sets o) (not (is_word k.Where o)) e

sets_where : (a b c : Bool) → ((a && not b) && not c) ≡ true → (a && not c) ≡ true
sets_where true b true e = and_right (true && not b) false e
sets_where true b false e = refl
sets_where false b c e = and_left false (not c) e

behind_conflict_behind_condition : (o : Option Token) → behind_conflict o ≡ true → behind_condition o ≡ true
unfolding behind_conflict behind_sets behind_list behind_condition
behind_conflict_behind_condition o e = sets_where (behind_expr o) (is_comma o) (is_word k.Where o) e

-- UPDATE SET sets [WHERE expr], behind DO
abbrev pub upsert_rule : (x : ConflictTarget) → Rule Token Conflict
upsert_rule x =
    token (t.Keyword k.Update) (token (t.Keyword k.Set) (rule.part behind_sets behind_sets sets (λ a.
    maybe behind_conflict behind_condition condition (λ c.
    gives (conflict_of.Update (record { target = x; sets = a; condition = c }))))))

upsert_fits : (x : ConflictTarget) → Fits (upsert_rule x) behind_conflict
unfolding condition
upsert_fits x =
    search (
      own,
      spelled_sets,
      optional_starts,
      where_behind_sets,
      behind_conflict_behind_sets,
      less,
      spelled_where,
      behind_conflict_behind_condition,
    ) depth 14

pub upsert_read : {x : ConflictTarget} {xs : List Token} {o : Seen Token Conflict} → Comes (upsert_rule x) behind_conflict xs o → Reads (upsert x) behind_conflict xs o
unfolding upsert
upsert_read {x} c = c.to (upsert_fits x)

-- INSERT ["(" names ")"] VALUES tuple
abbrev pub addition_insert_rule : Rule Token Addition
addition_insert_rule =
    token (t.Keyword k.Insert) (maybe behind_columns behind_columns columns (λ c. token (t.Keyword k.Values)
    (rule.part any any tuple (λ v. gives (addition_of.Insert c v)))))

addition_insert_fits : Fits addition_insert_rule any
addition_insert_fits =
    search (own, spelled_columns, values_behind_columns, spelled_tuple) depth 14

pub addition_insert_read : {xs : List Token} {o : Seen Token Addition} → Comes addition_insert_rule any xs o → Reads addition_insert any xs o
unfolding addition_insert
addition_insert_read c = c.to addition_insert_fits

pub spelled_addition_insert : Spelled addition_insert
unfolding addition_insert
spelled_addition_insert = spelled addition_insert_rule any addition_insert_fits

-- [AND expr] THEN, and what is to be done
abbrev pub then_rule : {A : Type 0} → (Option Token → Bool) → Lang Token A → (Option Tree → A → When) → Rule Token When
then_rule g act make =
    maybe behind_guard behind_guard (optional (word k.And expr)) (λ c. token (t.Keyword k.Then)
    (rule.part g g act (λ a. gives (make c a))))

then_fits : {A : Type 0} (g : Option Token → Bool) (act : Lang Token A) (make : Option Tree → A → When) →
    Spelled act → Fits (then_rule g act make) g
then_fits g act make h =
    search (own, spelled_optional, then_behind_guard, h) depth 14

pub then_read : {A : Type 0} {g : Option Token → Bool} {act : Lang Token A} {make : Option Tree → A → When}
    {xs : List Token} {o : Seen Token When} → Spelled act → Comes (then_rule g act make) g xs o →
    Reads (then act make) g xs o
unfolding then
then_read {g = g} {act = act} {make = make} h c = c.to (then_fits g act make h)

pub starts_then : {A : Type 0} (f g : Option Token → Bool) (act : Lang Token A) (make : Option Tree → A → When) →
    f (Some (t.Keyword k.And)) ≡ true → f (Some (t.Keyword k.Then)) ≡ true → Starts f (then act make) g
unfolding then
starts_then f g act make h i =
    starts_bind f f g (optional (word k.And expr)) _ (starts_optional (t.Keyword k.And) expr f h)
    (λ c. starts_token f g (t.Keyword k.Then) _ i)

pub spelled_then : {A : Type 0} (act : Lang Token A) (make : Option Tree → A → When) → Spelled act →
    Spelled (then act make)
unfolding then
spelled_then act make h = spelled (then_rule any act make) any (then_fits any act make h)

-- name kind, and any number of rules
abbrev pub column_part_rule : Rule Token TablePart
column_part_rule =
    rule.part any any name (λ n. rule.part any any (one kind_of) (λ x. maybe behind_part behind_part (more next_rule []) (λ r.
    gives (part_of.Column (record { name = n; kind = x; rules = r })))))

column_part_fits : Fits column_part_rule behind_part
column_part_fits =
    search (own, spelled_name, starts_any, spelled_kind, spelled_more) depth 14

pub column_part_read : {xs : List Token} {o : Seen Token TablePart} → Comes column_part_rule behind_part xs o → Reads column_part behind_part xs o
unfolding column_part
column_part_read c = c.to column_part_fits

-- [CONSTRAINT name], and a constraint of the table
abbrev pub constraint_part_rule : Rule Token TablePart
constraint_part_rule =
    maybe behind_constraint_name behind_constraint_name (optional (word k.Constraint name)) (λ n.
    rule.part any any (bind (one constraint_of) table_constraint_behind) (λ c. gives (part_of.Constraint n c)))

constraint_part_fits : Fits constraint_part_rule any
unfolding behind_constraint_name is_word spelling
constraint_part_fits =
    search (own, spelled_optional, starts_by_word, spelled_by_word) depth 14

pub constraint_part_read : {xs : List Token} {o : Seen Token TablePart} → Comes constraint_part_rule any xs o → Reads constraint_part any xs o
unfolding constraint_part
constraint_part_read c = c.to constraint_part_fits

-- CONSTRAINT name, and what is behind it
abbrev pub rule_named_rule : Rule Token ColumnRule
rule_named_rule =
    rule.part any any name (λ n. rule.part any any (one constraint_of) (λ w. rule.last any any (column_constraint_named (Some n) w)))

rule_named_fits : Fits rule_named_rule any
rule_named_fits =
    search (own, spelled_name, starts_any, spelled_constraint, spelled_named_constraint) depth 14

pub rule_named_read : {xs : List Token} {o : Seen Token ColumnRule} → Comes rule_named_rule any xs o → Reads (column_rule_behind rule_word.Named) any xs o
unfolding column_rule_behind
rule_named_read c = c.to rule_named_fits

-- LEVEL READ COMMITTED, behind ISOLATION
abbrev pub committed_rule : StmtTree → Rule Token StmtTree
committed_rule x = token (t.Keyword k.Level) (token (t.Keyword k.Read) (token (t.Keyword k.Committed) (gives x)))

pub committed_read : {x : StmtTree} {xs : List Token} {o : Seen Token StmtTree} → Comes (committed_rule x) any xs o →
    Reads (committed x) any xs o
unfolding committed
committed_read c = c.to tt
