-- CREATE TABLE and CREATE UNIQUE INDEX, written before any tokens.
use Rattle.std.proofs.Common.{◌≡◌, ℕ, suc, pos, negsuc, true, false, ◌||◌, List, [], ◌∷◌, ◌++◌, Option, Some, None, refl, inl, inr, arith, nat_le, leb-true, le-leb}
use Rattle.pg_parse_stmt.proofs.Common.{list_all, and_parts, or_cases, lt-leb, one, bind, more, Value, Token, expr, is_literal, is_free_name, is_token, integer_read, bigint_read, word, optional, list_of, in_brackets, value_of, kind_of, negative_of, constraint_of, rule_of, none_or, some_and_all, is_negative, is_column_constraint, is_column_rule, is_table_constraint, is_part, is_create_table, is_create_index, name, names, condition, elements, default, column_constraint_behind, column_constraint_named, column_rule_behind, next_rule, column_part, table_constraint_behind, constraint_part, part, create_table, create_index, ColumnConstraint, ColumnRule, TableConstraint, TablePart, ConstraintWord, RuleWord}
use Rattle.pg_values.specs.declared.value.Kind.TheVariants as kind
use Rattle.pg_values.specs.declared.value.Value.TheVariants as value
use Rattle.pg_lexer.specs.declared.keyword.Keyword.TheVariants as k
use Rattle.pg_lexer.specs.declared.sign.Sign.TheVariants as s
use Rattle.pg_lexer.specs.declared.token.Token.TheVariants as token_of
use Rattle.pg_parse_stmt.specs.declared.tree.ColumnConstraint.TheVariants as column_constraint
use Rattle.pg_parse_stmt.specs.declared.tree.ColumnRule.TheVariants as column_rule
use Rattle.pg_parse_stmt.specs.declared.tree.TableConstraint.TheVariants as table_constraint
use Rattle.pg_parse_stmt.specs.declared.tree.TablePart.TheVariants as part_of
use Rattle.pg_parse_stmt.specs.declared.tree.StmtTree.TheVariants as stmt
use Rattle.pg_parse_stmt.specs.declared.word.ConstraintWord.TheVariants as constraint_word
use Rattle.pg_parse_stmt.specs.declared.word.RuleWord.TheVariants as rule_word
use Rattle.pg_values.specs.declared.value.Kind.{Kind}
use Rattle.pg_parse_stmt.specs.declared.tree.CreateTable.{CreateTable}
use Rattle.pg_parse_stmt.specs.declared.tree.CreateIndex.{CreateIndex}
use Rattle.pg_parse_stmt.proofs.Writing.{Writes, writes_gives, writes_word, writes_sign, writes_one, writes_bind, writes_left, writes_right, writes_optional, writes_in_brackets, writes_list, writes_steps}
use Rattle.pg_parse_stmt.proofs.WritingParts.{writes_name, writes_names, writes_expr, writes_condition, writes_elements}
use Rattle.pg_parse_stmt.proofs.WritingSelects.{four_parts}

-- numbers, by the kind that holds them
above_integer : (n : ℕ) → nat_le 2147483648 n ≡ true → nat_le n 2147483647 ≡ false
above_integer n h = let large = leb-true 2147483648 n h in lt-leb n 2147483647 (omega (arith, large))

integer_is_token : (n : ℕ) → nat_le n 2147483647 ≡ true → is_token (token_of.Integer n) ≡ true
integer_is_token n h = let small = leb-true n 2147483647 h in le-leb n 9223372036854775807 (omega (arith, small))

-- DEFAULT
writes_literal : (v : Value) → is_literal v ≡ true → Writes (one value_of) v
unfolding value_of
writes_literal value.Null h = writes_one value_of (token_of.Keyword k.Null) value.Null refl refl
writes_literal (value.Bool true) h = writes_one value_of (token_of.Keyword k.True) (value.Bool true) refl refl
writes_literal (value.Bool false) h = writes_one value_of (token_of.Keyword k.False) (value.Bool false) refl refl
writes_literal (value.Int (pos n)) h =
    writes_one value_of (token_of.Integer n) (value.Int (pos n)) (integer_read n h)
    (integer_is_token n (and_parts (nat_le 0 n) (nat_le n 2147483647) h).1)
writes_literal (value.Int (negsuc n)) h = absurd (cc h)
writes_literal (value.Big (pos n)) h =
    writes_one value_of (token_of.Integer n) (value.Big (pos n)) (bigint_read n h)
    (and_parts (nat_le 2147483648 n) (nat_le n 9223372036854775807) h).1
writes_literal (value.Big (negsuc n)) h = absurd (cc h)
writes_literal (value.Text text) h = writes_one value_of (token_of.Quoted text) (value.Text text) refl h

writes_negative : (v : Value) → is_negative v ≡ true → Writes (one negative_of) v
unfolding negative_of
writes_negative (value.Int (negsuc n)) h =
    writes_one negative_of (token_of.Integer (suc n)) (value.Int (negsuc n)) (rw h refl) (integer_is_token (suc n) h)
writes_negative (value.Big (negsuc n)) h =
    let parts = and_parts (nat_le 2147483648 (suc n)) (nat_le (suc n) 9223372036854775807) h in
    let other = above_integer (suc n) parts.0 in
    let fits = parts.1 in
    writes_one negative_of (token_of.Integer (suc n)) (value.Big (negsuc n)) (rw other (rw fits refl)) fits
writes_negative (value.Int (pos n)) h = absurd (cc h)
writes_negative (value.Big (pos n)) h = absurd (cc h)
writes_negative value.Null h = absurd (cc h)
writes_negative (value.Bool truth) h = absurd (cc h)
writes_negative (value.Text text) h = absurd (cc h)

writes_default : (v : Value) → (is_literal v || is_negative v) ≡ true → Writes default v
unfolding default
writes_default v h =
    elim (or_cases (is_literal v) (is_negative v) h) [
      | inl plain ↦ writes_left _ _ v (writes_literal v plain)
      | inr below ↦ writes_right _ _ v (writes_sign s.Minus _ v (writes_negative v below))
    ]

-- the first words of constraints
constraint_token : ConstraintWord → Token
constraint_token constraint_word.Primary = token_of.Keyword k.Primary
constraint_token constraint_word.Unique = token_of.Keyword k.Unique
constraint_token constraint_word.Check = token_of.Keyword k.Check

constraint_is_token : (w : ConstraintWord) → is_token (constraint_token w) ≡ true
unfolding constraint_token
constraint_is_token constraint_word.Primary = refl
constraint_is_token constraint_word.Unique = refl
constraint_is_token constraint_word.Check = refl

constraint_read : (w : ConstraintWord) → constraint_of (constraint_token w) ≡ Some w
unfolding constraint_token constraint_of
constraint_read constraint_word.Primary = refl
constraint_read constraint_word.Unique = refl
constraint_read constraint_word.Check = refl

rule_read : (w : ConstraintWord) → rule_of (constraint_token w) ≡ Some (rule_word.Unnamed w)
unfolding constraint_token rule_of
rule_read constraint_word.Primary = refl
rule_read constraint_word.Unique = refl
rule_read constraint_word.Check = refl

writes_constraint_word : (w : ConstraintWord) → Writes (one constraint_of) w
writes_constraint_word w = writes_one constraint_of (constraint_token w) w (constraint_read w) (constraint_is_token w)

-- the rules of a column
column_word : ColumnConstraint → ConstraintWord
column_word column_constraint.Primary = constraint_word.Primary
column_word column_constraint.Unique = constraint_word.Unique
column_word (column_constraint.Check e) = constraint_word.Check

writes_column_constraint : (c : ColumnConstraint) → is_column_constraint c ≡ true →
    Writes (column_constraint_behind (column_word c)) c
unfolding column_word column_constraint_behind
writes_column_constraint column_constraint.Primary h = writes_word k.Key _ _ (writes_gives column_constraint.Primary)
writes_column_constraint column_constraint.Unique h = writes_gives column_constraint.Unique
writes_column_constraint (column_constraint.Check e) h =
    writes_bind (in_brackets expr) _ e _ (writes_in_brackets expr e (writes_expr e h))
    (writes_gives (column_constraint.Check e))

writes_column_named : (n : Option (List ℕ)) (c : ColumnConstraint) → is_column_constraint c ≡ true →
    Writes (column_constraint_named n (column_word c)) (column_rule.Constraint n c)
unfolding column_constraint_named
writes_column_named n c h =
    writes_bind (column_constraint_behind (column_word c)) _ c _ (writes_column_constraint c h)
    (writes_gives (column_rule.Constraint n c))

writes_rule_by : (list : List ColumnRule) (t : Token) (w : RuleWord) (r : ColumnRule) → rule_of t ≡ Some w →
    is_token t ≡ true → Writes (column_rule_behind w) r → Writes (next_rule list) (list ++ r ∷ [])
unfolding next_rule
writes_rule_by list t w r e a written =
    writes_bind (one rule_of) _ w _ (writes_one rule_of t w e a)
    (writes_bind (column_rule_behind w) _ r _ written (writes_gives (list ++ r ∷ [])))

writes_next_rule : (list : List ColumnRule) (r : ColumnRule) → is_column_rule r ≡ true →
    Writes (next_rule list) (list ++ r ∷ [])
unfolding column_rule_behind rule_of
writes_next_rule list column_rule.NotNull h =
    writes_rule_by list (token_of.Keyword k.Not) rule_word.Not column_rule.NotNull refl refl
    (writes_word k.Null _ _ (writes_gives column_rule.NotNull))
writes_next_rule list (column_rule.Default v) h =
    writes_rule_by list (token_of.Keyword k.Default) rule_word.Default (column_rule.Default v) refl refl
    (writes_bind default _ v _ (writes_default v h) (writes_gives (column_rule.Default v)))
writes_next_rule list (column_rule.Constraint None c) h =
    writes_rule_by list (constraint_token (column_word c)) (rule_word.Unnamed (column_word c))
    (column_rule.Constraint None c)
    (rule_read (column_word c)) (constraint_is_token (column_word c)) (writes_column_named None c h)
writes_next_rule list (column_rule.Constraint (Some n) c) h =
    let parts = and_parts (is_free_name n) (is_column_constraint c) h in
    writes_rule_by list (token_of.Keyword k.Constraint) rule_word.Named (column_rule.Constraint (Some n) c) refl refl
    (writes_bind name _ n _ (writes_name n parts.0)
    (writes_bind (one constraint_of) _ (column_word c) _ (writes_constraint_word (column_word c))
    (writes_column_named (Some n) c parts.1)))

writes_kind : (type_name : Kind) → Writes (one kind_of) type_name
unfolding kind_of
writes_kind kind.Bool = writes_one kind_of (token_of.Keyword k.Bool) kind.Bool refl refl
writes_kind kind.Int = writes_one kind_of (token_of.Keyword k.Int) kind.Int refl refl
writes_kind kind.Big = writes_one kind_of (token_of.Keyword k.Bigint) kind.Big refl refl
writes_kind kind.Text = writes_one kind_of (token_of.Keyword k.Text) kind.Text refl refl

-- the constraints of a table
table_word : TableConstraint → ConstraintWord
table_word (table_constraint.Primary c) = constraint_word.Primary
table_word (table_constraint.Unique c) = constraint_word.Unique
table_word (table_constraint.Check e) = constraint_word.Check

writes_table_constraint : (c : TableConstraint) → is_table_constraint c ≡ true →
    Writes (table_constraint_behind (table_word c)) c
unfolding table_word table_constraint_behind
writes_table_constraint (table_constraint.Primary c) h =
    writes_word k.Key _ _ (writes_bind (in_brackets names) _ c _ (writes_in_brackets names c (writes_names c h))
    (writes_gives (table_constraint.Primary c)))
writes_table_constraint (table_constraint.Unique c) h =
    writes_bind (in_brackets names) _ c _ (writes_in_brackets names c (writes_names c h))
    (writes_gives (table_constraint.Unique c))
writes_table_constraint (table_constraint.Check e) h =
    writes_bind (in_brackets expr) _ e _ (writes_in_brackets expr e (writes_expr e h))
    (writes_gives (table_constraint.Check e))

writes_part : (p : TablePart) → is_part p ≡ true → Writes part p
unfolding part column_part constraint_part
writes_part (part_of.Column c) h =
    let parts = and_parts (is_free_name c.name) (list_all is_column_rule c.rules) h in
    writes_left _ _ _ (writes_bind name _ c.name _ (writes_name c.name parts.0)
    (writes_bind (one kind_of) _ c.kind _ (writes_kind c.kind)
    (writes_bind (more next_rule []) _ c.rules _
    (writes_steps is_column_rule next_rule writes_next_rule c.rules [] parts.1)
    (writes_gives (part_of.Column c)))))
writes_part (part_of.Constraint n c) h =
    let parts = and_parts (none_or is_free_name n) (is_table_constraint c) h in
    writes_right _ _ _ (writes_bind (optional (word k.Constraint name)) _ n _
    (writes_optional is_free_name (word k.Constraint name) (λ m g. writes_word k.Constraint name m
    (writes_name m g)) n parts.0)
    (writes_bind (bind (one constraint_of) table_constraint_behind) _ c _
    (writes_bind (one constraint_of) table_constraint_behind (table_word c) c (writes_constraint_word (table_word c))
    (writes_table_constraint c parts.1))
    (writes_gives (part_of.Constraint n c))))

pub writes_create_table : (q : CreateTable) → is_create_table q ≡ true → Writes create_table (stmt.CreateTable q)
unfolding create_table
writes_create_table q h =
    let parts = and_parts (is_free_name q.name) (some_and_all is_part q.parts) h in
    writes_word k.Table _ _ (writes_bind name _ q.name _ (writes_name q.name parts.0)
    (writes_bind (in_brackets (list_of part)) _ q.parts _
    (writes_in_brackets (list_of part) q.parts (writes_list is_part part writes_part q.parts parts.1))
    (writes_gives (stmt.CreateTable q))))

pub writes_create_index : (q : CreateIndex) → is_create_index q ≡ true → Writes create_index (stmt.CreateIndex q)
unfolding create_index
writes_create_index q h =
    let tests = four_parts _ _ _ _ h in
    writes_word k.Unique _ _ (writes_word k.Index _ _ (writes_bind name _ q.name _ (writes_name q.name tests.0)
    (writes_word k.On _ _ (writes_bind name _ q.table _ (writes_name q.table tests.1)
    (writes_bind elements _ q.elements _ (writes_elements q.elements tests.2)
    (writes_bind condition _ q.predicate _ (writes_condition q.predicate tests.3)
    (writes_gives (stmt.CreateIndex q))))))))
