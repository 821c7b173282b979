-- Constraints, and the parts of CREATE TABLE
use Rattle.std.proofs.Common.{◌≡◌, ◌∷◌, ℕ, List, length, Option, None}
use Rattle.pg_parse_stmt.proofs.Common.{Fault, Syntax, gives, Misses, Seen, read, failed, Reads, Spelled, spelled_gives, spelled_token, Token, expr, Tree, any, in_brackets, spelled_expr, names, default, column_constraint_behind, column_constraint_named, column_rule_behind, table_constraint_behind, spelled_in_brackets, spelled_names, Value, ConstraintWord, ColumnConstraint, ColumnRule}
use Rattle.pg_lexer.specs.declared.keyword.Keyword.TheVariants as k
use Rattle.pg_lexer.specs.declared.token.Token.TheVariants as t
use Rattle.pg_parse_stmt.specs.declared.word.ConstraintWord.TheVariants as constraint_word
use Rattle.pg_parse_stmt.specs.declared.word.RuleWord.TheVariants as rule_word
use Rattle.pg_parse_stmt.specs.declared.tree.ColumnConstraint.TheVariants as column_constraint
use Rattle.pg_parse_stmt.specs.declared.tree.ColumnRule.TheVariants as column_rule
use Rattle.pg_parse_stmt.specs.declared.tree.TableConstraint.TheVariants as table_constraint
use Rattle.pg_parse_stmt.proofs.Forms.{nothing, word_then, no_word, word_alone, no_word_alone, made_read, made_failed, spelled_made}

module _ (xs ys zs : List Token) (l : ℕ) where
  -- a column's constraint, by its word
  pub column_check_read : (v : Tree) → Reads (in_brackets expr) any xs (read v ys) →
      Reads (column_constraint_behind constraint_word.Check) any xs (read (column_constraint.Check v) ys)
  unfolding column_constraint_behind
  column_check_read v r = made_read r

  pub column_check_failed : (f : Fault) → Reads (in_brackets expr) any xs (failed f) →
      Reads (column_constraint_behind constraint_word.Check) any xs (failed f)
  unfolding column_constraint_behind
  column_check_failed f r = made_failed r

  pub column_primary_read : xs ≡ t.Keyword k.Key ∷ ys →
      Reads (column_constraint_behind constraint_word.Primary) any xs (read column_constraint.Primary ys)
  unfolding column_constraint_behind
  column_primary_read e = word_alone e

  pub column_primary_no_key : Misses (t.Keyword k.Key) xs → l ≡ length xs →
      Reads (column_constraint_behind constraint_word.Primary) any xs (failed (Syntax l))
  unfolding column_constraint_behind
  column_primary_no_key miss q = no_word_alone miss q

  pub column_unique_read :
      Reads (column_constraint_behind constraint_word.Unique) any xs (read column_constraint.Unique xs)
  unfolding column_constraint_behind
  column_unique_read = nothing

  -- a column's rule, by its word
  pub rule_not_null : xs ≡ t.Keyword k.Null ∷ ys →
      Reads (column_rule_behind rule_word.Not) any xs (read column_rule.NotNull ys)
  unfolding column_rule_behind
  rule_not_null e = word_alone e

  pub rule_no_null : Misses (t.Keyword k.Null) xs → l ≡ length xs →
      Reads (column_rule_behind rule_word.Not) any xs (failed (Syntax l))
  unfolding column_rule_behind
  rule_no_null miss q = no_word_alone miss q

  pub rule_default_read : (v : Value) → Reads default any xs (read v ys) →
      Reads (column_rule_behind rule_word.Default) any xs (read (column_rule.Default v) ys)
  unfolding column_rule_behind
  rule_default_read v r = made_read r

  pub rule_default_failed : (f : Fault) → Reads default any xs (failed f) →
      Reads (column_rule_behind rule_word.Default) any xs (failed f)
  unfolding column_rule_behind
  rule_default_failed f r = made_failed r

  -- a table's constraint, by its word
  pub table_unique_read : (v : List (List ℕ)) → Reads (in_brackets names) any xs (read v ys) →
      Reads (table_constraint_behind constraint_word.Unique) any xs (read (table_constraint.Unique v) ys)
  unfolding table_constraint_behind
  table_unique_read v r = made_read r

  pub table_unique_failed : (f : Fault) → Reads (in_brackets names) any xs (failed f) →
      Reads (table_constraint_behind constraint_word.Unique) any xs (failed f)
  unfolding table_constraint_behind
  table_unique_failed f r = made_failed r

  pub table_check_read : (v : Tree) → Reads (in_brackets expr) any xs (read v ys) →
      Reads (table_constraint_behind constraint_word.Check) any xs (read (table_constraint.Check v) ys)
  unfolding table_constraint_behind
  table_check_read v r = made_read r

  pub table_check_failed : (f : Fault) → Reads (in_brackets expr) any xs (failed f) →
      Reads (table_constraint_behind constraint_word.Check) any xs (failed f)
  unfolding table_constraint_behind
  table_check_failed f r = made_failed r

  pub table_primary_no_key : Misses (t.Keyword k.Key) xs → l ≡ length xs →
      Reads (table_constraint_behind constraint_word.Primary) any xs (failed (Syntax l))
  unfolding table_constraint_behind
  table_primary_no_key miss q = no_word (spelled_made (spelled_in_brackets names spelled_names)) miss q

  pub table_primary_failed : (f : Fault) → xs ≡ t.Keyword k.Key ∷ ys → Reads (in_brackets names) any ys (failed f) →
      Reads (table_constraint_behind constraint_word.Primary) any xs (failed f)
  unfolding table_constraint_behind
  table_primary_failed f e r = word_then e (made_failed r)

  pub table_primary_read : (v : List (List ℕ)) → xs ≡ t.Keyword k.Key ∷ ys →
      Reads (in_brackets names) any ys (read v zs) →
      Reads (table_constraint_behind constraint_word.Primary) any xs (read (table_constraint.Primary v) zs)
  unfolding table_constraint_behind
  table_primary_read v e r = word_then e (made_read r)

spelled_column_constraint : (w : ConstraintWord) → Spelled (column_constraint_behind w)
unfolding column_constraint_behind
spelled_column_constraint constraint_word.Primary =
    spelled_token (t.Keyword k.Key) (gives column_constraint.Primary) (spelled_gives column_constraint.Primary)
spelled_column_constraint constraint_word.Unique = spelled_gives column_constraint.Unique
spelled_column_constraint constraint_word.Check = spelled_made (spelled_in_brackets expr spelled_expr)

-- a column's constraint, with its name
module _ (n : Option (List ℕ)) (w : ConstraintWord) where
  pub named_constraint_read : (xs ys : List Token) (c : ColumnConstraint) →
      Reads (column_constraint_behind w) any xs (read c ys) →
      Reads (column_constraint_named n w) any xs (read (column_rule.Constraint n c) ys)
  unfolding column_constraint_named
  named_constraint_read xs ys c r = made_read r

  pub named_constraint_failed : (xs : List Token) (f : Fault) → Reads (column_constraint_behind w) any xs (failed f) →
      Reads (column_constraint_named n w) any xs (failed f)
  unfolding column_constraint_named
  named_constraint_failed xs f r = made_failed r

  pub spelled_named_constraint : Spelled (column_constraint_named n w)
  unfolding column_constraint_named
  spelled_named_constraint = spelled_made (spelled_column_constraint w)

pub rule_unnamed : (w : ConstraintWord) (xs : List Token) (o : Seen Token ColumnRule) →
    Reads (column_constraint_named None w) any xs o → Reads (column_rule_behind (rule_word.Unnamed w)) any xs o
unfolding column_rule_behind
rule_unnamed w xs o q = q

pub spelled_table_constraint : (w : ConstraintWord) → Spelled (table_constraint_behind w)
unfolding table_constraint_behind
spelled_table_constraint constraint_word.Primary =
    spelled_token (t.Keyword k.Key) _ (spelled_made (spelled_in_brackets names spelled_names))
spelled_table_constraint constraint_word.Unique = spelled_made (spelled_in_brackets names spelled_names)
spelled_table_constraint constraint_word.Check = spelled_made (spelled_in_brackets expr spelled_expr)

-- what a column's constraint answers, by its word
pub ruleset column_constraints = (column_primary_read, column_primary_no_key, column_unique_read, column_check_read, column_check_failed)

-- what a column's rule answers, by its word
pub ruleset column_rules = (rule_not_null, rule_no_null, rule_default_read, rule_default_failed, rule_unnamed)

-- what a table's constraint answers, by its word
pub ruleset table_constraints = (table_primary_no_key, table_primary_failed, table_primary_read, table_unique_read, table_unique_failed, table_check_read, table_check_failed)
