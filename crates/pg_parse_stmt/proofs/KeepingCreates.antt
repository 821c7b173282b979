-- CREATE TABLE and CREATE UNIQUE INDEX pass their tests where they are read.
use Rattle.std.proofs.Common.{◌≡◌, ℕ, true, List, [], Option, Some, None, refl}
use Rattle.pg_parse_stmt.proofs.Common.{list_all, keeps_more, is_free_name, is_token, none_or, is_column_constraint, is_column_rule, is_table_constraint, is_part, is_statement, default, column_constraint_behind, column_constraint_named, column_rule_behind, next_rule, column_part, table_constraint_behind, constraint_part, part, create_table, create_index, ColumnRule, ConstraintWord, RuleWord}
use Rattle.pg_parse_stmt.specs.declared.word.ConstraintWord.TheVariants as constraint_word
use Rattle.pg_parse_stmt.specs.declared.word.RuleWord.TheVariants as rule_word
use Rattle.pg_parse_stmt.proofs.Keeping.{free_one, Reading, both, all_and_one, reading_gives, reading_word, reading_sign, reading_bind, reading_either, reading_optional, reading_in_brackets, reading_list}
use Rattle.pg_parse_stmt.proofs.KeepingTokens.{is_default, reading_value_of, reading_negative_of}
use Rattle.pg_parse_stmt.proofs.KeepingParts.{reading_name, reading_names, reading_expr, reading_condition, reading_elements}

-- the rules of a column
reading_default : Reading default is_default
unfolding default
reading_default = reading_either reading_value_of (reading_sign reading_negative_of)

reading_column_constraint : (w : ConstraintWord) → Reading (column_constraint_behind w) is_column_constraint
unfolding column_constraint_behind
reading_column_constraint constraint_word.Primary = reading_word (reading_gives refl)
reading_column_constraint constraint_word.Unique = reading_gives refl
reading_column_constraint constraint_word.Check =
    reading_bind (reading_in_brackets reading_expr) (λ e h. reading_gives h)

reading_constraint_named : (n : Option (List ℕ)) (w : ConstraintWord) → none_or is_free_name n ≡ true →
    Reading (column_constraint_named n w) is_column_rule
unfolding column_constraint_named
reading_constraint_named n w h = reading_bind (reading_column_constraint w) (λ c g. reading_gives (both h g))

reading_column_rule : (w : RuleWord) → Reading (column_rule_behind w) is_column_rule
unfolding column_rule_behind
reading_column_rule rule_word.Not = reading_word (reading_gives refl)
reading_column_rule rule_word.Default = reading_bind reading_default (λ v h. reading_gives h)
reading_column_rule rule_word.Named =
    reading_bind reading_name (λ n h. reading_bind free_one (λ w u. reading_constraint_named (Some n) w h))
reading_column_rule (rule_word.Unnamed w) = reading_constraint_named None w refl

reading_next_rule : (list : List ColumnRule) → list_all is_column_rule list ≡ true →
    Reading (next_rule list) (list_all is_column_rule)
unfolding next_rule
reading_next_rule list h =
    reading_bind free_one
    (λ w u. reading_bind (reading_column_rule w) (λ r g. reading_gives (all_and_one is_column_rule list r h g)))

-- the parts of a table
reading_column_part : Reading column_part is_part
unfolding column_part
reading_column_part =
    reading_bind reading_name
    (λ n h. reading_bind free_one
    (λ t u. reading_bind (keeps_more is_token
    (λ list. list_all is_column_rule list ≡ true) next_rule reading_next_rule [] refl)
    (λ r g. reading_gives (both h g))))

reading_table_constraint : (w : ConstraintWord) → Reading (table_constraint_behind w) is_table_constraint
unfolding table_constraint_behind
reading_table_constraint constraint_word.Primary =
    reading_word (reading_bind (reading_in_brackets reading_names) (λ c h. reading_gives h))
reading_table_constraint constraint_word.Unique =
    reading_bind (reading_in_brackets reading_names) (λ c h. reading_gives h)
reading_table_constraint constraint_word.Check =
    reading_bind (reading_in_brackets reading_expr) (λ e h. reading_gives h)

reading_constraint_part : Reading constraint_part is_part
unfolding constraint_part
reading_constraint_part =
    reading_bind (reading_optional (reading_word reading_name))
    (λ n h. reading_bind (reading_bind free_one (λ w u. reading_table_constraint w)) (λ c g. reading_gives (both h g)))

reading_part : Reading part is_part
unfolding part
reading_part = reading_either reading_column_part reading_constraint_part

-- the statements
pub reading_create_table : Reading create_table is_statement
unfolding create_table
reading_create_table =
    reading_word (reading_bind reading_name
    (λ n h. reading_bind (reading_in_brackets (reading_list is_part part reading_part))
    (λ p g. reading_gives (both h g))))

pub reading_create_index : Reading create_index is_statement
unfolding create_index
reading_create_index =
    reading_word (reading_word (reading_bind reading_name
    (λ n a. reading_word (reading_bind reading_name
    (λ t b. reading_bind reading_elements
    (λ e d. reading_bind reading_condition (λ c g. reading_gives (both (both (both a b) d) g))))))))
