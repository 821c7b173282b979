-- One reading of the parts of tables.
use Rattle.std.proofs.Common.{◌≡◌, ◌∷◌, ◌++◌, ℕ, Bool, true, List, [], Option, Some, None, refl, ap, not, is_some}
use Rattle.pg_parse_stmt.proofs.Common.{gives, one, bind, more, Agree, agree_gives, agree_token, agree_one, agree_less, Starts, starts_one, starts_bind, Token, spelling, may_be_name, has, expr, name_of, value_of, any, is_word, behind_constraint_name, behind_part, word, sign, optional, list_of, in_brackets, name, names, default, column_constraint_behind, column_constraint_named, column_rule_behind, next_rule, column_part, table_constraint_behind, constraint_part, part, kind_of, negative_of, constraint_of, rule_of, ColumnRule, ConstraintWord, RuleWord, rank, behind}
use Rattle.pg_lexer.specs.declared.keyword.Keyword.TheVariants as k
use Rattle.pg_lexer.specs.declared.sign.Sign.TheVariants as s
use Rattle.pg_lexer.specs.declared.token.Token.TheVariants as t
use Rattle.pg_parse_stmt.specs.declared.tree.ColumnRule.TheVariants as column_rule
use Rattle.pg_parse_stmt.specs.declared.word.ConstraintWord.TheVariants as constraint_word
use Rattle.pg_parse_stmt.specs.declared.word.RuleWord.TheVariants as rule_word
use Rattle.pg_parse_stmt.proofs.AgreeParts.{agree_name, agree_name_list, agree_bracket, starts_name}
use Rattle.pg_parse_stmt.proofs.Agreements.{outside, between, starts_first, starts_has, Single, single, single_list, apart_flip, apart_token, apart_outside, agree_then, agree_free, agree_made, agree_choice, agree_optional_word, agree_brackets, agree_rest}
use Rattle.pg_parse_stmt.proofs.Steps.{starts_optional}

-- columns
agree_default : Agree default default any
unfolding default has value_of
agree_default =
    agree_choice any (one value_of) (sign s.Minus (one negative_of)) (agree_one any value_of)
    (agree_token any (t.Sign s.Minus) _ _ (agree_one any negative_of))
    (apart_flip (apart_token (has value_of) any (t.Sign s.Minus) _ _ refl (starts_has value_of any)))

agree_column_constraint : (w : ConstraintWord) → Agree (column_constraint_behind w) (column_constraint_behind w) any
unfolding column_constraint_behind
agree_column_constraint constraint_word.Primary = agree_token any (t.Keyword k.Key) _ _ (agree_gives any _)
agree_column_constraint constraint_word.Unique = agree_gives any _
agree_column_constraint constraint_word.Check = agree_made any (in_brackets expr) _ agree_bracket

agree_constraint_named : (n : Option (List ℕ)) (w : ConstraintWord) →
    Agree (column_constraint_named n w) (column_constraint_named n w) any
unfolding column_constraint_named
agree_constraint_named n w =
    agree_made any (column_constraint_behind w) (λ c. column_rule.Constraint n c) (agree_column_constraint w)

agree_column_rule : (w : RuleWord) → Agree (column_rule_behind w) (column_rule_behind w) any
unfolding column_rule_behind
agree_column_rule rule_word.Not = agree_token any (t.Keyword k.Null) _ _ (agree_gives any _)
agree_column_rule rule_word.Default = agree_made any default _ agree_default
agree_column_rule rule_word.Named =
    agree_free any name _ agree_name
    (λ n. agree_free any (one constraint_of) _ (agree_one any constraint_of) (agree_constraint_named (Some n)))
agree_column_rule (rule_word.Unnamed w) = agree_constraint_named None w

agree_next_rule : (list : List ColumnRule) → Agree (next_rule list) (next_rule list) any
unfolding next_rule
agree_next_rule list =
    agree_free any (one rule_of) _ (agree_one any rule_of)
    (λ w. agree_made any (column_rule_behind w) (λ r. list ++ r ∷ []) (agree_column_rule w))

begins_next_rule : (list : List ColumnRule) → Starts (between any behind_part) (next_rule list) any
unfolding next_rule behind_part has
begins_next_rule list =
    starts_first (between any behind_part) any (one rule_of) _
    (starts_one (between any behind_part) any rule_of (λ u w e. ap (λ x. not (not (is_some x))) e))

agree_rules : Agree (more next_rule []) (more next_rule []) behind_part
agree_rules = agree_rest any behind_part (gives []) next_rule (λ x. x) (λ o e. refl) begins_next_rule agree_next_rule []

part_follows : (o : Option Token) → behind 10 o ≡ true → behind_part o ≡ true
unfolding rank behind_part has rule_of
part_follows None b = refl
part_follows (Some (t.Keyword k.Not)) b = absurd (cc b)
part_follows (Some (t.Keyword k.Default)) b = absurd (cc b)
part_follows (Some (t.Keyword k.Constraint)) b = absurd (cc b)
part_follows (Some (t.Keyword k.Primary)) b = absurd (cc b)
part_follows (Some (t.Keyword k.Unique)) b = absurd (cc b)
part_follows (Some (t.Keyword k.Check)) b = absurd (cc b)
part_follows (Some (t.Keyword _)) b = refl
part_follows (Some _) b = refl

agree_column_part : Single 10 column_part
unfolding column_part
agree_column_part =
    agree_free (behind 10) name _ agree_name
    (λ n. agree_free (behind 10) (one kind_of) _ (agree_one any kind_of)
    (λ x. agree_made (behind 10) (more next_rule []) _ (agree_less behind_part
    (behind 10) _ _ part_follows agree_rules)))

-- constraints of tables
agree_table_constraint : (w : ConstraintWord) → Agree (table_constraint_behind w) (table_constraint_behind w) any
unfolding table_constraint_behind
agree_table_constraint constraint_word.Primary =
    agree_token any (t.Keyword k.Key) _ _ (agree_made any (in_brackets names) _ agree_name_list)
agree_table_constraint constraint_word.Unique = agree_made any (in_brackets names) _ agree_name_list
agree_table_constraint constraint_word.Check = agree_made any (in_brackets expr) _ agree_bracket

-- what begins a constraint without a name is no CONSTRAINT, and no name
constraint_unnamed : (u : Token) (w : ConstraintWord) → constraint_of u ≡ Some w →
    behind_constraint_name (Some u) ≡ true
unfolding constraint_of behind_constraint_name is_word spelling
constraint_unnamed (t.Keyword k.Primary) w e = refl
constraint_unnamed (t.Keyword k.Unique) w e = refl
constraint_unnamed (t.Keyword k.Check) w e = refl
constraint_unnamed _ w e = absurd (cc e)

constraint_no_name : (u : Token) (w : ConstraintWord) → constraint_of u ≡ Some w → outside (has name_of) (Some u) ≡ true
unfolding constraint_of has name_of may_be_name
constraint_no_name (t.Keyword k.Primary) w e = refl
constraint_no_name (t.Keyword k.Unique) w e = refl
constraint_no_name (t.Keyword k.Check) w e = refl
constraint_no_name _ w e = absurd (cc e)

agree_constraint_part : Agree constraint_part constraint_part any
unfolding constraint_part behind_constraint_name is_word spelling
agree_constraint_part =
    agree_then behind_constraint_name any (optional (word k.Constraint name)) _
    (agree_optional_word behind_constraint_name (t.Keyword k.Constraint) name refl
    (agree_less any behind_constraint_name name name (λ o e. refl) agree_name))
    (λ n. agree_made any (bind (one constraint_of) table_constraint_behind) _
    (agree_free any (one constraint_of) table_constraint_behind (agree_one any constraint_of) agree_table_constraint))
    (λ n. starts_first behind_constraint_name any (bind (one constraint_of) table_constraint_behind) _
    (starts_first behind_constraint_name any (one constraint_of) table_constraint_behind
    (starts_one behind_constraint_name any constraint_of constraint_unnamed)))

starts_constraint_part : (g : Option Token → Bool) → Starts (outside (has name_of)) constraint_part g
unfolding constraint_part has name_of may_be_name
starts_constraint_part g =
    starts_bind (outside (has name_of)) (outside (has name_of)) g (optional (word k.Constraint name)) _
    (starts_optional (t.Keyword k.Constraint) name (outside (has name_of)) refl)
    (λ n. starts_first (outside (has name_of)) g (bind (one constraint_of) table_constraint_behind) _
    (starts_first (outside (has name_of)) any (one constraint_of) table_constraint_behind
    (starts_one (outside (has name_of)) any constraint_of constraint_no_name)))

agree_part : Single 10 part
unfolding part column_part
agree_part =
    agree_choice (behind 10) (bind name _) constraint_part agree_column_part
    (single 10 constraint_part agree_constraint_part)
    (apart_outside (has name_of) (behind 10) (bind name _) constraint_part (starts_name (behind 10) _)
    (starts_constraint_part (behind 10)))

pub agree_parts : Agree (in_brackets (list_of part)) (in_brackets (list_of part)) any
unfolding rank
agree_parts = agree_brackets (behind 11) any (list_of part) refl (single_list part agree_part)
