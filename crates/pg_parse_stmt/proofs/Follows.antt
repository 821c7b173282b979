-- What stands behind a level of a statement may stand behind the parts of that level.
use Rattle.std.proofs.Common.{◌≡◌, ℕ, true, Option, Some, None, refl, not, ◌&&◌, leb}
use Rattle.pg_parse_stmt.proofs.Common.{and_from, Token, spelling, has, behind_expr, is_word, is_comma, behind_limit, behind_direction, behind_nulls, behind_locked, behind_locking, behind_of, behind_wait, behind_order_key, begins_alias, behind_list, behind_table, behind_condition, behind_item, behind_items, behind_sets, behind_joined, behind_from, behind_statement, link_of, direction_of, rank, behind}
use Rattle.pg_lexer.specs.declared.keyword.Keyword.TheVariants as k
use Rattle.pg_lexer.specs.declared.sign.Sign.TheVariants as s
use Rattle.pg_lexer.specs.declared.token.Token.TheVariants as t
use Rattle.pg_parse_stmt.proofs.AgreeParts.{expr_follows, item_follows}
use Rattle.pg_parse_stmt.proofs.Agreements.{deeper}

-- what stands behind a level is no word of a lower rank
pub table_follows : (o : Option Token) → behind 10 o ≡ true → behind_table o ≡ true
unfolding rank behind_table begins_alias
table_follows None b = refl
table_follows (Some (t.Keyword k.As)) b = absurd (cc b)
table_follows (Some (t.Keyword _)) b = refl
table_follows (Some (t.Name n)) b = absurd (cc b)
table_follows (Some _) b = refl

comma_follows : (o : Option Token) → behind 11 o ≡ true → not (is_comma o) ≡ true
unfolding rank is_comma
comma_follows None b = refl
comma_follows (Some (t.Sign s.Comma)) b = absurd (cc b)
comma_follows (Some (t.Sign _)) b = refl
comma_follows (Some _) b = refl

link_follows : (o : Option Token) → behind 11 o ≡ true → not (has link_of o) ≡ true
unfolding rank has link_of
link_follows None b = refl
link_follows (Some (t.Sign s.Comma)) b = absurd (cc b)
link_follows (Some (t.Keyword k.Inner)) b = absurd (cc b)
link_follows (Some (t.Keyword k.Join)) b = absurd (cc b)
link_follows (Some (t.Sign _)) b = refl
link_follows (Some (t.Keyword _)) b = refl
link_follows (Some _) b = refl

where_word_follows : (o : Option Token) → behind 13 o ≡ true → not (is_word k.Where o) ≡ true
unfolding rank is_word spelling
where_word_follows None b = refl
where_word_follows (Some (t.Keyword k.Where)) b = absurd (cc b)
where_word_follows (Some (t.Keyword _)) b = refl
where_word_follows (Some _) b = refl

pub limit_follows : (o : Option Token) → behind 15 o ≡ true → behind_limit o ≡ true
unfolding rank behind_limit is_word spelling
limit_follows None b = refl
limit_follows (Some (t.Keyword k.Limit)) b = absurd (cc b)
limit_follows (Some (t.Keyword _)) b = refl
limit_follows (Some _) b = refl

direction_follows : (o : Option Token) → behind 10 o ≡ true → behind_direction o ≡ true
unfolding rank behind_direction has direction_of
direction_follows None b = refl
direction_follows (Some (t.Keyword k.Asc)) b = absurd (cc b)
direction_follows (Some (t.Keyword k.Desc)) b = absurd (cc b)
direction_follows (Some (t.Keyword _)) b = refl
direction_follows (Some _) b = refl

nulls_follows : (o : Option Token) → behind 10 o ≡ true → behind_nulls o ≡ true
unfolding rank behind_nulls is_word spelling
nulls_follows None b = refl
nulls_follows (Some (t.Keyword k.Nulls)) b = absurd (cc b)
nulls_follows (Some (t.Keyword _)) b = refl
nulls_follows (Some _) b = refl

pub locking_follows : (o : Option Token) → behind 18 o ≡ true → behind_locking o ≡ true
unfolding rank behind_locking behind_locked behind_of behind_wait is_word spelling
locking_follows None b = refl
locking_follows (Some (t.Keyword k.For)) b = absurd (cc b)
locking_follows (Some (t.Keyword k.Of)) b = absurd (cc b)
locking_follows (Some (t.Keyword k.Nowait)) b = absurd (cc b)
locking_follows (Some (t.Keyword k.Skip)) b = absurd (cc b)
locking_follows (Some (t.Keyword _)) b = refl
locking_follows (Some _) b = refl

-- behind a statement stand the end and `;`
pub statement_follows : (o : Option Token) → behind_statement o ≡ true → behind 18 o ≡ true
unfolding rank behind_statement
statement_follows None b = refl
statement_follows (Some (t.Sign s.Semicolon)) b = refl
statement_follows _ b = absurd (cc b)

pub statement_behind : (i : ℕ) → leb i 18 ≡ true → (o : Option Token) → behind_statement o ≡ true → behind i o ≡ true
statement_behind i h o b = deeper i 18 h o (statement_follows o b)

pub sets_follows : (o : Option Token) → behind 11 o ≡ true → behind_sets o ≡ true
unfolding behind_sets behind_list
sets_follows o b = and_from (behind_expr o) (not (is_comma o)) (expr_follows o (deeper 8 11 refl o b)) (comma_follows o b)

pub from_follows : (o : Option Token) → behind 11 o ≡ true → behind_from o ≡ true
unfolding behind_from behind_joined
from_follows o b =
    and_from (behind_joined o) (not (has link_of o))
    (and_from (behind_table o) (behind_expr o) (table_follows o (deeper 10 11 refl o b))
    (expr_follows o (deeper 8 11 refl o b))) (link_follows o b)

pub condition_follows : (o : Option Token) → behind 13 o ≡ true → behind_condition o ≡ true
unfolding behind_condition
condition_follows o b =
    and_from (behind_expr o) (not (is_word k.Where o)) (expr_follows o (deeper 8 13 refl o b)) (where_word_follows o b)

pub items_follows : (o : Option Token) → behind 11 o ≡ true → behind_items o ≡ true
unfolding behind_items behind_list
items_follows o b =
    and_from (behind_item o) (not (is_comma o)) (item_follows o (deeper 10 11 refl o b)) (comma_follows o b)

pub order_keys_follow : (o : Option Token) → behind 14 o ≡ true → behind_list behind_order_key o ≡ true
unfolding behind_list behind_order_key
order_keys_follow o b =
    and_from (behind_order_key o) (not (is_comma o))
    (and_from (behind_expr o && behind_direction o) (behind_nulls o)
    (and_from (behind_expr o) (behind_direction o) (expr_follows o (deeper 8 14 refl o b))
    (direction_follows o (deeper 10 14 refl o b))) (nulls_follows o (deeper 10 14 refl o b)))
    (comma_follows o (deeper 11 14 refl o b))
