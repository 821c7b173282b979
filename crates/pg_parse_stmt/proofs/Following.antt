-- Which words and signs stand behind which parts, and which go on with them.
use Rattle.std.proofs.Common.{◌≡◌, true, false, Option, Some, None, refl}
use Rattle.pg_parse_stmt.proofs.Common.{false≢true, Token, Link, Direction, spelling, behind_comparison, behind_concatenation, behind_conjunction, behind_expr, behind_factor, behind_predicate, behind_product, behind_sum, has, and_op, compare_op, concat_op, or_op, product_op, sum_op, behind_as, behind_columns, behind_condition, behind_conflict, behind_direction, behind_from, behind_guard, behind_item, behind_items, behind_joined, behind_list, behind_nulls, behind_of, behind_on_conflict, behind_sets, behind_statement, behind_subselect, behind_table, behind_target, behind_tuples, behind_wait, begins_alias, is_comma, is_open, is_word, direction_of, link_of}
use Rattle.pg_lexer.specs.declared.keyword.Keyword.TheVariants as k
use Rattle.pg_lexer.specs.declared.sign.Sign.TheVariants as s
use Rattle.pg_lexer.specs.declared.token.Token.TheVariants as t

-- behind_expr
pub as_behind_expr : behind_expr (Some (t.Keyword k.As)) ≡ true
unfolding behind_expr behind_conjunction has or_op and_op behind_predicate behind_comparison behind_concatenation
    compare_op behind_sum concat_op behind_product sum_op behind_factor product_op
as_behind_expr = refl

pub expr_direction : (u : Token) (d : Direction) → direction_of u ≡ Some d → behind_expr (Some u) ≡ true
unfolding direction_of behind_expr behind_conjunction has or_op and_op behind_predicate behind_comparison
    behind_concatenation compare_op behind_sum concat_op behind_product sum_op behind_factor product_op
expr_direction (t.Keyword k.Asc) d e = refl
expr_direction (t.Keyword k.Desc) d e = refl
expr_direction _ d e = absurd (let o : None ≡ Some d = e in cc o)

pub nulls_behind_expr : behind_expr (Some (t.Keyword k.Nulls)) ≡ true
unfolding behind_expr behind_conjunction has or_op and_op behind_predicate behind_comparison behind_concatenation
    compare_op behind_sum concat_op behind_product sum_op behind_factor product_op
nulls_behind_expr = refl

pub values_behind_columns : behind_columns (Some (t.Keyword k.Values)) ≡ true
unfolding behind_columns is_open
values_behind_columns = refl

pub on_behind_table : behind_table (Some (t.Keyword k.On)) ≡ true
unfolding behind_table begins_alias
on_behind_table = refl

pub subselect_end_behind_condition : (o : Option Token) → behind_subselect o ≡ true → behind_condition o ≡ true
unfolding behind_subselect behind_condition behind_expr is_word behind_conjunction has or_op spelling and_op
    behind_predicate behind_comparison behind_concatenation compare_op behind_sum concat_op behind_product sum_op
    behind_factor product_op
subselect_end_behind_condition None e = refl
subselect_end_behind_condition (Some (t.Sign s.Close)) e = refl
subselect_end_behind_condition (Some (t.Sign s.Semicolon)) e = refl
subselect_end_behind_condition (Some (t.Keyword k.On)) e = refl
subselect_end_behind_condition (Some (t.Keyword k.Returning)) e = refl
subselect_end_behind_condition _ e = absurd (false≢true e)

-- behind_item
pub none_follows : behind_item None ≡ true
unfolding behind_item behind_as behind_expr is_word behind_conjunction has or_op spelling and_op behind_predicate
    behind_comparison behind_concatenation compare_op behind_sum concat_op behind_product sum_op behind_factor
    product_op
none_follows = refl

-- behind_items
pub from_behind_items : behind_items (Some (t.Keyword k.From)) ≡ true
unfolding behind_items behind_item behind_list behind_as behind_expr is_comma is_word behind_conjunction has or_op
    spelling and_op behind_predicate behind_comparison behind_concatenation compare_op behind_sum concat_op
    behind_product sum_op behind_factor product_op
from_behind_items = refl

pub when_behind_sets : behind_sets (Some (t.Keyword k.When)) ≡ true
unfolding behind_sets behind_expr behind_list behind_conjunction has or_op is_comma and_op behind_predicate
    behind_comparison behind_concatenation compare_op behind_sum concat_op behind_product sum_op behind_factor
    product_op
when_behind_sets = refl

pub where_behind_sets : behind_sets (Some (t.Keyword k.Where)) ≡ true
unfolding behind_sets behind_expr behind_list behind_conjunction has or_op is_comma and_op behind_predicate
    behind_comparison behind_concatenation compare_op behind_sum concat_op behind_product sum_op behind_factor
    product_op
where_behind_sets = refl

-- behind_tuples
pub close_behind_tuples : behind_tuples (Some (t.Sign s.Close)) ≡ true
unfolding behind_tuples behind_list is_comma
close_behind_tuples = refl

-- behind_joined
pub link_behind : (u : Token) (l : Link) → link_of u ≡ Some l → behind_joined (Some u) ≡ true
unfolding link_of behind_joined behind_expr behind_table behind_conjunction has or_op begins_alias and_op
    behind_predicate behind_comparison behind_concatenation compare_op behind_sum concat_op behind_product sum_op
    behind_factor product_op
link_behind (t.Sign s.Comma) l e = refl
link_behind (t.Keyword k.Inner) l e = refl
link_behind (t.Keyword k.Join) l e = refl
link_behind _ l e = absurd (let o : None ≡ Some l = e in cc o)

pub subselect_end_behind_from : (o : Option Token) → behind_subselect o ≡ true → behind_from o ≡ true
unfolding behind_subselect behind_from behind_joined has link_of behind_expr behind_table behind_conjunction or_op
    begins_alias and_op behind_predicate behind_comparison behind_concatenation compare_op behind_sum concat_op
    behind_product sum_op behind_factor product_op
subselect_end_behind_from None e = refl
subselect_end_behind_from (Some (t.Sign s.Close)) e = refl
subselect_end_behind_from (Some (t.Sign s.Semicolon)) e = refl
subselect_end_behind_from (Some (t.Keyword k.On)) e = refl
subselect_end_behind_from (Some (t.Keyword k.Returning)) e = refl
subselect_end_behind_from _ e = absurd (false≢true e)

pub where_behind_from : behind_from (Some (t.Keyword k.Where)) ≡ true
unfolding behind_from behind_joined has link_of behind_expr behind_table behind_conjunction or_op begins_alias and_op
    behind_predicate behind_comparison behind_concatenation compare_op behind_sum concat_op behind_product sum_op
    behind_factor product_op
where_behind_from = refl

-- behind_subselect
pub close_behind_subselect : behind_subselect (Some (t.Sign s.Close)) ≡ true
unfolding behind_subselect
close_behind_subselect = refl

-- behind_direction
pub nulls_behind_direction : behind_direction (Some (t.Keyword k.Nulls)) ≡ true
unfolding behind_direction direction_of has
nulls_behind_direction = refl

-- behind_nulls
pub nulls_goes_on_nulls : behind_nulls (Some (t.Keyword k.Nulls)) ≡ false
unfolding behind_nulls is_word spelling
nulls_goes_on_nulls = refl

-- behind_wait
pub nowait_goes_on_wait : behind_wait (Some (t.Keyword k.Nowait)) ≡ false
unfolding behind_wait is_word spelling
nowait_goes_on_wait = refl

pub skip_goes_on_wait : behind_wait (Some (t.Keyword k.Skip)) ≡ false
unfolding behind_wait is_word spelling
skip_goes_on_wait = refl

-- behind_of
pub nowait_behind_of : behind_of (Some (t.Keyword k.Nowait)) ≡ true
unfolding behind_of is_word spelling
nowait_behind_of = refl

pub skip_behind_of : behind_of (Some (t.Keyword k.Skip)) ≡ true
unfolding behind_of is_word spelling
skip_behind_of = refl

-- behind_target
pub do_behind_target : behind_target (Some (t.Keyword k.Do)) ≡ true
unfolding behind_target behind_condition is_word behind_expr spelling behind_conjunction has or_op and_op
    behind_predicate behind_comparison behind_concatenation compare_op behind_sum concat_op behind_product sum_op
    behind_factor product_op
do_behind_target = refl

pub on_goes_on_target : behind_target (Some (t.Keyword k.On)) ≡ false
unfolding behind_target behind_condition is_word behind_expr spelling behind_conjunction has or_op and_op
    behind_predicate behind_comparison behind_concatenation compare_op behind_sum concat_op behind_product sum_op
    behind_factor product_op
on_goes_on_target = refl

pub open_goes_on_target : behind_target (Some (t.Sign s.Open)) ≡ false
unfolding behind_target behind_condition is_word behind_expr spelling behind_conjunction has or_op and_op
    behind_predicate behind_comparison behind_concatenation compare_op behind_sum concat_op behind_product sum_op
    behind_factor product_op
open_goes_on_target = refl

-- behind_on_conflict
pub end_behind_on_conflict : (o : Option Token) → behind_statement o ≡ true → behind_on_conflict o ≡ true
unfolding behind_statement behind_on_conflict behind_conflict is_word behind_sets spelling behind_expr behind_list
    behind_conjunction has or_op is_comma and_op behind_predicate behind_comparison behind_concatenation compare_op
    behind_sum concat_op behind_product sum_op behind_factor product_op
end_behind_on_conflict None e = refl
end_behind_on_conflict (Some (t.Sign s.Semicolon)) e = refl
end_behind_on_conflict _ e = absurd (false≢true e)

pub on_goes_on_on_conflict : behind_on_conflict (Some (t.Keyword k.On)) ≡ false
unfolding behind_on_conflict behind_conflict is_word behind_sets spelling behind_expr behind_list behind_conjunction has
    or_op is_comma and_op behind_predicate behind_comparison behind_concatenation compare_op behind_sum concat_op
    behind_product sum_op behind_factor product_op
on_goes_on_on_conflict = refl

pub returning_behind_on_conflict : behind_on_conflict (Some (t.Keyword k.Returning)) ≡ true
unfolding behind_on_conflict behind_conflict is_word behind_sets spelling behind_expr behind_list behind_conjunction has
    or_op is_comma and_op behind_predicate behind_comparison behind_concatenation compare_op behind_sum concat_op
    behind_product sum_op behind_factor product_op
returning_behind_on_conflict = refl

-- behind_guard
pub then_behind_guard : behind_guard (Some (t.Keyword k.Then)) ≡ true
unfolding behind_guard behind_expr is_word behind_conjunction has or_op spelling and_op behind_predicate
    behind_comparison behind_concatenation compare_op behind_sum concat_op behind_product sum_op behind_factor
    product_op
then_behind_guard = refl
