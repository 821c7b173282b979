-- Tokens that may stand behind parts.
use Rattle.std.proofs.Common.{◌≡◌, true, refl, Some}
use Rattle.pg_lexer.specs.declared.sign.Sign.TheVariants as s
use Rattle.pg_lexer.specs.declared.token.Token.TheVariants as t
use Rattle.pg_parse_expr.specs.Behind.{has, behind_factor, behind_product, behind_sum, behind_concatenation, behind_comparison, behind_predicate, behind_conjunction, behind_expr}
use Rattle.pg_parse_expr.specs.Operators.{or_op, and_op, compare_op, concat_op, sum_op, product_op}
use Rattle.pg_parse_stmt.specs.Words.{direction_of, rule_of}
use Rattle.pg_parse_stmt.specs.Behind.{is_word, behind_as, behind_item, behind_direction, behind_nulls, behind_order_key, behind_wait, behind_of, behind_locked, behind_part}

pub behind_expr_comma : behind_expr (Some (t.Sign s.Comma)) ≡ true
unfolding has behind_factor behind_product behind_sum behind_concatenation behind_comparison behind_predicate behind_conjunction behind_expr or_op and_op compare_op concat_op sum_op product_op
behind_expr_comma = refl

pub behind_expr_close : behind_expr (Some (t.Sign s.Close)) ≡ true
unfolding has behind_factor behind_product behind_sum behind_concatenation behind_comparison behind_predicate behind_conjunction behind_expr or_op and_op compare_op concat_op sum_op product_op
behind_expr_close = refl

pub behind_item_comma : behind_item (Some (t.Sign s.Comma)) ≡ true
unfolding behind_item behind_as is_word has behind_factor behind_product behind_sum behind_concatenation behind_comparison behind_predicate behind_conjunction behind_expr or_op and_op compare_op concat_op sum_op product_op
behind_item_comma = refl

pub behind_item_close : behind_item (Some (t.Sign s.Close)) ≡ true
unfolding behind_item behind_as is_word has behind_factor behind_product behind_sum behind_concatenation behind_comparison behind_predicate behind_conjunction behind_expr or_op and_op compare_op concat_op sum_op product_op
behind_item_close = refl

pub behind_order_key_comma : behind_order_key (Some (t.Sign s.Comma)) ≡ true
unfolding behind_order_key behind_direction behind_nulls is_word direction_of has behind_factor behind_product behind_sum behind_concatenation behind_comparison behind_predicate behind_conjunction behind_expr or_op and_op compare_op concat_op sum_op product_op
behind_order_key_comma = refl

pub behind_order_key_close : behind_order_key (Some (t.Sign s.Close)) ≡ true
unfolding behind_order_key behind_direction behind_nulls is_word direction_of has behind_factor behind_product behind_sum behind_concatenation behind_comparison behind_predicate behind_conjunction behind_expr or_op and_op compare_op concat_op sum_op product_op
behind_order_key_close = refl

pub behind_locked_comma : behind_locked (Some (t.Sign s.Comma)) ≡ true
unfolding behind_locked behind_of behind_wait is_word
behind_locked_comma = refl

pub behind_locked_close : behind_locked (Some (t.Sign s.Close)) ≡ true
unfolding behind_locked behind_of behind_wait is_word
behind_locked_close = refl

pub behind_part_comma : behind_part (Some (t.Sign s.Comma)) ≡ true
unfolding behind_part has rule_of
behind_part_comma = refl

pub behind_part_close : behind_part (Some (t.Sign s.Close)) ≡ true
unfolding behind_part has rule_of
behind_part_close = refl
