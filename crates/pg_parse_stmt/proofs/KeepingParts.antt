-- What stands in many statements passes its test where it is read: names, expressions, items, rows.
use Rattle.std.proofs.Common.{refl, le-leb}
use Rattle.pg_parse_stmt.proofs.Common.{list_all, expr, is_free_name, height, expr_keeps, none_or, some_and_all, is_expr, are_names, is_item, is_table, are_rows, is_element, is_assignment, are_sets, name, names, alias, table_named, table_ref, condition, as_name, named_expr, all_of, item, items, returning, tuple, tuples, assignment, sets, element, elements, columns}
use Rattle.pg_parse_stmt.proofs.Keeping.{Reading, both, reading_gives, reading_word, reading_sign, reading_bind, reading_either, reading_less, reading_optional, reading_in_brackets, reading_list, reading_list_or_none}
use Rattle.pg_parse_stmt.proofs.KeepingTokens.{reading_name_of, reading_bare_name_of}

-- names
pub reading_name : Reading name is_free_name
unfolding name
reading_name = reading_name_of

pub reading_names : Reading names are_names
unfolding names
reading_names = reading_list is_free_name name reading_name

pub reading_columns : Reading columns (list_all is_free_name)
unfolding columns
reading_columns = reading_list_or_none is_free_name (reading_in_brackets reading_names)

pub reading_alias : Reading alias is_free_name
unfolding alias
reading_alias = reading_either (reading_word reading_name) reading_bare_name_of

pub reading_as_name : Reading as_name (none_or is_free_name)
unfolding as_name
reading_as_name = reading_optional (reading_word reading_name)

pub reading_table_ref : Reading table_ref is_table
unfolding table_ref table_named
reading_table_ref =
    reading_bind reading_name (λ n h. reading_bind (reading_optional reading_alias) (λ a g. reading_gives (both h g)))

-- expressions
pub reading_expr : Reading expr is_expr
reading_expr = reading_less expr_keeps (λ e h. both h.0 (le-leb (height e) 64 h.1))

pub reading_condition : Reading condition (none_or is_expr)
unfolding condition
reading_condition = reading_optional (reading_word reading_expr)

-- items
pub reading_item : Reading item is_item
unfolding item all_of named_expr
reading_item =
    reading_either (reading_sign (reading_gives refl))
    (reading_either (reading_bind reading_name (λ n h. reading_sign (reading_sign (reading_gives h))))
    (reading_bind reading_expr (λ e h. reading_bind reading_as_name (λ n g. reading_gives (both h g)))))

pub reading_items : Reading items (some_and_all is_item)
unfolding items
reading_items = reading_list is_item item reading_item

pub reading_returning : Reading returning (list_all is_item)
unfolding returning
reading_returning = reading_list_or_none is_item (reading_word reading_items)

-- rows
pub reading_tuple : Reading tuple (some_and_all is_expr)
unfolding tuple
reading_tuple = reading_in_brackets (reading_list is_expr expr reading_expr)

pub reading_tuples : Reading tuples are_rows
unfolding tuples
reading_tuples = reading_list (some_and_all is_expr) tuple reading_tuple

-- assignments
reading_assignment : Reading assignment is_assignment
unfolding assignment
reading_assignment =
    reading_bind reading_name (λ n h. reading_sign (reading_bind reading_expr (λ e g. reading_gives (both h g))))

pub reading_sets : Reading sets are_sets
unfolding sets
reading_sets = reading_list is_assignment assignment reading_assignment

-- elements
reading_element : Reading element is_element
unfolding element
reading_element =
    reading_either (reading_bind reading_name (λ n h. reading_gives h))
    (reading_bind (reading_in_brackets reading_expr) (λ e h. reading_gives h))

pub reading_elements : Reading elements (some_and_all is_element)
unfolding elements
reading_elements = reading_in_brackets (reading_list is_element element reading_element)
