-- What stands in many statements, written before any tokens: names, expressions, items, rows.
use Rattle.std.proofs.Common.{◌≡◌, ℕ, true, List, Option, nat_le, leb-true}
use Rattle.pg_parse_stmt.proofs.Common.{list_all, and_parts, expr, is_free_name, is_written, name_of, Tree, height, name_token, name_read, name_is_token, expr_spelled, word, optional, list_of, in_brackets, none_or, some_and_all, is_expr, are_names, is_item, is_table, are_rows, is_element, is_assignment, are_sets, name, names, alias, table_named, table_ref, condition, as_name, named_expr, all_of, item, items, returning, tuple, tuples, assignment, sets, element, elements, columns, Item, TableRef, Element, Assignment}
use Rattle.pg_lexer.specs.declared.keyword.Keyword.TheVariants as k
use Rattle.pg_lexer.specs.declared.sign.Sign.TheVariants as s
use Rattle.pg_parse_stmt.specs.declared.tree.Item.TheVariants as item_of
use Rattle.pg_parse_stmt.specs.declared.tree.Element.TheVariants as element_of
use Rattle.pg_parse_stmt.proofs.Writing.{Writes, writes_gives, writes_word, writes_sign, writes_one, writes_bind, writes_left, writes_right, writes_optional, writes_in_brackets, writes_list, writes_any}

-- names
pub writes_name : (n : List ℕ) → is_free_name n ≡ true → Writes name n
unfolding name
writes_name n h = writes_one name_of (name_token n) n (name_read n h) (name_is_token n h)

pub writes_names : (ns : List (List ℕ)) → are_names ns ≡ true → Writes names ns
unfolding names
writes_names ns h = writes_list is_free_name name writes_name ns h

pub writes_columns : (ns : List (List ℕ)) → list_all is_free_name ns ≡ true → Writes columns ns
unfolding columns
writes_columns ns h =
    writes_any is_free_name (in_brackets names) (λ ms g. writes_in_brackets names ms (writes_names ms g)) ns h

pub writes_alias : (n : List ℕ) → is_free_name n ≡ true → Writes alias n
unfolding alias
writes_alias n h = writes_left _ _ n (writes_word k.As name n (writes_name n h))

pub writes_as_name : (o : Option (List ℕ)) → none_or is_free_name o ≡ true → Writes as_name o
unfolding as_name
writes_as_name o h =
    writes_optional is_free_name (word k.As name) (λ n g. writes_word k.As name n (writes_name n g)) o h

pub writes_table_ref : (u : TableRef) → is_table u ≡ true → Writes table_ref u
unfolding table_ref table_named
writes_table_ref u h =
    let parts = and_parts (is_free_name u.name) (none_or is_free_name u.alias) h in
    writes_bind name _ u.name u (writes_name u.name parts.0)
    (writes_bind (optional alias) _ u.alias u (writes_optional is_free_name alias writes_alias u.alias parts.1)
    (writes_gives u))

-- expressions
pub writes_expr : (e : Tree) → is_expr e ≡ true → Writes expr e
writes_expr e h =
    let parts = and_parts (is_written e) (nat_le (height e) 64) h in
    record { writes = λ z g. expr_spelled e parts.0 (leb-true (height e) 64 parts.1) z g }

pub writes_condition : (o : Option Tree) → none_or is_expr o ≡ true → Writes condition o
unfolding condition
writes_condition o h =
    writes_optional is_expr (word k.Where expr) (λ e g. writes_word k.Where expr e (writes_expr e g)) o h

-- items
pub writes_item : (i : Item) → is_item i ≡ true → Writes item i
unfolding item all_of named_expr
writes_item item_of.All h = writes_left _ _ _ (writes_sign s.Star _ _ (writes_gives item_of.All))
writes_item (item_of.AllOf n) h =
    writes_right _ _ _ (writes_left _ _ _ (writes_bind name _ n _ (writes_name n h)
    (writes_sign s.Dot _ _ (writes_sign s.Star _ _ (writes_gives (item_of.AllOf n))))))
writes_item (item_of.Expr e n) h =
    let parts = and_parts (is_expr e) (none_or is_free_name n) h in
    writes_right _ _ _ (writes_right _ _ _ (writes_bind expr _ e _ (writes_expr e parts.0)
    (writes_bind as_name _ n _ (writes_as_name n parts.1) (writes_gives (item_of.Expr e n)))))

pub writes_items : (is : List Item) → some_and_all is_item is ≡ true → Writes items is
unfolding items
writes_items is h = writes_list is_item item writes_item is h

pub writes_returning : (is : List Item) → list_all is_item is ≡ true → Writes returning is
unfolding returning
writes_returning is h =
    writes_any is_item (word k.Returning items) (λ js g. writes_word k.Returning items js (writes_items js g)) is h

-- rows
pub writes_tuple : (es : List Tree) → some_and_all is_expr es ≡ true → Writes tuple es
unfolding tuple
writes_tuple es h = writes_in_brackets (list_of expr) es (writes_list is_expr expr writes_expr es h)

pub writes_tuples : (rs : List (List Tree)) → are_rows rs ≡ true → Writes tuples rs
unfolding tuples
writes_tuples rs h = writes_list (some_and_all is_expr) tuple writes_tuple rs h

-- assignments
writes_assignment : (a : Assignment) → is_assignment a ≡ true → Writes assignment a
unfolding assignment
writes_assignment a h =
    let parts = and_parts (is_free_name a.column) (is_expr a.value) h in
    writes_bind name _ a.column a (writes_name a.column parts.0)
    (writes_sign s.Equal _ a (writes_bind expr _ a.value a (writes_expr a.value parts.1) (writes_gives a)))

pub writes_sets : (list : List Assignment) → are_sets list ≡ true → Writes sets list
unfolding sets
writes_sets list h = writes_list is_assignment assignment writes_assignment list h

-- elements
writes_element : (e : Element) → is_element e ≡ true → Writes element e
unfolding element
writes_element (element_of.Column n) h =
    writes_left _ _ _ (writes_bind name _ n _ (writes_name n h) (writes_gives (element_of.Column n)))
writes_element (element_of.Expr e) h =
    writes_right _ _ _ (writes_bind (in_brackets expr) _ e _ (writes_in_brackets expr e (writes_expr e h))
    (writes_gives (element_of.Expr e)))

pub writes_elements : (es : List Element) → some_and_all is_element es ≡ true → Writes elements es
unfolding elements
writes_elements es h = writes_in_brackets (list_of element) es (writes_list is_element element writes_element es h)
