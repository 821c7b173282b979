-- An expression without errors fits over its sources.
use Rattle.std.proofs.Common.{◌≡◌, refl, ap, ◌∙◌, ℕ, suc, max, Bool, true, nat_le, List, [], ◌∷◌, ◌++◌, Option, Some, None, Result, Ok, Err}
use Rattle.pg_values.specs.declared.value.Kind.{Kind}
use Rattle.pg_exprs.specs.declared.kinds.KindFault.{KindFault}
use Rattle.pg_exprs.specs.Kinds.{kind_of}
use Rattle.pg_parse_expr.specs.Tree.{Tree, height as tree_height, literal, column, column_of, action, unary, binary}
use Rattle.pg_model.specs.Kinds.{has_columns, has_kind, is_expr}
use Rattle.pg_model.specs.Limits.{height, most_nodes}
use Rattle.pg_resolve.specs.declared.scope.Known.{Known}
use Rattle.pg_resolve.specs.Resolved.{expr_errors, first_place, kind_in, operator_errors, place_of, place_or_first, expr_of_tree}
use Rattle.pg_resolve.specs.Scope.{places, scope_kinds}
use Rattle.pg_resolve.proofs.Holding.{both, cons_nil, left_nil, right_nil, three}
use Rattle.pg_resolve.proofs.Placing.{name_fits, qualified_fits}

-- an expression within the limit of nodes on a path
abbrev pub is_low : Tree → Bool
is_low tree = nat_le (tree_height tree) most_nodes

-- its columns exist
pub columns_exist : (scope : List Known) (tree : Tree) → expr_errors scope tree ≡ [] →
    has_columns (scope_kinds scope) (expr_of_tree scope tree) ≡ true
columns_exist scope (literal value) none = refl
columns_exist scope (column name) none = name_fits name scope none
columns_exist scope (column_of source name) none = qualified_fits scope source name none
columns_exist scope action none = refl
columns_exist scope (unary op a) none =
    columns_exist scope a (left_nil (expr_errors scope a) (operator_errors (kind_in scope (unary op a))) none)
columns_exist scope (binary op a b) none =
    both (has_columns (scope_kinds scope) (expr_of_tree scope a)) (has_columns (scope_kinds scope) (expr_of_tree scope b))
    (columns_exist scope a (left_nil (expr_errors scope a) (expr_errors scope b)
    (left_nil (expr_errors scope a ++ expr_errors scope b) (operator_errors (kind_in scope (binary op a b))) none)))
    (columns_exist scope b (right_nil (expr_errors scope a) (expr_errors scope b)
    (left_nil (expr_errors scope a ++ expr_errors scope b) (operator_errors (kind_in scope (binary op a b))) none)))

place_height : (found : List (ℕ × ℕ)) → height (first_place found) ≡ 1
place_height [] = refl
place_height (place ∷ found) = refl

option_height : (found : Option (ℕ × ℕ)) → height (place_or_first found) ≡ 1
option_height None = refl
option_height (Some place) = refl

-- it is as high as it is written
pub height_stays : (scope : List Known) (tree : Tree) → height (expr_of_tree scope tree) ≡ tree_height tree
height_stays scope (literal value) = refl
height_stays scope (column name) = place_height (places scope name)
height_stays scope (column_of source name) = option_height (place_of scope source name)
height_stays scope action = refl
height_stays scope (unary op a) = ap suc (height_stays scope a)
height_stays scope (binary op a b) =
    ap (λ (n : ℕ). suc (max n (height (expr_of_tree scope b)))) (height_stays scope a)
    ∙ ap (λ (n : ℕ). suc (max (tree_height a) n)) (height_stays scope b)

place_kind : (found : List (ℕ × ℕ)) (kinds : List (List (Option Kind))) →
    has_kind (λ kind. true) (kind_of (first_place found) kinds) ≡ true
place_kind [] kinds = refl
place_kind (place ∷ found) kinds = refl

option_kind : (found : Option (ℕ × ℕ)) (kinds : List (List (Option Kind))) →
    has_kind (λ kind. true) (kind_of (place_or_first found) kinds) ≡ true
option_kind None kinds = refl
option_kind (Some place) kinds = refl

operator_kind : (kind : Result (Option Kind) KindFault) → operator_errors kind ≡ [] → has_kind (λ kind. true) kind ≡ true
operator_kind (Ok kind) none = refl
operator_kind (Err fault) none = absurd (cons_nil none)

-- it has a kind, or is a bare NULL
pub kind_exists : (scope : List Known) (tree : Tree) → expr_errors scope tree ≡ [] →
    has_kind (λ kind. true) (kind_in scope tree) ≡ true
kind_exists scope (literal value) none = refl
kind_exists scope (column name) none = place_kind (places scope name) (scope_kinds scope)
kind_exists scope (column_of source name) none = option_kind (place_of scope source name) (scope_kinds scope)
kind_exists scope action none = refl
kind_exists scope (unary op a) none =
    operator_kind (kind_in scope (unary op a))
    (right_nil (expr_errors scope a) (operator_errors (kind_in scope (unary op a))) none)
kind_exists scope (binary op a b) none =
    operator_kind (kind_in scope (binary op a b))
    (right_nil (expr_errors scope a ++ expr_errors scope b) (operator_errors (kind_in scope (binary op a b))) none)

-- with its limit kept and a kind that passes the test, it fits
pub expr_fits : (test : Option Kind → Bool) (scope : List Known) (tree : Tree) → is_low tree ≡ true →
    expr_errors scope tree ≡ [] → has_kind test (kind_in scope tree) ≡ true →
    is_expr test (scope_kinds scope) (expr_of_tree scope tree) ≡ true
expr_fits test scope tree low none kind =
    three (nat_le (height (expr_of_tree scope tree)) most_nodes) (has_columns (scope_kinds scope) (expr_of_tree scope tree))
    (has_kind test (kind_in scope tree)) (ap (λ (n : ℕ). nat_le n most_nodes) (height_stays scope tree) ∙ low)
    (columns_exist scope tree none) kind
