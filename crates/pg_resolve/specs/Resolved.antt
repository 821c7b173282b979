-- Expressions with their names resolved, and the errors of an expression, depth first and from left to right.
use Rattle.std.specs.Prelude.{ℕ, List, [], ◌∷◌, ◌++◌, Option, Some, None, Result, Ok, Err, Bool, if◌then◌else◌}
use Rattle.std.specs.Option.{option_map_or, option_and_then}
use Rattle.pg_lists.specs.Numbered.{item_at}
use Rattle.pg_values.specs.declared.value.Kind.{Kind}
use Rattle.pg_exprs.specs.declared.kinds.KindFault.{KindFault}
use Rattle.pg_exprs.specs.Kinds.{is_boolean, kind_of}
use Rattle.pg_exprs.specs.Tree.{Tree as Resolved, literal as resolved_literal, column as resolved_column, action as resolved_action, unary as resolved_unary, binary as resolved_binary}
use Rattle.pg_parse_expr.specs.Tree.{Tree, literal, column, column_of, action, unary, binary}
use Rattle.pg_model.specs.declared.error.SqlError.{SqlError}
use Rattle.pg_model.specs.declared.error.SqlError.TheVariants as error
use Rattle.pg_model.specs.Kinds.{has_kind}
use Rattle.pg_names.specs.Names.{number_of}
use Rattle.pg_resolve.specs.declared.scope.Known.{Known}
use Rattle.pg_resolve.specs.Scope.{column_names, places, scope_kinds, source_named}

-- the column at the first of the places; a name without one is an error, and resolved to any place
abbrev pub first_place : List (ℕ × ℕ) → Resolved
first_place [] = resolved_column 0 0
first_place (place ∷ places) = resolved_column place.0 place.1

-- the number of a column in the source of that number
abbrev pub column_in : List Known → ℕ → List ℕ → Option ℕ
column_in scope source name =
    option_and_then (λ known. number_of (column_names known.columns) name) (item_at scope source)

-- where the column of a source, both by their names, stands
abbrev pub place_of : List Known → List ℕ → List ℕ → Option (ℕ × ℕ)
place_of scope source name =
    option_and_then (λ s. option_map_or (λ c. Some (s, c)) (column_in scope s name) None) (source_named scope source)

-- the column at a place; a name without one is an error, and resolved to any place
abbrev pub place_or_first : Option (ℕ × ℕ) → Resolved
place_or_first None = resolved_column 0 0
place_or_first (Some place) = resolved_column place.0 place.1

-- the kind of a column of a source, both by their names
abbrev pub column_of_kind : List Known → List ℕ → List ℕ → Result (Option Kind) KindFault
column_of_kind scope source name = kind_of (place_or_first (place_of scope source name)) (scope_kinds scope)

-- the expression with the columns in place of their names
abbrev pub expr_of_tree : List Known → Tree → Resolved
expr_of_tree scope (literal value) = resolved_literal value
expr_of_tree scope (column name) = first_place (places scope name)
expr_of_tree scope (column_of source name) = place_or_first (place_of scope source name)
expr_of_tree scope action = resolved_action
expr_of_tree scope (unary op a) = resolved_unary op (expr_of_tree scope a)
expr_of_tree scope (binary op a b) = resolved_binary op (expr_of_tree scope a) (expr_of_tree scope b)

-- a bare name means a column of exactly one source
abbrev pub name_errors : List ℕ → List (ℕ × ℕ) → List SqlError
name_errors name [] = error.NoColumn name ∷ []
name_errors name (place ∷ []) = []
name_errors name (_ ∷ _ ∷ _) = error.Ambiguous name ∷ []

-- the source has the column
abbrev pub column_errors : List ℕ → Option ℕ → List SqlError
column_errors name None = error.NoColumn name ∷ []
column_errors name (Some number) = []

-- there is a source of that name, and it has the column
abbrev pub qualified_errors : List Known → List ℕ → List ℕ → Option ℕ → List SqlError
qualified_errors scope source name None = error.NoRelation source ∷ []
qualified_errors scope source name (Some number) = column_errors name (column_in scope number name)

-- the errors of a column of a source, both by their names
abbrev pub column_of_errors : List Known → List ℕ → List ℕ → List SqlError
column_of_errors scope source name = qualified_errors scope source name (source_named scope source)

-- the outermost operator takes its operands
abbrev pub operator_errors : Result (Option Kind) KindFault → List SqlError
operator_errors (Ok kind) = []
operator_errors (Err fault) = error.NoOperator ∷ []

-- the kind of an expression over these sources
abbrev pub kind_in : List Known → Tree → Result (Option Kind) KindFault
kind_in scope tree = kind_of (expr_of_tree scope tree) (scope_kinds scope)

-- the errors of an expression: those of its operands come before its own
abbrev pub expr_errors : List Known → Tree → List SqlError
expr_errors scope (literal value) = []
expr_errors scope (column name) = name_errors name (places scope name)
expr_errors scope (column_of source name) = column_of_errors scope source name
expr_errors scope action = error.NoOperator ∷ []
expr_errors scope (unary op a) = expr_errors scope a ++ operator_errors (kind_in scope (unary op a))
expr_errors scope (binary op a b) =
    expr_errors scope a ++ expr_errors scope b ++ operator_errors (kind_in scope (binary op a b))

-- the kind passes the test
abbrev pub kind_errors : (Option Kind → Bool) → Result (Option Kind) KindFault → List SqlError
kind_errors test kind = if has_kind test kind then [] else error.WrongKind ∷ []

-- a condition is boolean
abbrev pub condition_errors : List Known → Tree → List SqlError
condition_errors scope tree = expr_errors scope tree ++ kind_errors is_boolean (kind_in scope tree)
