-- Expressions whose columns exist and whose kinds fit, over sources of which the kinds of the columns are known.
use Rattle.std.specs.Prelude.{ℕ, Bool, true, false, ◌&&◌, nat_le, nat_lt, List, length, map, Option, Some, None, Result, Ok, Err}
use Rattle.std.specs.Option.{option_map_or}
use Rattle.pg_lists.specs.Numbered.{item_at}
use Rattle.pg_values.specs.declared.value.Kind.{Kind}
use Rattle.pg_values.specs.declared.value.Kind.TheVariants as kind
use Rattle.pg_exprs.specs.declared.kinds.KindFault.{KindFault}
use Rattle.pg_exprs.specs.Kinds.{is_boolean, kind_of}
use Rattle.pg_exprs.specs.Tree.{Tree, literal, column, action, unary, binary}
use Rattle.pg_model.specs.declared.catalogue.Column.{Column}
use Rattle.pg_model.specs.Limits.{height, most_nodes}

-- the kinds of a table's columns
abbrev pub kinds_of : List Column → List (Option Kind)
kinds_of columns = map (λ column. Some column.kind) columns

-- there is a column of that number in the source of that number
abbrev pub has_column : List (List (Option Kind)) → ℕ → ℕ → Bool
has_column kinds source number = option_map_or (λ columns. nat_lt number (length columns)) (item_at kinds source) false

-- each column that the expression names exists
abbrev pub has_columns : List (List (Option Kind)) → Tree → Bool
has_columns kinds (literal value) = true
has_columns kinds (column source number) = has_column kinds source number
has_columns kinds action = true
has_columns kinds (unary op a) = has_columns kinds a
has_columns kinds (binary op a b) = has_columns kinds a && has_columns kinds b

-- a value of this kind, where NULL has none, may be stored in a column of that kind: numbers of both kinds are fitted
abbrev pub may_be_stored : Option Kind → Kind → Bool
may_be_stored None to = true
may_be_stored (Some kind.Bool) kind.Bool = true
may_be_stored (Some kind.Int) kind.Int = true
may_be_stored (Some kind.Int) kind.Big = true
may_be_stored (Some kind.Big) kind.Int = true
may_be_stored (Some kind.Big) kind.Big = true
may_be_stored (Some kind.Text) kind.Text = true
may_be_stored (Some from) to = false

-- the expression has a kind, or is a bare NULL, and it passes the test
abbrev pub has_kind : (Option Kind → Bool) → Result (Option Kind) KindFault → Bool
has_kind test (Ok kind) = test kind
has_kind test (Err fault) = false

-- the expression keeps the limit, its columns exist, and its kind passes the test
abbrev pub is_expr : (Option Kind → Bool) → List (List (Option Kind)) → Tree → Bool
is_expr test kinds tree =
    nat_le (height tree) most_nodes && has_columns kinds tree && has_kind test (kind_of tree kinds)

-- it is of any kind
abbrev pub is_item : List (List (Option Kind)) → Tree → Bool
is_item kinds tree = is_expr (λ kind. true) kinds tree

-- it is boolean, or a bare NULL
abbrev pub is_condition : List (List (Option Kind)) → Tree → Bool
is_condition kinds tree = is_expr is_boolean kinds tree

-- its value may be stored in a column of that kind
abbrev pub is_stored : Kind → List (List (Option Kind)) → Tree → Bool
is_stored to kinds tree = is_expr (λ from. may_be_stored from to) kinds tree
