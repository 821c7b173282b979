-- The kinds of the columns that an expression may name.
use Rattle.std.specs.Prelude.{ℕ, List, Option, Some, None, unwrap_or}
use Rattle.pg_lists.specs.Numbered.{item_at}
use Rattle.pg_values.specs.declared.value.Kind.{Kind}

-- the kind of the column of that number, which is not known where there is none
abbrev pub kind_among : Option (List (Option Kind)) → ℕ → Option Kind
kind_among (Some kinds) column = unwrap_or (item_at kinds column) None
kind_among None column = None

-- the kind of a column of a source, both numbered from 0
abbrev pub column_kind : List (List (Option Kind)) → ℕ → ℕ → Option Kind
column_kind shape source column = kind_among (item_at shape source) column
