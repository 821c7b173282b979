-- What an expression is evaluated over.
use Rattle.std.specs.Prelude.{ℕ, List, Option, Some, None, unwrap_or}
use Rattle.pg_lists.specs.Numbered.{item_at}
use Rattle.pg_values.specs.declared.value.Value.{Value}
use Rattle.pg_values.specs.declared.value.Value.TheVariants.{Null, Text}

-- for each source its row, or None where the source is absent; and what MERGE did, as `merge_action()` says it
pub record Environment : Type 0 where
  pub rows : List (Option (List Value))
  pub action : Option (List ℕ)

-- the value of the column of that number, where the source has a row
abbrev pub value_among : Option (Option (List Value)) → ℕ → Option Value
value_among (Some (Some row)) column = item_at row column
value_among _ _ = None

-- the value of a column of a source, both numbered from 0, if there is one
abbrev pub column_of : Environment → ℕ → ℕ → Option Value
column_of env source column = value_among (item_at env.rows source) column

-- a column of an absent source is NULL
abbrev pub column_value : Environment → ℕ → ℕ → Value
column_value env source column = unwrap_or (column_of env source column) Null

-- a text as a value; no text is NULL
abbrev pub text_or_null : Option (List ℕ) → Value
text_or_null None = Null
text_or_null (Some text) = Text text

-- the value of `merge_action()`
abbrev pub action_value : Environment → Value
action_value env = text_or_null env.action
