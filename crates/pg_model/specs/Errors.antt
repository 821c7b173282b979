-- The state and the text of each error.
use Rattle.std.specs.Prelude.{ℕ, List, [], ◌∷◌, ◌++◌, codes}
use Rattle.pg_model.specs.declared.error.Counted.{Counted}
use Rattle.pg_model.specs.declared.error.Counted.TheVariants as counted
use Rattle.pg_model.specs.declared.error.SqlError.{SqlError}
use Rattle.pg_model.specs.declared.error.SqlError.TheVariants as error

-- the SQLSTATE, as five digits and letters
abbrev pub error_state : SqlError → List ℕ
error_state error.Aborted = codes "25P02"
error_state (error.NoRelation name) = codes "42P01"
error_state (error.SameAlias name) = codes "42712"
error_state (error.NoColumn name) = codes "42703"
error_state (error.ColumnTwice name) = codes "42701"
error_state (error.SetTwice name) = codes "42601"
error_state (error.Ambiguous name) = codes "42702"
error_state error.WrongCount = codes "42601"
error_state error.NoOperator = codes "42883"
error_state error.WrongKind = codes "42804"
error_state (error.RelationExists name) = codes "42P07"
error_state (error.TooMany counted) = codes "54000"
error_state error.TooLong = codes "54000"
error_state error.IntRange = codes "22003"
error_state error.BigRange = codes "22003"
error_state error.ZeroDivisor = codes "22012"
error_state (error.Deadlock names) = codes "40P01"

-- a name between "
abbrev pub quoted_name : List ℕ → List ℕ
quoted_name name = codes "\"" ++ name ++ codes "\""

-- what there is too much of
abbrev pub counted_text : Counted → List ℕ
counted_text counted.Tables = codes "tables"
counted_text counted.Columns = codes "columns"

-- that the session of one name waits for that of another
abbrev pub wait_text : List ℕ → List ℕ → List ℕ
wait_text name other = name ++ codes " waits for " ++ other

-- that each session of a list waits for the next, and the last for the one that closes the cycle
abbrev pub cycle_text : List ℕ → List (List ℕ) → List ℕ
cycle_text first [] = []
cycle_text first (name ∷ []) = wait_text name first
cycle_text first (name ∷ next ∷ names) = wait_text name next ++ codes ", " ++ cycle_text first (next ∷ names)

-- a cycle of sessions, from its first on
abbrev pub deadlock_text : List (List ℕ) → List ℕ
deadlock_text [] = []
deadlock_text (first ∷ names) = cycle_text first (first ∷ names)

-- the text of each error
abbrev pub error_text : SqlError → List ℕ
error_text error.Aborted = codes "current transaction is aborted, commands ignored until end of transaction block"
error_text (error.NoRelation name) = codes "relation " ++ quoted_name name ++ codes " does not exist"
error_text (error.SameAlias name) = codes "table name " ++ quoted_name name ++ codes " specified more than once"
error_text (error.NoColumn name) = codes "column " ++ quoted_name name ++ codes " does not exist"
error_text (error.ColumnTwice name) = codes "column " ++ quoted_name name ++ codes " specified more than once"
error_text (error.SetTwice name) = codes "column " ++ quoted_name name ++ codes " is set more than once"
error_text (error.Ambiguous name) = codes "column reference " ++ quoted_name name ++ codes " is ambiguous"
error_text error.WrongCount = codes "wrong number of expressions"
error_text error.NoOperator = codes "operator or function does not take these kinds"
error_text error.WrongKind = codes "kinds do not fit"
error_text (error.RelationExists name) = codes "relation " ++ quoted_name name ++ codes " already exists"
error_text (error.TooMany counted) = codes "too many " ++ counted_text counted
error_text error.TooLong = codes "text longer than 4096 bytes"
error_text error.IntRange = codes "integer out of range"
error_text error.BigRange = codes "bigint out of range"
error_text error.ZeroDivisor = codes "division by zero"
error_text (error.Deadlock names) = codes "deadlock detected, cycle " ++ deadlock_text names
