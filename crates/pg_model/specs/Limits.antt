-- What there may be at most in a script.
use Rattle.std.specs.Prelude.{ℕ, Bool, ◌&&◌, nat_le, List, length, max, suc}
use Rattle.pg_names.specs.Names.{is_name}
use Rattle.pg_exprs.specs.Tree.{Tree, literal, column, action, unary, binary}

-- sessions that a script names
abbrev pub most_sessions : ℕ
most_sessions = 32

-- tables, and columns of a table
abbrev pub most_tables : ℕ
most_tables = 64

-- columns of one table
abbrev pub most_columns : ℕ
most_columns = 64

-- lines: a script has at most this many bytes, and so no more lines
abbrev pub most_lines : ℕ
most_lines = 1048576

-- nodes on a path of an expression
abbrev pub most_nodes : ℕ
most_nodes = 64

-- a name that is written: 1 to 63 lower-case letters, digits and `_`
abbrev pub is_written : List ℕ → Bool
is_written name = is_name name && nat_le 1 (length name) && nat_le (length name) 63

-- the most nodes on a path down from the top of an expression
abbrev pub height : Tree → ℕ
height (literal _) = 1
height (column _ _) = 1
height action = 1
height (unary _ a) = suc (height a)
height (binary _ a b) = suc (max (height a) (height b))
