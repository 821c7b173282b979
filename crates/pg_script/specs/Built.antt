-- The one table of what is left for later: lines of a form of the language that is not built, without a place fault.
use Rattle.std.specs.Prelude.{Bool, false, not, ◌||◌, ◌&&◌, nat_le, length, Result, Ok, Err}
use Rattle.pg_parse_stmt.specs.declared.tree.StmtTree.{StmtTree}
use Rattle.pg_line.specs.declared.form.LineForm.{LineForm}
use Rattle.pg_line.specs.declared.form.LineForm.TheVariants as form
use Rattle.pg_line.specs.declared.form.PlaceFault.{PlaceFault}
use Rattle.pg_line.specs.declared.form.SessionName.{SessionName}
use Rattle.pg_analyse.specs.Built.{is_built_declaration, is_built_statement}

-- the name of a session is no longer than 63 bytes
abbrev pub is_short : SessionName → Bool
is_short session = nat_le (length session.name) 63

-- a statement of the language that is not built: those built are `pg_analyse`'s
abbrev pub is_later_statement : Result StmtTree PlaceFault → Bool
is_later_statement (Ok tree) = not (is_built_statement tree || is_built_declaration tree)
is_later_statement (Err fault) = false

-- `pause`, `go` and `cut` are not built
abbrev pub is_later : LineForm → Bool
is_later form.Comment = false
is_later (form.Setup statement) = is_later_statement statement
is_later (form.Given session statement) = is_short session && is_later_statement statement
is_later (form.Pause session label) = is_short session
is_later (form.Go session) = is_short session
is_later (form.Cut session) = is_short session
is_later form.Unknown = false
