-- What holds of each script that was read.
use Rattle.std.specs.Prelude.{ℕ, ◌≡◌, ◌<◌, ◌≤◌, ◌+◌, true, List, length, Result}
use Rattle.std.specs.List.{list_all, All}
use Rattle.std.specs.Result.{ForOk}
use Rattle.pg_names.specs.Names.{are_distinct}
use Rattle.pg_model.specs.declared.catalogue.TableShape.{TableShape}
use Rattle.pg_model.specs.declared.error.SqlError.{SqlError}
use Rattle.pg_model.specs.declared.script.Content.{Content}
use Rattle.pg_model.specs.declared.script.Content.TheVariants as content
use Rattle.pg_model.specs.declared.script.Line.{Line}
use Rattle.pg_model.specs.declared.script.SetupInsert.{SetupInsert}
use Rattle.pg_model.specs.declared.statement.Statement.{Statement}
use Rattle.pg_model.specs.Limits.{is_written, most_lines, most_sessions}
use Rattle.pg_model.specs.Statements.{IsInsert, IsStatement, is_catalogue}

-- the session that a line names
abbrev pub session_in : Content → ℕ
session_in (content.Given session statement) = session

-- the statement that a line gives to its session, or the error that its analysis found
abbrev pub statement_in : Content → Result Statement SqlError
statement_in (content.Given session statement) = statement

-- a line names one of the sessions, and its statement fits the catalogue
pub record IsContent (sessions : ℕ) (catalogue : List TableShape) (content : Content) : Type 0 where
  pub session : session_in content < sessions
  pub statement : ForOk (statement_in content) (IsStatement catalogue)

-- the parts of a script fit together, within the limits
pub record IsScript (sessions : List (List ℕ)) (catalogue : List TableShape) (setup : List SetupInsert) (lines : List Line) : Type 0 where
  pub few_sessions : length sessions ≤ most_sessions
  pub distinct : are_distinct sessions ≡ true
  pub written : list_all is_written sessions ≡ true
  pub tables : is_catalogue catalogue ≡ true
  pub inserts : All (λ s. IsInsert catalogue s.insert) setup
  pub contents : All (λ line. IsContent (length sessions) catalogue line.content) lines
  pub few_lines : length setup + length lines ≤ most_lines
