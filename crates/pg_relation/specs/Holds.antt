-- The rows that sessions hold for an UPDATE or DELETE, and those that they have placed for an INSERT.
use Rattle.std.specs.Prelude.{ℕ, ◌≡◌, Contains, [], Some, Ok}
use Rattle.pg_heap.specs.Rows.{row_of}
use Rattle.pg_model.specs.declared.script.Script.{Script}
use Rattle.pg_model.specs.declared.statement.Change.{Change}
use Rattle.pg_model.specs.declared.statement.Insert.{Insert}
use Rattle.pg_model.specs.declared.statement.Statement.TheVariants as statement
use Rattle.pg_world.specs.Changes.{partners_in, row_at, table_at, target_row}
use Rattle.pg_world.specs.declared.placed.PlacedRow.{PlacedRow}
use Rattle.pg_world.specs.declared.session.Progress.TheVariants.{Inside as inside}
use Rattle.pg_world.specs.declared.session.Running.{Running}
use Rattle.pg_world.specs.declared.session.SessionView.{SessionView}
use Rattle.pg_world.specs.declared.session.Stage.TheVariants.{Locked as locked, Placed as placed}
use Rattle.pg_world.specs.declared.session.VersionName.{VersionName}
use Rattle.pg_world.specs.declared.table.TableView.{TableView}
use Rattle.pg_world.specs.Worlds.{World, session_of}
use Rattle.pg_relation.specs.Lines.{statement_at}
use Rattle.pg_relation.specs.Locking.{IsHolding}

-- the session of that number is inside an UPDATE or DELETE of that table, whose candidate is made of
-- that row, and has locked the row; the stage keeps the name of the version that was current then
pub record HoldsRow (script : Script) (world : World) (number table row : ℕ) : Type 0 where
  pub session : SessionView
  pub is : session_of world number ≡ Some session
  pub running : Running
  pub inside_is : session.progress ≡ inside running
  pub change : Change
  pub statement_is : statement_at script number session ≡ Some (Ok (statement.Change change))
  pub name : VersionName
  pub stage_is : running.stage ≡ locked name
  pub table_is : change.target.table ≡ table
  pub row_is : target_row (partners_in running) ≡ row

-- the session of that number is inside an INSERT into that table, and has placed its proposed row
-- under that row number
pub record PlacesRow (script : Script) (world : World) (number table row : ℕ) : Type 0 where
  pub session : SessionView
  pub is : session_of world number ≡ Some session
  pub running : Running
  pub inside_is : session.progress ≡ inside running
  pub insert : Insert
  pub statement_is : statement_at script number session ≡ Some (Ok (statement.Insert insert))
  pub stage_is : running.stage ≡ placed row
  pub table_is : insert.target.table ≡ table

-- what a world leaves, in the next one, of a row that the session of that number holds: it has the
-- versions that it had, the session stands where it stood, and its row is held on, with the newest
-- version, which is the current one for its transaction, still of the name that it keeps
pub record StaysHeld (script : Script) (world new : World) (number table row : ℕ)
    (held : HoldsRow script world number table row) : Type 0 where
  pub same_row : row_at (table_at new.tables table) row ≡ row_at (table_at world.tables table) row
  pub is : session_of new number ≡ Some held.session
  pub holding : IsHolding new held.change held.running held.name

-- what is placed in a table is placed under the number of a row that was drawn and has no version
-- yet, and nothing else is placed under that number
pub record IsPlacedFresh (table : TableView) : Type 0 where
  pub fresh : (placed : PlacedRow) → Contains table.placed placed →
      row_of table.rows placed.row ≡ Some (record { number = placed.row; versions = [] })
  pub only : (one other : PlacedRow) → Contains table.placed one → Contains table.placed other →
      one.row ≡ other.row → one ≡ other
