-- Whether the setup of a script raises an error.
use Rattle.std.specs.Prelude.{ℕ, ◌≡◌, List, Ok, Err}
use Rattle.pg_model.specs.declared.error.SqlError.{SqlError}
use Rattle.pg_model.specs.declared.script.Script.{Script}
use Rattle.pg_relation.specs.Setup.{setup_outcome}
use Rattle.pg_world.specs.declared.table.TableView.{TableView}

-- the first INSERT of setup that raises an error stands in that line and raises this one
abbrev pub Raises : Script → ℕ → SqlError → Type 0
Raises script line error = setup_outcome script ≡ Err (record { line = line; error = error })

-- no INSERT of setup raises an error
abbrev pub RaisesNone : Script → Type 0
RaisesNone script = (tables : List TableView) × (setup_outcome script ≡ Ok tables)
