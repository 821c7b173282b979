-- Why there is no board of a script.
use Rattle.std.specs.Prelude.{◌≡◌, List, Result, Ok, Err}
use Rattle.pg_model.specs.declared.script.Script.{Script}
use Rattle.pg_world.specs.declared.table.TableView.{TableView}
use Rattle.pg_relation.specs.Setup.{SetupError, first_world, setup_outcome}
use Rattle.pg_board.specs.declared.fault.BoardFault.{BoardFault}
use Rattle.pg_board.specs.declared.fault.BoardFault.TheVariants as fault

-- setup raises no error
abbrev pub IsSetUp : Script → Type 0
IsSetUp script = setup_outcome script ≡ Ok (first_world script).tables

-- the fault is the error of this outcome, or there was no memory
abbrev pub IsFaultIn : Result (List TableView) SetupError → BoardFault → Type 0
IsFaultIn outcome (fault.Setup line error) = outcome ≡ Err (record { line = line; error = error })
IsFaultIn outcome fault.Memory = Unit {0}

-- the fault is the first error of the script's setup, or there was no memory
abbrev pub IsFaultOf : Script → BoardFault → Type 0
IsFaultOf script fault = IsFaultIn (setup_outcome script) fault
