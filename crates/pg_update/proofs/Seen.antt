-- A candidate with the version of its target's row that was seen.
use Rattle.std.proofs.Common.{◌≡◌, List, [], ◌∷◌, Option, None, sym}
use Rattle.pg_values.specs.declared.value.Value.{Value}
use Rattle.pg_heap.specs.declared.version.Version.{Version}
use Rattle.pg_model.specs.declared.statement.Change.{Change}
use Rattle.pg_world.specs.Changes.{new_values, target_values, with_target_version}
use Rattle.pg_world.specs.Evaluation.{OrError}
use Rattle.pg_world.specs.declared.candidate.SeenRow.{SeenRow}
use Rattle.pg_recheck.specs.Versions.{HasValues}

abbrev no_version : Version
no_version = record { values = None; writer = 0; command = 0 }

-- what is made of the version seen is made of the rows as they were seen
pub as_seen : (change : Change) (partners : List SeenRow) (values : List Value) (made : OrError (Option (List Value))) → values ≡ target_values partners →
    ((version : Version) → HasValues values version → made ≡ new_values change (with_target_version version partners)) →
    made ≡ new_values change partners
as_seen change [] values made are is = is no_version (sym are)
as_seen change (target ∷ sources) values made are is = is target.version (sym are)
