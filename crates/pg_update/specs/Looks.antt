-- What comes of the look at a row that an UPDATE or DELETE has locked: it is changed, or its candidate
-- is passed.
use Rattle.std.specs.Prelude.{if◌then◌else◌, List, [], ◌∷◌, Ok}
use Rattle.pg_heap.specs.declared.row.Row.{Row}
use Rattle.pg_model.specs.declared.journal.EntryAct.TheVariants as entry
use Rattle.pg_model.specs.declared.statement.Change.{Change}
use Rattle.pg_world.specs.Candidates.{passes}
use Rattle.pg_world.specs.Changes.{act_on, is_as_seen, new_values, partners_locked, target_row}
use Rattle.pg_world.specs.Choosing.{Choice, does}
use Rattle.pg_world.specs.Evaluation.{OrError, if_valued, with_value}
use Rattle.pg_world.specs.declared.candidate.SeenRow.{SeenRow}
use Rattle.pg_world.specs.declared.session.VersionName.{VersionName}
use Rattle.pg_update.specs.declared.look.Look.{Look}
use Rattle.pg_update.specs.declared.look.Look.TheVariants.{Passed, ToHold}

-- the row is changed: what it is to hold is made of these versions, or the error of the SET
abbrev pub change_looked : Change → List SeenRow → OrError Look
change_looked change partners = with_value (λ values. ToHold values) (new_values change partners)

-- the condition is looked at again, on these versions: where it is not true the candidate is passed
abbrev pub look_again : Change → List SeenRow → OrError Look
look_again change partners =
    if_valued (λ passed. if passed then change_looked change partners else Ok Passed)
    (passes change.condition partners)

-- the look at a row of which the version with that name was locked, by the versions seen and those to
-- be changed: where it is not the one seen, the condition is looked at again
abbrev pub look_over : Change → VersionName → List SeenRow → List SeenRow → OrError Look
look_over change name seen partners =
    if is_as_seen name seen then change_looked change partners else look_again change partners

-- and by the row
abbrev pub look_at : Change → Row → VersionName → List SeenRow → OrError Look
look_at change row name partners =
    look_over change name partners (partners_locked row name partners)

-- what is permitted behind a look
abbrev pub choices_behind : Change → List SeenRow → Look → List Choice
choices_behind change partners Passed = does entry.Passed ∷ []
choices_behind change partners (ToHold values) =
    does (act_on change.target.table (target_row partners) values) ∷ []
