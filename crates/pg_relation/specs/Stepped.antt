-- The order in which the sessions of a stepped script move.
use Rattle.std.specs.Prelude.{ℕ, ◌≡◌, List, [], ◌∷◌, Option, None, Some}
use Rattle.pg_model.specs.declared.journal.Entry.{Entry}
use Rattle.pg_model.specs.declared.journal.EntryAct.{EntryAct}
use Rattle.pg_model.specs.declared.script.Script.{Script}
use Rattle.pg_world.specs.Worlds.{World}
use Rattle.pg_relation.specs.Effect.{effect}
use Rattle.pg_relation.specs.Moves.{moves_of}
use Rattle.pg_relation.specs.Schedules.{Schedule, first_schedule, next_session, schedule_after, settled_schedule}
use Rattle.pg_relation.specs.Setup.{first_world}

-- the first of a list
abbrev pub first_of_list : {X : Type 0} → List X → Option X
first_of_list [] = None
first_of_list (item ∷ items) = Some item

-- the move that a session makes in a stepped journal: the first of those permitted
abbrev pub chosen : Script → World → Schedule → ℕ → Option EntryAct
chosen script world schedule number = first_of_list (moves_of script world number)

-- each entry is the chosen move of the session that moves next
unfoldable pub IsSteppedFrom : Script → World → Schedule → List Entry → Type 0
IsSteppedFrom script world schedule [] = Unit {0}
IsSteppedFrom script world schedule (entry ∷ entries) =
    (next_session script world schedule ≡ Some entry.session)
    × (chosen script world (settled_schedule script world schedule) entry.session ≡ Some entry.act)
    × IsSteppedFrom script (effect script world entry)
    (schedule_after (settled_schedule script world schedule) entry) entries

-- a journal in the stepped order, from the world after setup with no line taken
abbrev pub IsStepped : Script → List Entry → Type 0
IsStepped script journal = IsSteppedFrom script (first_world script) first_schedule journal
