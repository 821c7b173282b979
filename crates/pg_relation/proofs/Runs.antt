-- The run of a stepped script: its weight falls, and its entries are a stepped journal.
use Rattle.std.proofs.Common.{◌≡◌, ◌<◌, ℕ, List, [], ◌∷◌, ◌++◌, Option, Some, None, refl, ap, subst}
use Rattle.std.specs.Prelude.{option_map, option_and_then}
use Rattle.pg_ending.specs.Runs.{Falls, RunsTo}
use Rattle.pg_ending.proofs.Ending.{steps_left, steps_fall, runs_to_more}
use Rattle.pg_model.specs.declared.journal.Entry.{Entry}
use Rattle.pg_model.specs.declared.journal.EntryAct.{EntryAct}
use Rattle.pg_model.specs.declared.script.Script.{Script}
use Rattle.pg_world.specs.Worlds.{World}
use Rattle.pg_relation.specs.Effect.{effect}
use Rattle.pg_relation.specs.Journals.{IsLegalFrom, IsLegal, world_from, world_after}
use Rattle.pg_relation.specs.Moves.{moves_of, IsPermitted}
use Rattle.pg_relation.specs.Runs.{Run, first_run, entry_of, run_next, run_after, StepsTo}
use Rattle.pg_relation.specs.Schedules.{Schedule, first_schedule, next_session, schedule_after, settled_schedule}
use Rattle.pg_relation.specs.Stepped.{chosen, IsSteppedFrom, IsStepped}
use Rattle.pg_relation.specs.Setup.{first_world}
use Rattle.pg_relation.specs.Weight.{weight}
use Rattle.pg_relation.proofs.Journals.{first_contained}
use Rattle.pg_relation.proofs.Weight.{weight_falls}

-- the next entry is made by the session that moves next, and is the move chosen for it
pub record IsNext (script : Script) (run : Run) (entry : Entry) : Type 0 where
  pub session : next_session script run.world run.schedule ≡ Some entry.session
  pub move : chosen script run.world (settled_schedule script run.world run.schedule) entry.session ≡ Some entry.act

pub next_parts : (script : Script) (run : Run) (entry : Entry) → run_next script run ≡ Some entry → IsNext script run entry
next_parts script run entry is = at (next_session script run.world run.schedule) refl is
  where
    at_act : (number : ℕ) (act : Option EntryAct) → next_session script run.world run.schedule ≡ Some number →
        chosen script run.world (settled_schedule script run.world run.schedule) number ≡ act →
        option_map (λ a. record { session = number; act = a }) act ≡ Some entry → IsNext script run entry
    at_act number None next move made = absurd (cc made)
    at_act number (Some act) next move made =
        let e : record { session = number; act = act } ≡ entry = cc made in
        subst (λ d. IsNext script run d) e (record { session = next; move = move })

    at : (number : Option ℕ) → next_session script run.world run.schedule ≡ number →
        option_and_then (entry_of script run) number ≡ Some entry → IsNext script run entry
    at None next made = absurd (cc made)
    at (Some number) next made =
        at_act number (chosen script run.world (settled_schedule script run.world run.schedule) number) next refl made

pub next_from : (script : Script) (run : Run) (number : ℕ) (act : EntryAct) →
    next_session script run.world run.schedule ≡ Some number →
    chosen script run.world (settled_schedule script run.world run.schedule) number ≡ Some act →
    run_next script run ≡ Some (record { session = number; act = act })
next_from script run number act next move = rw next (rw move refl)

-- the chosen move is permitted
pub next_permitted : (script : Script) (run : Run) (entry : Entry) → run_next script run ≡ Some entry →
    IsPermitted script run.world entry
next_permitted script run entry is =
    first_contained (moves_of script run.world entry.session) entry.act (next_parts script run entry is).move

pub run_falls : (script : Script) → Falls (run_next script) (run_after script) (λ run. weight script run.world)
run_falls script run entry is = weight_falls script run.world entry (next_permitted script run entry is)

-- how many entries are to come: the measure of a loop that makes them
unfoldable pub entries_left : Script → World → Schedule → ℕ
entries_left script world schedule =
    steps_left (run_next script) (run_after script) (λ run. weight script run.world) (record { world = world; schedule = schedule })

-- one turn of the loop: the measure falls
pub entries_fall : (script : Script) (old new : World) (before behind : Schedule) (number : ℕ) (act : EntryAct) →
    next_session script old before ≡ Some number → chosen script old (settled_schedule script old before) number ≡ Some act →
    new ≡ effect script old (record { session = number; act = act }) →
    behind ≡ schedule_after (settled_schedule script old before) (record { session = number; act = act }) →
    entries_left script new behind < entries_left script old before
unfolding entries_left
entries_fall script old new before behind number act next first new_is behind_is =
    let run : Run = record { world = old; schedule = before } in
    let entry : Entry = record { session = number; act = act } in
    let is = next_from script run number act next first in
    steps_fall (run_next script) (run_after script) (λ r. weight script r.world) run (record { world = new; schedule = behind }) entry
    (rw (new_is, behind_is) refl) is (run_falls script run entry is)

-- nothing was done at the start
pub steps_to_first : (script : Script) → StepsTo script [] (first_world script) first_schedule
unfolding StepsTo
steps_to_first script = refl

-- and what was done grows by the next entry
pub steps_to_more : (script : Script) (journal : List Entry) (old new : World) (before behind : Schedule)
    (number : ℕ) (act : EntryAct) →
    next_session script old before ≡ Some number → chosen script old (settled_schedule script old before) number ≡ Some act →
    new ≡ effect script old (record { session = number; act = act }) →
    behind ≡ schedule_after (settled_schedule script old before) (record { session = number; act = act }) →
    StepsTo script journal old before → StepsTo script (journal ++ record { session = number; act = act } ∷ []) new behind
unfolding StepsTo
steps_to_more script journal old new before behind number act next first new_is behind_is steps =
    rw (new_is, behind_is) (runs_to_more (run_next script) (run_after script) (first_run script) journal
    (record { world = old; schedule = before }) (record { session = number; act = act }) steps
    (next_from script (record { world = old; schedule = before }) number act next first))

-- what is left of a run is stepped, and leads to its world
stepped_runs : (script : Script) (from to : Run) (entries : List Entry) →
    RunsTo (run_next script) (run_after script) from entries to →
    IsSteppedFrom script from.world from.schedule entries × (to.world ≡ world_from script from.world entries)
unfolding IsSteppedFrom world_from
stepped_runs script from to [] runs = (tt, ap (λ run. run.world) runs)
stepped_runs script from to (entry ∷ entries) runs =
    let next = next_parts script from entry runs.0 in
    let behind = stepped_runs script (run_after script from entry) to entries runs.1 in
    ((next.session, next.move, behind.0), behind.1)

-- the entries are a stepped journal
pub steps_stepped : (script : Script) (journal : List Entry) (world : World) (schedule : Schedule) →
    StepsTo script journal world schedule → IsStepped script journal
unfolding StepsTo
steps_stepped script journal world schedule steps =
    (stepped_runs script (first_run script) (record { world = world; schedule = schedule }) journal steps).0

-- that leaves the world
pub steps_world : (script : Script) (journal : List Entry) (world : World) (schedule : Schedule) →
    StepsTo script journal world schedule → world ≡ world_after script journal
unfolding StepsTo
steps_world script journal world schedule steps =
    (stepped_runs script (first_run script) (record { world = world; schedule = schedule }) journal steps).1

-- a stepped journal is legal
legal_stepped_from : (script : Script) (world : World) (schedule : Schedule) (entries : List Entry) →
    IsSteppedFrom script world schedule entries → IsLegalFrom script world entries
unfolding IsSteppedFrom IsLegalFrom
legal_stepped_from script world schedule [] stepped = tt
legal_stepped_from script world schedule (entry ∷ entries) stepped = (
  first_contained (moves_of script world entry.session) entry.act stepped.1,
  legal_stepped_from script (effect script world entry) (schedule_after (settled_schedule script world schedule) entry) entries stepped.2,
)

pub legal_stepped : (script : Script) (journal : List Entry) → IsStepped script journal → IsLegal script journal
legal_stepped script journal stepped = legal_stepped_from script (first_world script) first_schedule journal stepped
