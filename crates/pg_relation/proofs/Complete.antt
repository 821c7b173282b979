-- A stepped script has one complete stepped journal.
use Rattle.std.proofs.Common.{◌≡◌, ℕ, List, [], ◌∷◌, Option, Some, None, refl, sym, ◌∙◌}
use Rattle.pg_ending.specs.Runs.{IsRunOf, RunsTo}
use Rattle.pg_ending.proofs.Ending.{runs_once, runs_to_end, run_is_one}
use Rattle.pg_model.specs.declared.script.Script.{Script}
use Rattle.pg_model.specs.declared.journal.Entry.{Entry}
use Rattle.pg_world.specs.Worlds.{World}
use Rattle.pg_relation.specs.Journals.{IsComplete}
use Rattle.pg_relation.specs.Schedules.{Schedule, next_session}
use Rattle.pg_relation.specs.Stepped.{IsSteppedFrom, IsStepped}
use Rattle.pg_relation.specs.Sound.{HasSoundWaits, IsSound}
use Rattle.pg_relation.specs.Weight.{weight}
use Rattle.pg_relation.specs.Runs.{Run, first_run, run_next, run_after, StepsTo}
use Rattle.pg_relation.proofs.Kept.{waits_after}
use Rattle.pg_relation.proofs.Runs.{next_from, run_falls, steps_stepped, steps_world, legal_stepped}
use Rattle.pg_relation.proofs.Schedules.{next_moves, none_closed, closed_none}
use Rattle.pg_relation.proofs.Sound.{sound_after}
use Rattle.pg_relation.proofs.Replies.{complete_when_closed, closed_when_complete}

-- the world of a run is sound
pub steps_sound : (script : Script) (journal : List Entry) (world : World) (schedule : Schedule) →
    StepsTo script journal world schedule → IsSound script world
steps_sound script journal world schedule steps =
    rw (steps_world script journal world schedule steps)
    (sound_after script journal (legal_stepped script journal (steps_stepped script journal world schedule steps)))

-- and its waits are
pub steps_waits : (script : Script) (journal : List Entry) (world : World) (schedule : Schedule) →
    StepsTo script journal world schedule → HasSoundWaits world
steps_waits script journal world schedule steps =
    rw (steps_world script journal world schedule steps)
    (waits_after script journal (legal_stepped script journal (steps_stepped script journal world schedule steps)))

-- where no session moves next, the journal is complete
pub steps_complete : (script : Script) (journal : List Entry) (world : World) (schedule : Schedule) →
    StepsTo script journal world schedule → next_session script world schedule ≡ None → IsComplete script journal
steps_complete script journal world schedule steps none =
    let is = steps_world script journal world schedule steps in
    let legal = legal_stepped script journal (steps_stepped script journal world schedule steps) in
    complete_when_closed script journal legal
    (λ number session here.
    none_closed script world schedule number session (steps_waits script journal world schedule steps) none (rw is here))

-- a run leads somewhere, where no entry is next
run_end : (script : Script) (from : Run) (entries : List Entry) → IsRunOf (run_next script) (run_after script) from entries →
    (to : Run) × RunsTo (run_next script) (run_after script) from entries to × (run_next script to ≡ None)
run_end script from [] run = (from, refl, run)
run_end script from (entry ∷ entries) run =
    let behind = run_end script (run_after script from entry) entries run.1 in (behind.0, (run.0, behind.1), behind.2)

-- there, no session moves next
no_next : (script : Script) (run : Run) → IsSound script run.world → HasSoundWaits run.world → run_next script run ≡ None →
    next_session script run.world run.schedule ≡ None
no_next script run sound waits none = at (next_session script run.world run.schedule) refl
  where
    at : (o : Option ℕ) → next_session script run.world run.schedule ≡ o → next_session script run.world run.schedule ≡ None
    at None is = is
    at (Some number) is =
        let m = next_moves script run.world run.schedule number sound waits is in
        absurd (let e = sym none ∙ next_from script run number m.act is m.first in cc e)

-- a stepped journal leads somewhere
run_of_stepped : (script : Script) (from : Run) (entries : List Entry) →
    IsSteppedFrom script from.world from.schedule entries →
    (to : Run) × RunsTo (run_next script) (run_after script) from entries to
unfolding IsSteppedFrom
run_of_stepped script from [] stepped = (from, refl)
run_of_stepped script from (entry ∷ entries) stepped =
    let behind = run_of_stepped script (run_after script from entry) entries stepped.2 in
    (behind.0, (next_from script from entry.session entry.act stepped.0 stepped.1, behind.1))

pub steps_of_stepped : (script : Script) (journal : List Entry) → IsStepped script journal →
    (to : Run) × StepsTo script journal to.world to.schedule
unfolding StepsTo
steps_of_stepped script journal stepped = run_of_stepped script (first_run script) journal stepped

-- there is a complete stepped journal
pub stepped_exists : (script : Script) → (journal : List Entry) × IsStepped script journal × IsComplete script journal
unfolding StepsTo
stepped_exists script =
    let run = runs_once (run_next script) (run_after script) (λ r. weight script r.world) (run_falls script) (first_run script) in
    let to = run_end script (first_run script) run.0 run.1 in
    let sound = steps_sound script run.0 to.0.world to.0.schedule to.1 in
    let waits = steps_waits script run.0 to.0.world to.0.schedule to.1 in (
      run.0,
      steps_stepped script run.0 to.0.world to.0.schedule to.1,
      steps_complete script run.0 to.0.world to.0.schedule to.1 (no_next script to.0 sound waits to.2),
    )

-- a complete one takes all the entries of the run
run_of_complete : (script : Script) (journal : List Entry) → IsStepped script journal → IsComplete script journal →
    IsRunOf (run_next script) (run_after script) (first_run script) journal
unfolding StepsTo
run_of_complete script journal stepped complete =
    let to = steps_of_stepped script journal stepped in
    let ended = closed_when_complete script journal (legal_stepped script journal stepped) complete in
    let is = steps_world script journal to.0.world to.0.schedule to.1 in
    let none = closed_none script to.0.world to.0.schedule (λ number session here. ended number session (rw (← is) here)) in
    runs_to_end (run_next script) (run_after script) (first_run script) journal to.0 to.1 (rw none refl)

-- and there is no other
pub stepped_once : (script : Script) (one other : List Entry) → IsStepped script one → IsComplete script one →
    IsStepped script other → IsComplete script other → one ≡ other
stepped_once script one other stepped complete other_stepped other_complete =
    run_is_one (run_next script) (run_after script) (first_run script) one other
    (run_of_complete script one stepped complete) (run_of_complete script other other_stepped other_complete)
