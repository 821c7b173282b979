-- The run of a stepped script, one entry after the other.
use Rattle.std.specs.Prelude.{ℕ, List, Option, option_map, option_and_then}
use Rattle.pg_ending.specs.Runs.{RunsTo}
use Rattle.pg_model.specs.declared.journal.Entry.{Entry}
use Rattle.pg_model.specs.declared.script.Script.{Script}
use Rattle.pg_world.specs.Worlds.{World}
use Rattle.pg_relation.specs.Effect.{effect}
use Rattle.pg_relation.specs.Schedules.{Schedule, first_schedule, next_session, schedule_after, settled_schedule}
use Rattle.pg_relation.specs.Stepped.{chosen}
use Rattle.pg_relation.specs.Setup.{first_world}

-- how far a run has come: the world, and the schedule
pub record Run : Type 0 where
  pub world : World
  pub schedule : Schedule

-- a run begins in the world after setup, with no line taken
abbrev pub first_run : Script → Run
first_run script = record { world = first_world script; schedule = first_schedule }

-- the entry of a session: the move that it makes
abbrev pub entry_of : Script → Run → ℕ → Option Entry
entry_of script run number =
    option_map (λ act. record { session = number; act = act })
    (chosen script run.world (settled_schedule script run.world run.schedule) number)

-- the next entry of a run: the chosen move of the session that moves next
abbrev pub run_next : Script → Run → Option Entry
run_next script run =
    option_and_then (entry_of script run) (next_session script run.world run.schedule)

-- the run behind an entry
abbrev pub run_after : Script → Run → Entry → Run
run_after script run entry = record {
  world = effect script run.world entry;
  schedule = schedule_after (settled_schedule script run.world run.schedule) entry;
}

-- the stepped order leads from the start through the entries of a journal to a world and a schedule
unfoldable pub StepsTo : Script → List Entry → World → Schedule → Type 0
StepsTo script journal world schedule =
    RunsTo (run_next script) (run_after script) (first_run script) journal
    (record { world = world; schedule = schedule })
