-- The words of the laws over all journals.
use Rattle.std.specs.Prelude.{ℕ, ◌≡◌, ◌<◌, Bool, true, List, length, map, Option, Some}
use Rattle.pg_waits.specs.Chains.{IsRing}
use Rattle.pg_xacts.specs.declared.on.On.{On}
use Rattle.pg_model.specs.Printed.{session_name}
use Rattle.pg_model.specs.declared.journal.Entry.{Entry}
use Rattle.pg_model.specs.declared.journal.EntryAct.TheVariants.{Closed}
use Rattle.pg_model.specs.declared.script.Script.{Script}
use Rattle.pg_model.specs.declared.statement.Statement.{Statement}
use Rattle.pg_world.specs.declared.candidate.Candidate.{Candidate}
use Rattle.pg_world.specs.declared.candidate.SeenRow.{SeenRow}
use Rattle.pg_world.specs.Candidates.{candidates_of, seen_of_table}
use Rattle.pg_world.specs.Evaluation.{OrError}
use Rattle.pg_world.specs.declared.session.Running.{Running}
use Rattle.pg_world.specs.declared.session.SessionView.{SessionView}
use Rattle.pg_world.specs.declared.session.Progress.TheVariants.{Closed as closed}
use Rattle.pg_world.specs.Worlds.{World, session_of}
use Rattle.pg_relation.specs.Effect.{effect}
use Rattle.pg_relation.specs.Journals.{IsComplete, acts_of, last_of}
use Rattle.pg_relation.specs.Moves.{IsPermitted}
use Rattle.pg_relation.specs.Stepped.{IsStepped}
use Rattle.pg_relation.specs.Setup.{first_world}

-- the world after setup passes the test, and each permitted entry leaves a world that passes
pub record IsKept (script : Script) (test : World → Bool) : Type 0 where
  pub first : test (first_world script) ≡ true
  pub kept : (world : World) (entry : Entry) → test world ≡ true → IsPermitted script world entry →
      test (effect script world entry) ≡ true

-- each session of the world has ended
abbrev pub AreClosed : World → Type 0
AreClosed world =
    (number : ℕ) (session : SessionView) → session_of world number ≡ Some session →
    session.progress ≡ closed

-- the last act of each session of the script is that it ends
abbrev pub HaveAllEnded : Script → List Entry → Type 0
HaveAllEnded script journal =
    (number : ℕ) → number < length script.sessions → last_of (acts_of number journal) ≡ Some Closed

-- the names are those of the cycle that the session would close by a wait for another: the session
-- itself, that one, and so on, each of which waits for the next, and the last of them for the
-- session
abbrev pub IsCycleNamed : Script → List (Option On) → ℕ → List (List ℕ) → Type 0
IsCycleNamed script waits number names =
    (other : ℕ) × (ring : List ℕ) × IsRing waits number other ring
    × (names ≡ map (session_name script) ring)

-- the journal that a stepped script has
pub record IsCompleteStepped (script : Script) (journal : List Entry) : Type 0 where
  pub stepped : IsStepped script journal
  pub complete : IsComplete script journal

-- the candidates of an open statement, where it read its tables now
abbrev pub candidates_now : Statement → World → Running → OrError (List Candidate)
candidates_now given world running =
    candidates_of given world.tables world.transactions running.snapshot running.me

-- what an open statement sees of the table of that number now
abbrev pub seen_now : World → Running → ℕ → List SeenRow
seen_now world running table =
    seen_of_table world.tables world.transactions running.snapshot running.me table
