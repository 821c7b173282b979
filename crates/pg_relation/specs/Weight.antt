-- The weight of a world, which falls with each permitted entry: so a run ends.
use Rattle.std.specs.Prelude.{ℕ, ◌+◌, ◌-◌, ◌*◌, List, [], ◌∷◌, ◌++◌, length, Option, None, Some, sum_by}
use Rattle.pg_ending.specs.Totals.{totals}
use Rattle.pg_xacts.specs.declared.on.On.{On}
use Rattle.pg_model.specs.declared.script.Script.{Script}
use Rattle.pg_world.specs.Replies.{candidate_list}
use Rattle.pg_world.specs.declared.session.Progress.{Progress}
use Rattle.pg_world.specs.declared.session.Running.{Running}
use Rattle.pg_world.specs.declared.session.SessionView.{SessionView}
use Rattle.pg_world.specs.declared.session.Stage.{Stage}
use Rattle.pg_world.specs.declared.session.Progress.TheVariants.{Idle as idle, Inside as inside, Ending as ending, Closed as closed}
use Rattle.pg_world.specs.declared.session.Stage.TheVariants.{Between as between, Found as found, Locked as locked, Placed as placed}
use Rattle.pg_world.specs.Worlds.{World}
use Rattle.pg_relation.specs.Lines.{statements_left}

-- 1 until the session has ended
abbrev pub unended_count : Progress → ℕ
unended_count idle = 1
unended_count (inside running) = 1
unended_count (ending tag) = 1
unended_count closed = 0

-- 1 inside a statement, and 0 elsewhere
abbrev pub statements_begun : Progress → ℕ
statements_begun idle = 0
statements_begun (inside running) = 1
statements_begun (ending tag) = 1
statements_begun closed = 0

-- the statements of the session without a reply that have no entry yet
abbrev pub unbegun_count : Script → ℕ → SessionView → ℕ
unbegun_count script number session =
    length (statements_left script number session) - statements_begun session.progress

-- 1 while a transaction is open
abbrev pub open_count : Option ℕ → ℕ
open_count None = 0
open_count (Some xact) = 1

-- 1 while the candidate taken up last has not had its act
abbrev pub under_way_count : Stage → ℕ
under_way_count between = 0
under_way_count found = 1
under_way_count (locked name) = 1
under_way_count (placed row) = 1

-- for a statement 3 for each candidate not taken up, 2 for the one under way, and 1 for each that
-- has had its act
abbrev pub candidates_left : Running → ℕ
candidates_left running =
    3 * (length (candidate_list running.candidates) - running.candidate)
    + (running.candidate + under_way_count running.stage)

-- and elsewhere nothing
abbrev pub candidates_unfinished : Progress → ℕ
candidates_unfinished idle = 0
candidates_unfinished (inside running) = candidates_left running
candidates_unfinished (ending tag) = 0
candidates_unfinished closed = 0

-- 1 unless a row is placed or locked at the stage
abbrev pub unplaced_count_at : Stage → ℕ
unplaced_count_at between = 1
unplaced_count_at found = 1
unplaced_count_at (locked name) = 0
unplaced_count_at (placed row) = 0

-- 1 unless a row is placed, or the candidate's row is locked
abbrev pub unplaced_count : Progress → ℕ
unplaced_count idle = 1
unplaced_count (inside running) = unplaced_count_at running.stage
unplaced_count (ending tag) = 1
unplaced_count closed = 1

-- the numbers of a session: that it has not ended, its statements without a reply, those of them
-- without an entry, its open transaction, its statement's candidates, and that no row is placed or
-- locked
abbrev pub numbers : Script → List (ℕ → SessionView → ℕ)
numbers script =
    (λ number session. unended_count session.progress)
    ∷ (λ number session. length (statements_left script number session))
    ∷ (λ number session. unbegun_count script number session)
    ∷ (λ number session. open_count session.transaction)
    ∷ (λ number session. candidates_unfinished session.progress)
    ∷ (λ number session. unplaced_count session.progress)
    ∷ []

-- 1 unless a wait stands
abbrev pub unwaiting_count : Option On → ℕ
unwaiting_count None = 1
unwaiting_count (Some on) = 0

-- each number, summed over the sessions, and how many of these wait for nobody
abbrev pub weight : Script → World → List ℕ
weight script world =
    totals (numbers script) world.sessions ++ sum_by unwaiting_count world.waits ∷ []
