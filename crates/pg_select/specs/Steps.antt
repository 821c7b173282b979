-- A step of a plain SELECT: it goes over its tables piece by piece, then it has its candidates, and
-- then it is done or fails. All that is not named stays as it was.
use Rattle.std.specs.Prelude.{ℕ, ◌≡◌, ◌+◌, ◌<◌, List, [], map, Option, None, Some, Ok, Err, IfSome, MatchOption}
use Rattle.pg_xacts.specs.declared.me.Me.{Me}
use Rattle.pg_xacts.specs.Snapshots.{SnapshotView}
use Rattle.pg_xacts.specs.Transactions.{Transactions}
use Rattle.pg_model.specs.declared.statement.Select.{Select}
use Rattle.pg_model.specs.declared.statement.Statement.TheVariants as statement
use Rattle.pg_world.specs.Candidates.{candidates_of, table_of_source}
use Rattle.pg_world.specs.declared.candidate.Candidate.{Candidate}
use Rattle.pg_world.specs.Choices.{choices}
use Rattle.pg_world.specs.Choosing.{Choice}
use Rattle.pg_world.specs.Evaluation.{OrError}
use Rattle.pg_world.specs.Sessions.{first_running}
use Rattle.pg_world.specs.declared.session.Running.{Running}
use Rattle.pg_table.specs.States.{TableState, table_shown}
use Rattle.pg_scans.specs.Readings.{HaveVersions, IsReading, ReadingView, new_reading, pieces_left}
use Rattle.pg_plans.specs.declared.act.Act.{Act}
use Rattle.pg_plans.specs.declared.act.Act.TheVariants as answer

-- how far the statement has come, and until it has its candidates how far it has read
pub record SelectView : Type 0 where
  pub running : Running
  pub reading : Option ReadingView

-- the tables of the sources, in the order written
abbrev pub tables_of : Select → List ℕ
tables_of select = map table_of_source select.sources

-- a SELECT that has its snapshot and has read nothing
abbrev pub new_select : Select → Me → SnapshotView → SelectView
new_select select me snapshot =
    record {
      running = first_running me snapshot.commits (Ok []);
      reading = Some (new_reading me snapshot (tables_of select));
    }

-- While it reads, it reads the tables of its sources, by the snapshot of the statement; what it has
-- collected is what it sees; and it has no candidates yet.
pub record IsReadingFor (select : Select) (tables : List TableState) (transactions : Transactions)
    (running : Running) (reading : ReadingView) : Type 0 where
  pub tables_are : reading.tables ≡ tables_of select
  pub collected : IsReading tables transactions reading
  pub begun : running ≡ first_running reading.me reading.snapshot.commits (Ok [])

-- what holds of a SELECT while it reads
abbrev pub IsSelecting : Select → List TableState → Transactions → SelectView → Type 0
IsSelecting select tables transactions machine =
    IfSome machine.reading (IsReadingFor select tables transactions machine.running)

-- a SELECT that has read its tables, with the candidates of what it sees, or their first error
abbrev pub select_planned : Select → List TableState → Transactions → Running → SelectView
select_planned select tables transactions running =
    record {
      running = first_running running.me running.snapshot
          (candidates_of (statement.Select select) (map table_shown tables) transactions
          running.snapshot running.me);
      reading = None;
    }

-- the quiet steps that are left at most, where no table has more than so many versions: one for each
-- piece, and one for the candidates
abbrev pub quiet_steps : ℕ → Option ReadingView → ℕ
quiet_steps most None = 0
quiet_steps most (Some reading) = 1 + pieces_left most reading

-- those of a SELECT
abbrev pub quiet_left : ℕ → SelectView → ℕ
quiet_left most machine = quiet_steps most machine.reading

-- what a SELECT may do next, by what the tables show
abbrev pub select_choices_in : Select → List TableState → Transactions → Running → List Choice
select_choices_in select tables transactions running =
    choices (statement.Select select) (map table_shown tables) transactions running

-- a statement whose candidates are known is done, or fails with their error where there is memory
-- for it
abbrev pub IsOutcome : OrError (List Candidate) → Act → Type 0
IsOutcome candidates answer.Memory = Unit {0}
IsOutcome (Ok candidates) answer.Done = Unit {0}
IsOutcome (Err error) (answer.Failed given) = given ≡ error
IsOutcome _ _ = ⊥

-- A quiet step: fewer are left; the statement stays as it was while it reads, and then it has its
-- candidates.
pub record GoesOn (select : Select) (tables : List TableState) (transactions : Transactions)
    (machine next : SelectView) : Type 0 where
  pub less : (most : ℕ) → HaveVersions most tables → quiet_left most next < quiet_left most machine
  pub selecting : IsSelecting select tables transactions next
  pub reached : MatchOption next.reading
      (next ≡ select_planned select tables transactions machine.running)
      (λ reading. next.running ≡ machine.running)
