-- Who has staged new values holds their row, and what it is to write stays as long as the row does.
use Rattle.std.proofs.Common.{◌≡◌, ℕ, List, [], ◌∷◌, map, Option, Some, None, slice_get, refl, sym, ap, ◌∙◌}
use Rattle.std.specs.Prelude.{Result, Ok, Err}
use Rattle.pg_xacts.specs.Transactions.{Transactions}
use Rattle.pg_model.specs.declared.error.SqlError.{SqlError}
use Rattle.pg_model.specs.declared.journal.EntryAct.TheVariants as entry
use Rattle.pg_model.specs.declared.script.Script.{Script}
use Rattle.pg_model.specs.declared.statement.Change.{Change}
use Rattle.pg_model.specs.declared.statement.Statement.TheVariants as statement
use Rattle.pg_world.specs.declared.candidate.Candidate.{Candidate}
use Rattle.pg_world.specs.Changes.{locked_choices, new_values, partners_at, partners_in, row_at, table_at}
use Rattle.pg_world.specs.Choices.{choices, choices_by}
use Rattle.pg_world.specs.Choosing.{does}
use Rattle.pg_world.specs.declared.session.Progress.TheVariants.{Inside as inside}
use Rattle.pg_world.specs.declared.session.Running.{Running}
use Rattle.pg_world.specs.declared.session.SessionView.{SessionView}
use Rattle.pg_world.specs.declared.session.Stage.TheVariants.{Between as between, Locked as locked}
use Rattle.pg_world.specs.declared.session.VersionName.{VersionName}
use Rattle.pg_world.specs.declared.table.TableView.{TableView}
use Rattle.pg_world.specs.Worlds.{World}
use Rattle.pg_relation.specs.Holds.{HoldsRow}
use Rattle.pg_relation.specs.Lines.{statement_at}
use Rattle.pg_scans.specs.Readings.{ReadingView}
use Rattle.pg_table.specs.States.{TableState, table_shown}
use Rattle.pg_update.specs.Steps.{AreStaged, ChangeView, IsStaged, target_in}
use Rattle.pg_board.specs.declared.server.Server.{Server}
use Rattle.pg_board.specs.Servers.{IsRunningOf}
use Rattle.pg_board.proofs.Shapes.{change_act}

-- a statement whose only choice is to write new values has locked their row
pub updating : (change : Change) (tables : List TableView) (transactions : Transactions) (running : Running) (table row : ℕ) →
    choices (statement.Change change) tables transactions running ≡ does (entry.Updated table row) ∷ [] →
    (name : VersionName) × (running.stage ≡ locked name)
updating change tables transactions running table row is =
    let act = change_act change tables transactions running (entry.Updated table row) is in (act.name, act.stage_is)

-- the choices of a statement that has locked its row rest on that row alone
module _ (change : Change) (running : Running) (name : VersionName) (stage_is : running.stage ≡ locked name)
    (tables more : List TableView) (transactions after : Transactions)
    (same : row_at (table_at more change.target.table) (target_in running) ≡ row_at (table_at tables change.target.table) (target_in running)) where
  pub choices_rest : choices (statement.Change change) more after running ≡ choices (statement.Change change) tables transactions running
  choices_rest = at running.candidates
    where
      at : (candidates : Result (List Candidate) SqlError) →
          choices_by (statement.Change change) more after running candidates ≡ choices_by (statement.Change change) tables transactions running candidates
      at (Err error) = refl
      at (Ok candidates) = rw stage_is (ap (λ row. locked_choices change row name (partners_in running)) same)

-- what is staged stays so
pub staged_same : (change : Change) (tables more : List TableState) (transactions after : Transactions) (running : Running) →
    (staged : IsStaged change tables transactions running) →
    row_at (table_at (map table_shown more) change.target.table) (target_in running)
    ≡ row_at (table_at (map table_shown tables) change.target.table) (target_in running) →
    AreStaged change more running staged.values → IsStaged change more after running
staged_same change tables more transactions after running staged same there =
    let at_locked = updating change (map table_shown tables) transactions running change.target.table (target_in running) staged.choice in
    record {
      values = staged.values;
      made = ap (λ row. new_values change (partners_at running.stage row (partners_in running))) same ∙ staged.made;
      choice = choices_rest change running at_locked.0 at_locked.1 (map table_shown tables) (map table_shown more) transactions after same ∙ staged.choice;
      staged = there;
    }

-- a session that has staged new values has its candidates, and holds their row
pub record HoldsStaged (script : Script) (world : World) (number : ℕ) (change : Change) (machine : ChangeView) (running : Running) : Type 0 where
  pub running_is : running ≡ machine.running
  pub planned : machine.reading ≡ None
  pub holds : HoldsRow script world number change.target.table (target_in machine.running)

pub held_by : (script : Script) (server : Server) (world : World) (number : ℕ) (shown : SessionView) →
    slice_get world.sessions number ≡ Some shown → (change : Change) → statement_at script number shown ≡ Some (Ok (statement.Change change)) →
    (machine : ChangeView) (running : Running) → shown.progress ≡ inside running →
    IsRunningOf server.tables server.xacts (statement.Change change) machine.running machine.reading running →
    IsStaged change server.tables server.xacts machine.running → HoldsStaged script world number change machine running
held_by script server world number shown there change given machine running stands runs staged = at machine.reading refl runs
  where
    at_locked : (name : VersionName) × (machine.running.stage ≡ locked name)
    at_locked =
        updating change (map table_shown server.tables) server.xacts machine.running change.target.table (target_in machine.running) staged.choice

    at : (reading : Option ReadingView) → machine.reading ≡ reading →
        IsRunningOf server.tables server.xacts (statement.Change change) machine.running reading running →
        HoldsStaged script world number change machine running
    at (Some reading) planned is =
        absurd (let e : locked at_locked.0 ≡ between = sym at_locked.1 ∙ ap (λ r. r.stage) is.reads.begun in cc e)
    at None planned is = record {
      running_is = is;
      planned = planned;
      holds = record {
        session = shown;
        is = there;
        running = running;
        inside_is = stands;
        change = change;
        statement_is = given;
        name = at_locked.0;
        stage_is = ap (λ r. r.stage) is ∙ at_locked.1;
        table_is = refl;
        row_is = ap target_in is;
      };
    }
