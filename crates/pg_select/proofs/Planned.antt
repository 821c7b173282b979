-- A SELECT that has read its tables gets its candidates.
use Rattle.std.proofs.Common.{◌≡◌, ◌<◌, List, [], Some, None, map, true, refl, ap, ap₂, sym, subst, ◌∙◌, arith}
use Rattle.std.specs.Prelude.{Ok, IfSome}
use Rattle.pg_xacts.specs.Transactions.{Transactions}
use Rattle.pg_model.specs.declared.statement.Select.{Select}
use Rattle.pg_model.specs.declared.statement.Statement.TheVariants as statement
use Rattle.pg_world.specs.Candidates.{candidates_of, candidates_over, select_candidates, seen_by}
use Rattle.pg_world.specs.Evaluation.{OrError}
use Rattle.pg_world.specs.Sessions.{first_running}
use Rattle.pg_world.specs.declared.candidate.Candidate.{Candidate}
use Rattle.pg_world.specs.declared.session.Running.{Running}
use Rattle.pg_table.specs.States.{TableState, table_shown}
use Rattle.pg_scans.proofs.Bounds.{last_reading}
use Rattle.pg_scans.specs.Readings.{ReadingView, is_all_read, seen_in}
use Rattle.pg_select.specs.Steps.{GoesOn, IsReadingFor, IsSelecting, SelectView, quiet_steps, select_planned}

-- a SELECT that reads no more, with these candidates
abbrev with_candidates : Running → OrError (List Candidate) → SelectView
with_candidates running candidates = record { running = record running { candidates = candidates }; reading = None }

abbrev first_with : Running → OrError (List Candidate) → SelectView
first_with running candidates = record { running = first_running running.me running.snapshot candidates; reading = None }

module _ (select : Select) (tables : List TableState) (transactions : Transactions) (reading : ReadingView) where
  -- what was seen is what the statement sees
  seen_all : (running : Running) → IsReadingFor select tables transactions running reading → is_all_read reading ≡ true →
      reading.seen ≡ seen_by (statement.Select select) (map table_shown tables) transactions reading.snapshot.commits reading.me
  seen_all running is done =
      last_reading tables transactions reading is.collected done ∙ ap (map (seen_in tables transactions reading)) is.tables_are

  over_seen : (seen : List _) → reading.seen ≡ seen → select_candidates select reading.seen ≡ candidates_over (statement.Select select) seen
  unfolding candidates_over
  over_seen seen e = ap (select_candidates select) e

  -- so it has the candidates of what it sees
  planned : (running : Running) → IsReadingFor select tables transactions running reading → is_all_read reading ≡ true →
      with_candidates running (select_candidates select reading.seen) ≡ select_planned select tables transactions running
  planned running is done =
      by running is.begun
      ∙ ap (first_with running) candidates_are
    where
      by : (running : Running) → running ≡ first_running reading.me reading.snapshot.commits (Ok []) →
          with_candidates running (select_candidates select reading.seen) ≡ first_with running (select_candidates select reading.seen)
      by running e = rw e refl

      candidates_are : select_candidates select reading.seen
          ≡ candidates_of (statement.Select select) (map table_shown tables) transactions running.snapshot running.me
      candidates_are =
          over_seen (seen_by (statement.Select select) (map table_shown tables) transactions reading.snapshot.commits reading.me) (seen_all running is done)
          ∙ ap₂ (λ commits me. candidates_of (statement.Select select) (map table_shown tables) transactions commits me)
          (sym (ap (λ r. r.snapshot) is.begun)) (sym (ap (λ r. r.me) is.begun))

pub goes_on : (select : Select) (tables : List TableState) (transactions : Transactions) (machine : SelectView) (reading : ReadingView)
    (candidates : OrError (List Candidate)) → machine.reading ≡ Some reading → IsSelecting select tables transactions machine →
    true ≡ is_all_read reading → candidates ≡ select_candidates select reading.seen →
    GoesOn select tables transactions machine (with_candidates machine.running candidates)
goes_on select tables transactions machine reading candidates at selecting done are = record {
  less = λ most _. subst (λ o. 0 < quiet_steps most o) (sym at) (omega arith);
  selecting = tt;
  reached =
      ap (with_candidates machine.running) are
      ∙ planned select tables transactions reading machine.running
      (subst (λ o. IfSome o (IsReadingFor select tables transactions machine.running)) at selecting) (sym done);
}
