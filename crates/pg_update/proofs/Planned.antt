-- An UPDATE or DELETE that has read its tables gets its candidates.
use Rattle.std.proofs.Common.{◌≡◌, ◌<◌, ◌+◌, ℕ, List, [], Some, None, map, true, refl, ap, ap₂, sym, subst, ◌∙◌, arith}
use Rattle.std.specs.Prelude.{Ok, IfSome}
use Rattle.pg_xacts.specs.Transactions.{Transactions}
use Rattle.pg_model.specs.declared.statement.Change.{Change}
use Rattle.pg_model.specs.declared.statement.Statement.TheVariants as statement
use Rattle.pg_world.specs.Candidates.{candidates_of, candidates_over, change_candidates, seen_by}
use Rattle.pg_world.specs.Evaluation.{OrError}
use Rattle.pg_world.specs.Sessions.{first_running}
use Rattle.pg_world.specs.declared.candidate.Candidate.{Candidate}
use Rattle.pg_world.specs.declared.session.Running.{Running}
use Rattle.pg_table.specs.States.{TableState, table_shown}
use Rattle.pg_scans.proofs.Bounds.{last_reading}
use Rattle.pg_scans.specs.Readings.{HaveVersions, IsReading, ReadingView, is_all_read, pieces_left, seen_in}
use Rattle.pg_update.specs.Steps.{ChangeView, GoesOn, IsChanging, IsReadingFor, change_planned, reading_left, stagings_at}

-- one that reads no more, with these candidates
abbrev with_candidates : ChangeView → OrError (List Candidate) → ChangeView
with_candidates machine candidates =
    record machine { running = record machine.running { candidates = candidates }; reading = None }

abbrev first_with : ChangeView → OrError (List Candidate) → ChangeView
first_with machine candidates =
    record machine { running = first_running machine.running.me machine.running.snapshot candidates; reading = None }

-- one that has read on
abbrev with_reading : ChangeView → ReadingView → ChangeView
with_reading machine reading = record machine { reading = Some reading }

module _ (change : Change) (tables : List TableState) (transactions : Transactions) (reading : ReadingView) where
  -- what was seen is what the statement sees
  seen_all : (running : Running) → IsReadingFor change tables transactions running reading → is_all_read reading ≡ true →
      reading.seen ≡ seen_by (statement.Change change) (map table_shown tables) transactions reading.snapshot.commits reading.me
  seen_all running is done =
      last_reading tables transactions reading is.collected done ∙ ap (map (seen_in tables transactions reading)) is.tables_are

  over_seen : (seen : List _) → reading.seen ≡ seen → change_candidates change reading.seen ≡ candidates_over (statement.Change change) seen
  unfolding candidates_over
  over_seen seen e = ap (change_candidates change) e

  -- so it has the candidates of what it sees
  planned : (machine : ChangeView) → IsReadingFor change tables transactions machine.running reading → is_all_read reading ≡ true →
      with_candidates machine (change_candidates change reading.seen) ≡ change_planned change tables transactions machine
  planned machine is done = by machine.running is.begun ∙ ap (first_with machine) candidates_are
    where
      by : (running : Running) → running ≡ first_running reading.me reading.snapshot.commits (Ok []) →
          with_candidates (record machine { running = running }) (change_candidates change reading.seen)
          ≡ first_with (record machine { running = running }) (change_candidates change reading.seen)
      by running e = rw e refl

      candidates_are : change_candidates change reading.seen
          ≡ candidates_of (statement.Change change) (map table_shown tables) transactions machine.running.snapshot machine.running.me
      candidates_are =
          over_seen (seen_by (statement.Change change) (map table_shown tables) transactions reading.snapshot.commits reading.me) (seen_all machine.running is done)
          ∙ ap₂ (λ commits me. candidates_of (statement.Change change) (map table_shown tables) transactions commits me)
          (sym (ap (λ r. r.snapshot) is.begun)) (sym (ap (λ r. r.me) is.begun))

module _ (change : Change) (tables : List TableState) (transactions : Transactions) (machine : ChangeView) (reading : ReadingView)
    (at : machine.reading ≡ Some reading) (changing : IsChanging change tables transactions machine) where
  pub for_it : IsReadingFor change tables transactions machine.running reading
  for_it = subst (λ o. IfSome o (IsReadingFor change tables transactions machine.running)) at changing

  -- while it reads nothing is locked
  none_staged : stagings_at machine.running.stage machine.staged ≡ 0
  none_staged = ap (λ running. stagings_at running.stage machine.staged) for_it.begun

  pub goes_on : (candidates : OrError (List Candidate)) → true ≡ is_all_read reading → candidates ≡ change_candidates change reading.seen →
      GoesOn change tables transactions machine (with_candidates machine candidates) tables
  goes_on candidates done are = record {
    less = λ most have. subst (λ o. 0 + stagings_at machine.running.stage machine.staged < reading_left most o + stagings_at machine.running.stage machine.staged) (sym at) (omega arith);
    nearer = rw at (
      refl,
      record {
        changing = tt;
        reached = ap (with_candidates machine) are ∙ planned change tables transactions reading machine for_it (sym done);
      },
    );
  }

  -- it has read a piece
  pub reads_on : (later : ReadingView) → IsReading tables transactions later →
      ((most : ℕ) → HaveVersions most tables → pieces_left most later < pieces_left most reading) →
      later ≡ record reading { seen = later.seen; part = later.part; from = later.from } →
      GoesOn change tables transactions machine (with_reading machine later) tables
  reads_on later collected less same = record {
    less = λ most have.
        let h = less most have in
        subst (λ o. (1 + pieces_left most later) + stagings_at machine.running.stage machine.staged < reading_left most o + stagings_at machine.running.stage machine.staged)
        (sym at) (omega (arith, h));
    nearer = rw at (
      refl,
      record {
        changing = record {
          tables_are = ap (λ r. r.tables) same ∙ for_it.tables_are;
          collected = collected;
          begun = for_it.begun ∙ ap₂ (λ me snapshot. first_running me snapshot.commits (Ok [])) (sym (ap (λ r. r.me) same)) (sym (ap (λ r. r.snapshot) same));
        };
        reached = refl;
      },
    );
  }
