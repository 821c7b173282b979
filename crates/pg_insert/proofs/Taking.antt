-- An INSERT takes up its next candidate, or is done.
use Rattle.std.proofs.Common.{◌≡◌, ◌≢◌, ◌+◌, ◌≤◌, ℕ, Bool, true, false, List, refl, arith}
use Rattle.std.specs.Prelude.{if◌then◌else◌, nat_lt}
use Rattle.pg_xacts.specs.Transactions.{Transactions}
use Rattle.pg_model.specs.declared.journal.EntryAct.TheVariants as entry
use Rattle.pg_world.specs.declared.session.Running.{Running}
use Rattle.pg_world.specs.declared.session.Stage.TheVariants.{Found as found}
use Rattle.pg_table.specs.States.{TableState}
use Rattle.pg_plans.specs.Answers.{running_taken_up, taking_up}
use Rattle.pg_plans.specs.declared.act.Act.{Act}
use Rattle.pg_plans.specs.declared.act.Act.TheVariants as answer
use Rattle.pg_insert.specs.Steps.{IsCounted, running_after, tables_after}

module _ (running : Running) where
  abbrev found_next : Running
  found_next = record running { candidate = running.candidate + 1; stage = found }

  abbrev answer_by : Bool → Act
  answer_by taken = if taken then answer.Entry (entry.Found (running.candidate + 1)) else answer.Done

  -- the statement behind it
  pub machine_taken : (tables : List TableState) (transactions : Transactions) (count : ℕ) →
      running_taken_up count running ≡ running_after tables transactions (taking_up running.candidate count) running
  machine_taken tables transactions count = by (nat_lt running.candidate count)
    where
      by : (taken : Bool) → (if taken then found_next else running) ≡ running_after tables transactions (answer_by taken) running
      by true = refl
      by false = refl

  -- the tables stay
  pub tables_taken : (tables : List TableState) (count : ℕ) → tables ≡ tables_after (taking_up running.candidate count) running tables
  tables_taken tables count = by (nat_lt running.candidate count)
    where
      by : (taken : Bool) → tables ≡ tables_after (answer_by taken) running tables
      by true = refl
      by false = refl

  -- no step is quiet
  pub taken_not_quiet : (count : ℕ) → taking_up running.candidate count ≢ answer.Quiet
  taken_not_quiet count = by (nat_lt running.candidate count)
    where
      by : (taken : Bool) → answer_by taken ≢ answer.Quiet
      by true = λ is. cc is
      by false = λ is. cc is

  -- and each candidate is counted
  pub counted_taken : (count : ℕ) → IsCounted running → IsCounted (running_taken_up count running)
  counted_taken count is = by (nat_lt running.candidate count)
    where
      by : (taken : Bool) → IsCounted (if taken then found_next else running)
      by true = omega (arith, is)
      by false = is
