-- What an UPDATE or DELETE may do next, by its stage, and by the answer of a table whose row it wants.
use Rattle.std.proofs.Common.{◌≡◌, ◌||◌, ℕ, Bool, true, false, List, [], ◌∷◌, Option, Some, None, is_none, length, map, unwrap_or, refl, ap, sym, ◌∙◌}
use Rattle.std.specs.Prelude.{Ok, Err, if◌then◌else◌, is_ok}
use Rattle.pg_multi.specs.declared.strength.Strength.{Strength}
use Rattle.pg_multi.specs.Locks.{blocker}
use Rattle.pg_xacts.specs.declared.me.Me.{Me}
use Rattle.pg_xacts.specs.declared.on.On.{On}
use Rattle.pg_xacts.specs.Transactions.{Transactions, beginner_of}
use Rattle.pg_heap.specs.Current.{current_values, newest}
use Rattle.pg_model.specs.declared.journal.EntryAct.TheVariants as entry
use Rattle.pg_model.specs.declared.statement.Change.{Change}
use Rattle.pg_model.specs.declared.statement.Statement.TheVariants as statement
use Rattle.pg_world.specs.Changes.{blocked_or_locked, change_choices_at, found_choices, is_of_command, locked_choices, locking_choices, partners_in, row_at}
use Rattle.pg_world.specs.Choices.{choices_by}
use Rattle.pg_world.specs.Choosing.{Choice, does, waits}
use Rattle.pg_world.specs.Evaluation.{OrError}
use Rattle.pg_world.specs.Tables.{locks_on}
use Rattle.pg_world.specs.Worlds.{until_end}
use Rattle.pg_world.specs.declared.candidate.Candidate.{Candidate}
use Rattle.pg_world.specs.declared.session.Running.{Running}
use Rattle.pg_world.specs.declared.session.Stage.{Stage}
use Rattle.pg_world.specs.declared.session.Stage.TheVariants.{Found as found, Locked as locked}
use Rattle.pg_world.specs.declared.session.VersionName.{VersionName}
use Rattle.pg_world.specs.declared.table.TableView.{TableView}
use Rattle.pg_table.specs.declared.hold.Hold.{Hold}
use Rattle.pg_table.specs.declared.hold.Hold.TheVariants.{Own, Gone, Blocked, Held}
use Rattle.pg_table.specs.Holds.{hold_answer, hold_by}
use Rattle.pg_table.specs.States.{TableState, table_shown}
use Rattle.pg_update.specs.Steps.{change_choices_in, target_shown}

-- by the stage

module _ (change : Change) (tables : List TableState) (transactions : Transactions) (running : Running) where
  pub choices_at : (candidates : List Candidate) (stage : Stage) → running.candidates ≡ Ok candidates → running.stage ≡ stage →
      change_choices_in change tables transactions running
      ≡ change_choices_at change (map table_shown tables) transactions running (length candidates) stage
  choices_at candidates stage known is =
      ap (choices_by (statement.Change change) (map table_shown tables) transactions running) known
      ∙ ap (change_choices_at change (map table_shown tables) transactions running (length candidates)) is

  planned : (made : OrError (List Candidate)) → running.candidates ≡ made → is_ok running.candidates ≡ true →
      (candidates : List Candidate) × (running.candidates ≡ Ok candidates)
  planned (Ok candidates) is known = (candidates, is)
  planned (Err error) is known = absurd (let e : false ≡ true = ap (λ made. is_ok made) (sym is) ∙ known in cc e)

  pub choices_found : is_ok running.candidates ≡ true → running.stage ≡ found →
      change_choices_in change tables transactions running
      ≡ found_choices change (map table_shown tables) transactions running.me (partners_in running)
  choices_found known is = let p = planned running.candidates refl known in choices_at p.0 found p.1 is

  pub choices_locked : (name : VersionName) → is_ok running.candidates ≡ true → running.stage ≡ locked name →
      change_choices_in change tables transactions running
      ≡ locked_choices change (target_shown change tables running) name (partners_in running)
  choices_locked name known is = let p = planned running.candidates refl known in choices_at p.0 (locked name) p.1 is

-- by the answer

module _ (number : ℕ) (table : TableView) (transactions : Transactions) (me : Me) (strength : Strength) (row : ℕ) where
  abbrev choices_by_hold : Hold → List Choice
  choices_by_hold Own = does entry.Passed ∷ []
  choices_by_hold Gone = does entry.Passed ∷ []
  choices_by_hold (Blocked on) = waits on.session ∷ []
  choices_by_hold Held = does (entry.Locked number row strength) ∷ []

  pub choices_held : (hold : Hold) → hold ≡ hold_answer table transactions me row strength →
      locking_choices number table transactions me strength row ≡ choices_by_hold hold
  choices_held answer is =
      at (is_of_command me (newest (row_at table row))) (is_none (current_values transactions me.xact (row_at table row)))
      (blocker (locks_on table row) me.xact strength)
      ∙ ap choices_by_hold (sym is)
    where
      at : (own gone : Bool) (other : Option ℕ) →
          (if own || gone then does entry.Passed ∷ [] else blocked_or_locked transactions number row strength other)
          ≡ choices_by_hold (if own then Own else if gone then Gone else hold_by transactions other)
      at true gone other = refl
      at false true other = refl
      at false false None = refl
      at false false (Some xact) = refl

  -- who is waited for is so until its transaction ends
  pub until_held : (on : On) → Blocked on ≡ hold_answer table transactions me row strength → on ≡ until_end on.session
  until_held on is =
      at (is_of_command me (newest (row_at table row))) (is_none (current_values transactions me.xact (row_at table row)))
      (blocker (locks_on table row) me.xact strength) is
    where
      at : (own gone : Bool) (other : Option ℕ) → Blocked on ≡ (if own then Own else if gone then Gone else hold_by transactions other) →
          on ≡ until_end on.session
      at true gone other is = absurd (cc is)
      at false true other is = absurd (cc is)
      at false false None is = absurd (cc is)
      at false false (Some xact) is =
          let e : on ≡ until_end (unwrap_or (beginner_of transactions xact) 0) = cc is in
          e ∙ ap until_end (sym (ap (λ o. o.session) e))

  -- what is held is there
  pub there_held : Held ≡ hold_answer table transactions me row strength → is_none (current_values transactions me.xact (row_at table row)) ≡ false
  there_held is =
      at (is_of_command me (newest (row_at table row))) (is_none (current_values transactions me.xact (row_at table row)))
      (blocker (locks_on table row) me.xact strength) is
    where
      at : (own gone : Bool) (other : Option ℕ) → Held ≡ (if own then Own else if gone then Gone else hold_by transactions other) → gone ≡ false
      at true gone other is = absurd (cc is)
      at false true other is = absurd (cc is)
      at false false other is = refl
