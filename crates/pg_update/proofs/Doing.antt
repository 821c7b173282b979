-- What a step of an UPDATE or DELETE that has its candidates comes to, by what it does.
use Rattle.std.proofs.Common.{◌≡◌, ◌<◌, ◌+◌, ℕ, Bool, true, false, List, [], ◌∷◌, Option, Some, None, map, refl, ap, sym, subst, ◌∙◌, arith}
use Rattle.std.specs.Prelude.{Ok, Err, if◌then◌else◌, is_ok, nat_lt}
use Rattle.pg_lists.specs.Numbered.{item_at, with_changed_item}
use Rattle.pg_multi.specs.declared.strength.Strength.{Strength}
use Rattle.pg_values.specs.declared.value.Value.{Value}
use Rattle.pg_xacts.specs.Transactions.{Transactions}
use Rattle.pg_heap.specs.Current.{current}
use Rattle.pg_heap.specs.declared.version.Version.{Version}
use Rattle.pg_model.specs.declared.error.SqlError.{SqlError}
use Rattle.pg_model.specs.declared.journal.EntryAct.TheVariants as entry
use Rattle.pg_model.specs.declared.statement.Change.{Change}
use Rattle.pg_world.specs.Changes.{change_strength, locking_choices, name_of, new_values, partners_at, partners_in, partners_locked, row_at, table_at, target_row, values_to_hold, with_target_version}
use Rattle.pg_world.specs.Choosing.{Choice, fails, if_made}
use Rattle.pg_world.specs.Evaluation.{OrError}
use Rattle.pg_world.specs.declared.candidate.SeenRow.{SeenRow}
use Rattle.pg_world.specs.declared.session.Running.{Running}
use Rattle.pg_world.specs.declared.session.Stage.TheVariants.{Found as found, Locked as locked}
use Rattle.pg_world.specs.declared.session.VersionName.{VersionName}
use Rattle.pg_table.specs.Holds.{current_there}
use Rattle.pg_table.specs.States.{IsTable, TableState, row_held_in, row_staged_in, table_shown}
use Rattle.pg_plans.specs.Answers.{IsAnswer, IsAnswerBehind, IsFailure, running_taken_up, taking_up}
use Rattle.pg_plans.specs.declared.act.Act.{Act}
use Rattle.pg_plans.specs.declared.act.Act.TheVariants as answer
use Rattle.pg_relation.specs.Running.{current_in, running_locked, running_passed}
use Rattle.pg_update.specs.declared.look.Look.{Look}
use Rattle.pg_update.specs.declared.look.Look.TheVariants.{ToHold}
use Rattle.pg_update.specs.Looks.{choices_behind, look_at, look_over}
use Rattle.pg_update.specs.Steps.{CanChange, ChangeView, HoldsItsRow, IsHolding, IsHoldingAt, IsStaged, IsStagedIf, IsStep, IsUndrafted, change_choices_in, quiet_left, target_in, target_shown}
use Rattle.pg_update.proofs.Choices.{choices_found, choices_locked}
use Rattle.pg_update.proofs.Looked.{choices_looked, partners_named, values_looked}
use Rattle.pg_update.proofs.Rows.{there_current}
use Rattle.pg_update.proofs.Staged.{staging_shown, staging_staged, table_there}

-- with the candidates known
module _ (machine : ChangeView) (ready : machine.reading ≡ None) (given : List Choice) where
  pub answered : (act : Act) → IsAnswer given act → IsAnswerBehind machine.reading given act
  answered act is = subst (λ reading. IsAnswerBehind reading given act) (sym ready) is

  pub answered_same : (other : List Choice) (act : Act) → given ≡ other → IsAnswerBehind machine.reading other act → IsAnswerBehind machine.reading given act
  answered_same other act same is = subst (λ choices. IsAnswerBehind machine.reading choices act) (sym same) is

  -- the first error of the candidates
  pub failed : (error : SqlError) (act : Act) → given ≡ fails error ∷ [] → IsFailure error act → IsAnswerBehind machine.reading given act
  failed error act choice is = answered act (by act is)
    where
      by : (act : Act) → IsFailure error act → IsAnswer given act
      by (answer.Failed other) is = choice ∙ ap (λ e. fails e ∷ []) (sym is)
      by answer.Memory is = tt
      by (answer.Entry act) is = absurd is
      by answer.Quiet is = absurd is
      by (answer.Blocked on) is = absurd is
      by answer.Done is = absurd is

module _ (change : Change) (tables : List TableState) (transactions : Transactions) (machine : ChangeView) where
  -- it fails, and nothing changes
  pub failed_step : (error : SqlError) (act : Act) → IsFailure error act → IsStep change tables transactions machine act machine tables
  failed_step error (answer.Failed other) is = (refl, refl)
  failed_step error answer.Memory is = (refl, refl)
  failed_step error (answer.Entry act) is = absurd is
  failed_step error answer.Quiet is = absurd is
  failed_step error (answer.Blocked on) is = absurd is
  failed_step error answer.Done is = absurd is

  module _ (ready : machine.reading ≡ None) where
    -- it takes the next candidate up, or is done
    pub taken_step : (count : ℕ) → IsStep change tables transactions machine (taking_up machine.running.candidate count)
        (record machine { running = running_taken_up count machine.running }) tables
    taken_step count = by (nat_lt machine.running.candidate count)
      where
        by : (left : Bool) →
            IsStep change tables transactions machine
            (if left then answer.Entry (entry.Found (machine.running.candidate + 1)) else answer.Done)
            (record machine { running = if left then record machine.running { candidate = machine.running.candidate + 1; stage = found } else machine.running }) tables
        by true = record { running = refl; reading = ready; staged = refl; written = tt; tables_are = refl }
        by false = (refl, refl)

    -- it passes its candidate
    pub passed_step : (act : Act) (after : List TableState) → act ≡ answer.Entry entry.Passed → after ≡ tables →
        IsStep change tables transactions machine act (record machine { running = running_passed machine.running }) after
    passed_step act after is same = rw is (record { running = refl; reading = ready; staged = refl; written = tt; tables_are = same })

    -- it locks its row
    pub held_step : (number row : ℕ) (strength : Strength) (name : VersionName) (after : List TableState) →
        name ≡ current_in (map table_shown tables) transactions number row machine.running.me.xact →
        after ≡ with_changed_item (λ state. row_held_in state machine.running.me.xact row strength) tables number →
        IsStep change tables transactions machine (answer.Entry (entry.Locked number row strength))
        (record machine { running = running_locked name machine.running; staged = false }) after
    held_step number row strength name after named same = record {
      running = ap (λ n. running_locked n machine.running) named;
      reading = ready;
      staged = refl;
      written = tt;
      tables_are = same;
    }

  -- what is permitted where its candidate is found
  module _ (known : is_ok machine.running.candidates ≡ true) where
    module _ (at_found : machine.running.stage ≡ found) where
      made_found : (made : OrError (Option (List Value))) → made ≡ new_values change (partners_in machine.running) →
          change_choices_in change tables transactions machine.running
          ≡ if_made made (λ values. locking_choices change.target.table (table_at (map table_shown tables) change.target.table) transactions machine.running.me (change_strength change.action) (target_in machine.running))
      made_found made is =
          choices_found change tables transactions machine.running known at_found
          ∙ ap (λ o. if_made o (λ values. locking_choices change.target.table (table_at (map table_shown tables) change.target.table) transactions machine.running.me (change_strength change.action) (target_in machine.running))) (sym is)

      pub found_free : (values : Option (List Value)) → Ok values ≡ new_values change (partners_in machine.running) →
          change_choices_in change tables transactions machine.running
          ≡ locking_choices change.target.table (table_at (map table_shown tables) change.target.table) transactions machine.running.me (change_strength change.action) (target_in machine.running)
      found_free values is = made_found (Ok values) is

      pub found_fails : (error : SqlError) → Err error ≡ new_values change (partners_in machine.running) →
          change_choices_in change tables transactions machine.running ≡ fails error ∷ []
      found_fails error is = made_found (Err error) is

    -- and where its row is locked
    module _ (name : VersionName) (at_locked : machine.running.stage ≡ locked name) where
      pub look_leaves : (look : OrError Look) → look ≡ look_at change (target_shown change tables machine.running) name (partners_in machine.running) →
          change_choices_in change tables transactions machine.running ≡ if_made look (choices_behind change (partners_in machine.running))
      look_leaves look is =
          choices_locked change tables transactions machine.running name known at_locked
          ∙ choices_looked change (partners_in machine.running) (target_shown change tables machine.running) name
          ∙ ap (λ o. if_made o (choices_behind change (partners_in machine.running))) (sym is)

      made_locked : (values : List Value) →
          Ok (ToHold (Some values)) ≡ look_at change (target_shown change tables machine.running) name (partners_in machine.running) →
          values_to_hold change (map table_shown tables) machine.running ≡ Ok (Some values)
      made_locked values is =
          ap (λ stage. new_values change (partners_at stage (target_shown change tables machine.running) (partners_in machine.running))) at_locked
          ∙ values_looked change (partners_in machine.running) (target_shown change tables machine.running) name (Some values) (sym is)

      staged_less : machine.reading ≡ None → machine.staged ≡ false → (most : ℕ) →
          quiet_left most (record machine { staged = true }) < quiet_left most machine
      staged_less ready unstaged most = rw (ready, at_locked, unstaged) (omega arith)

      -- it stages what the row is to hold
      pub staged_step : machine.reading ≡ None → machine.staged ≡ false → HoldsItsRow change tables transactions machine.running name →
          CanChange tables change.target.table (target_in machine.running) → (values : List Value) →
          Ok (ToHold (Some values)) ≡ look_at change (target_shown change tables machine.running) name (partners_in machine.running) →
          ((state : TableState) → item_at tables change.target.table ≡ Some state → IsTable state) →
          (after : List TableState) →
          after ≡ with_changed_item (λ state. row_staged_in state machine.running.me (target_in machine.running) values) tables change.target.table →
          IsStep change tables transactions machine answer.Quiet (record machine { staged = true }) after
      staged_step ready unstaged holds can values looked kept after same =
          let there = table_there tables change.target.table (target_in machine.running) holds.version holds.newest_is in
          record {
            less = λ most have. staged_less ready unstaged most;
            nearer = rw ready (record {
              values = values;
              made = made_locked values looked;
              choice = look_leaves (Ok (ToHold (Some values))) looked;
              unstaged = unstaged;
              next_is = refl;
              tables_are = same;
              shown = ap (map table_shown) same ∙ staging_shown tables change.target.table (target_in machine.running) machine.running.me values can kept;
              staged = rw same (staging_staged tables change.target.table (target_in machine.running) machine.running.me values can kept there.0 there.1);
            });
          }

  -- what holds of its row
  module _ (name : VersionName) (at_locked : machine.running.stage ≡ locked name) (holding : IsHolding change tables transactions machine) where
    at_row : IsHoldingAt (locked name) change tables transactions machine
    at_row = subst (λ stage. IsHoldingAt stage change tables transactions machine) at_locked holding

    pub holds_row : HoldsItsRow change tables transactions machine.running name
    holds_row = at_row.0

    pub is_staged : machine.staged ≡ true → IsStaged change tables transactions machine.running
    is_staged is = subst (λ staged. IsStagedIf staged change tables transactions machine.running) is at_row.1

    pub is_undrafted : machine.staged ≡ false → IsUndrafted change tables machine.running
    is_undrafted is = subst (λ staged. IsStagedIf staged change tables transactions machine.running) is at_row.1

-- the look at the version that is current is that at the row that is locked
pub look_held : (change : Change) (tables : List TableState) (transactions : Transactions) (running : Running) (name : VersionName) →
    HoldsItsRow change tables transactions running name → (partners : List SeenRow) → partners ≡ partners_in running → (row : ℕ) → row ≡ target_row partners →
    (version : Version) → Some version ≡ current_there transactions running.me.xact (row_at (table_at (map table_shown tables) change.target.table) row) →
    (look : OrError Look) → look ≡ look_over change name partners (with_target_version version partners) →
    look ≡ look_at change (target_shown change tables running) name (partners_in running)
look_held change tables transactions running name holds partners seen row target version there look is =
    is ∙ ap (λ ones. look_over change name ones (with_target_version version ones)) seen
    ∙ ap (look_over change name (partners_in running)) (sym named)
  where
    shown : current transactions running.me.xact (target_shown change tables running) ≡ Some version
    shown =
        there_current transactions running.me.xact (target_shown change tables running) version
        (sym (there
        ∙ ap (λ n. current_there transactions running.me.xact (row_at (table_at (map table_shown tables) change.target.table) n)) (target ∙ ap target_row seen)))

    same : holds.version ≡ version
    same = cc (sym holds.current_is ∙ shown)

    named : partners_locked (target_shown change tables running) name (partners_in running) ≡ with_target_version version (partners_in running)
    named =
        partners_named (target_shown change tables running) name version (partners_in running)
        (holds.newest_is ∙ ap (λ v. Some v) same) (ap name_of (sym same) ∙ holds.name_is)
