-- Which acts a machine may make: what kinds of choices INSERT, UPDATE and DELETE have.
use Rattle.std.proofs.Common.{◌≡◌, ◌||◌, ◌+◌, ℕ, Bool, true, false, cond, List, [], ◌∷◌, length, Option, Some, None, nat_lt, is_none, refl, sym, ap, ◌∙◌, subst}
use Rattle.std.specs.Prelude.{Result, Ok, Err}
use Rattle.pg_lists.specs.Numbered.{item_at}
use Rattle.pg_multi.specs.Locks.{blocker}
use Rattle.pg_values.specs.declared.value.Value.{Value}
use Rattle.pg_xacts.specs.Transactions.{Transactions}
use Rattle.pg_heap.specs.Current.{current_values, newest}
use Rattle.pg_heap.specs.declared.row.Row.{Row}
use Rattle.pg_model.specs.declared.error.SqlError.{SqlError}
use Rattle.pg_model.specs.declared.journal.EntryAct.{EntryAct}
use Rattle.pg_model.specs.declared.journal.EntryAct.TheVariants as entry
use Rattle.pg_model.specs.declared.statement.Change.{Change}
use Rattle.pg_model.specs.declared.statement.Insert.{Insert}
use Rattle.pg_model.specs.declared.statement.Select.{Select}
use Rattle.pg_model.specs.declared.statement.Statement.TheVariants as statement
use Rattle.pg_world.specs.declared.candidate.Candidate.{Candidate}
use Rattle.pg_world.specs.declared.candidate.SeenRow.{SeenRow}
use Rattle.pg_world.specs.Candidates.{passes}
use Rattle.pg_world.specs.Changes.{act_on, blocked_or_locked, change_choices_at, change_strength, changing_choices, is_as_seen, is_of_command, locked_choices, locking_choices, new_values, partners_in, partners_locked, row_at, second_look, table_at, target_row}
use Rattle.pg_world.specs.Choices.{choices, choices_by, insert_choices, placing_choices}
use Rattle.pg_world.specs.Choosing.{Choice, does, if_made}
use Rattle.pg_world.specs.declared.session.Running.{Running}
use Rattle.pg_world.specs.declared.session.Stage.{Stage}
use Rattle.pg_world.specs.declared.session.Stage.TheVariants.{Between as between, Found as found, Locked as locked, Placed as placed}
use Rattle.pg_world.specs.declared.session.VersionName.{VersionName}
use Rattle.pg_world.specs.declared.table.TableView.{TableView}
use Rattle.pg_world.specs.Tables.{locks_on}
use Rattle.pg_relation.proofs.Deciding.{same_target}
use Rattle.pg_update.specs.Steps.{target_in}

-- an act of an INSERT: it takes a candidate up, places a row, or stores the one that it has placed
abbrev pub IsInsertAct : Insert → Running → EntryAct → Type 0
IsInsertAct insert running (entry.Found candidate) = Unit {0}
IsInsertAct insert running (entry.Placed table row) = Unit {0}
IsInsertAct insert running (entry.Inserted table row) = (table ≡ insert.target.table) × (running.stage ≡ placed row)
IsInsertAct insert running _ = ⊥

-- the row of the candidate, which is locked
pub record IsLockedRow (change : Change) (running : Running) (table row : ℕ) : Type 0 where
  pub table_is : table ≡ change.target.table
  pub row_is : row ≡ target_in running
  pub name : VersionName
  pub stage_is : running.stage ≡ locked name

-- an act of an UPDATE or DELETE: it takes a candidate up, passes it, locks a row, or changes the row that it has locked
abbrev pub IsChangeAct : Change → Running → EntryAct → Type 0
IsChangeAct change running (entry.Found candidate) = Unit {0}
IsChangeAct change running entry.Passed = Unit {0}
IsChangeAct change running (entry.Locked table row strength) = Unit {0}
IsChangeAct change running (entry.Updated table row) = IsLockedRow change running table row
IsChangeAct change running (entry.Deleted table row) = IsLockedRow change running table row
IsChangeAct change running _ = ⊥

module _ (P : EntryAct → Type 0) (act : EntryAct) where
  -- of a list of one choice
  single : (one : EntryAct) → P one → does one ∷ [] ≡ does act ∷ [] → P act
  single one has is = let e : one ≡ act = cc is in subst P e has

  maybe : (one : EntryAct) → P one → (b : Bool) → cond b (does one ∷ []) [] ≡ does act ∷ [] → P act
  maybe one has true is = single one has is
  maybe one has false is = absurd (cc is)

-- a SELECT has no act
pub select_act : (select : Select) (tables : List TableView) (transactions : Transactions) (running : Running) (act : EntryAct) →
    choices (statement.Select select) tables transactions running ≡ does act ∷ [] → ⊥
select_act select tables transactions running act is = at running.candidates is
  where
    at : (candidates : Result (List Candidate) SqlError) →
        choices_by (statement.Select select) tables transactions running candidates ≡ does act ∷ [] → ⊥
    at (Err error) e = cc e
    at (Ok candidates) e = cc e

module _ (insert : Insert) (tables : List TableView) (transactions : Transactions) (running : Running) (act : EntryAct) where
  abbrev fits : EntryAct → Type 0
  fits one = IsInsertAct insert running one

  pub insert_act : choices (statement.Insert insert) tables transactions running ≡ does act ∷ [] → IsInsertAct insert running act
  insert_act is = at running.candidates is
    where
      into : (table : Option TableView) → placing_choices insert.target.table table ≡ does act ∷ [] → IsInsertAct insert running act
      into None e = absurd (cc e)
      into (Some table) e = single fits act _ tt e

      by_stage : (count : ℕ) (stage : Stage) → running.stage ≡ stage →
          insert_choices insert.target.table tables running count stage ≡ does act ∷ [] → IsInsertAct insert running act
      by_stage count between stage_is e = maybe fits act (entry.Found (running.candidate + 1)) tt (nat_lt running.candidate count) e
      by_stage count found stage_is e = into (item_at tables insert.target.table) e
      by_stage count (locked name) stage_is e = absurd (cc e)
      by_stage count (placed row) stage_is e = single fits act (entry.Inserted insert.target.table row) (refl, stage_is) e

      at : (candidates : Result (List Candidate) SqlError) →
          choices_by (statement.Insert insert) tables transactions running candidates ≡ does act ∷ [] → IsInsertAct insert running act
      at (Err error) e = absurd (cc e)
      at (Ok candidates) e = by_stage (length candidates) running.stage refl e

module _ (change : Change) (tables : List TableView) (transactions : Transactions) (running : Running) (act : EntryAct) where
  abbrev suits : EntryAct → Type 0
  suits one = IsChangeAct change running one

  -- a candidate that is found is passed, or its row is locked
  of_found : (values : Result (Option (List Value)) SqlError) →
      if_made values
      (λ held. locking_choices change.target.table (table_at tables change.target.table) transactions running.me
      (change_strength change.action) (target_row (partners_in running)))
      ≡ does act ∷ [] → IsChangeAct change running act
  of_found (Err error) is = absurd (cc is)
  of_found (Ok held) is =
      by
      (is_of_command running.me (newest (row_at (table_at tables change.target.table) (target_row (partners_in running))))
      || is_none (current_values transactions running.me.xact (row_at (table_at tables change.target.table) (target_row (partners_in running)))))
      is
    where
      lock : (holder : Option ℕ) →
          blocked_or_locked transactions change.target.table (target_row (partners_in running)) (change_strength change.action) holder
          ≡ does act ∷ [] → IsChangeAct change running act
      lock None e = single suits act (entry.Locked change.target.table (target_row (partners_in running)) (change_strength change.action)) tt e
      lock (Some holder) e = absurd (cc e)

      by : (b : Bool) →
          cond b (does entry.Passed ∷ [])
          (blocked_or_locked transactions change.target.table (target_row (partners_in running)) (change_strength change.action)
          (blocker (locks_on (table_at tables change.target.table) (target_row (partners_in running))) running.me.xact (change_strength change.action)))
          ≡ does act ∷ [] → IsChangeAct change running act
      by true e = single suits act entry.Passed tt e
      by false e =
          lock (blocker (locks_on (table_at tables change.target.table) (target_row (partners_in running))) running.me.xact (change_strength change.action)) e

  -- a candidate whose row is locked is passed, or the row is changed
  module _ (name : VersionName) (stage_is : running.stage ≡ locked name) (partners : List SeenRow) (same : target_row partners ≡ target_in running) where
    this_row : IsLockedRow change running change.target.table (target_row partners)
    this_row = record { table_is = refl; row_is = same; name = name; stage_is = stage_is }

    of_changing : changing_choices change partners ≡ does act ∷ [] → IsChangeAct change running act
    of_changing is = at (new_values change partners) is
      where
        at : (values : Result (Option (List Value)) SqlError) →
            if_made values (λ held. does (act_on change.target.table (target_row partners) held) ∷ []) ≡ does act ∷ [] → IsChangeAct change running act
        at (Err error) e = absurd (cc e)
        at (Ok None) e = single suits act (entry.Deleted change.target.table (target_row partners)) this_row e
        at (Ok (Some values)) e = single suits act (entry.Updated change.target.table (target_row partners)) this_row e

    of_look : second_look change partners ≡ does act ∷ [] → IsChangeAct change running act
    of_look is = at (passes change.condition partners) is
      where
        by : (b : Bool) → cond b (changing_choices change partners) (does entry.Passed ∷ []) ≡ does act ∷ [] → IsChangeAct change running act
        by true e = of_changing e
        by false e = single suits act entry.Passed tt e

        at : (passed : Result Bool SqlError) →
            if_made passed (λ b. cond b (changing_choices change partners) (does entry.Passed ∷ [])) ≡ does act ∷ [] → IsChangeAct change running act
        at (Err error) e = absurd (cc e)
        at (Ok b) e = by b e

  pub change_act : choices (statement.Change change) tables transactions running ≡ does act ∷ [] → IsChangeAct change running act
  change_act is = at running.candidates is
    where
      row : Row
      row = row_at (table_at tables change.target.table) (target_row (partners_in running))

      by_look : (name : VersionName) → running.stage ≡ locked name → (b : Bool) →
          cond b (changing_choices change (partners_locked row name (partners_in running))) (second_look change (partners_locked row name (partners_in running)))
          ≡ does act ∷ [] → IsChangeAct change running act
      by_look name stage_is true e =
          of_changing name stage_is (partners_locked row name (partners_in running)) (same_target row name (partners_in running)) e
      by_look name stage_is false e =
          of_look name stage_is (partners_locked row name (partners_in running)) (same_target row name (partners_in running)) e

      by_stage : (count : ℕ) (stage : Stage) → running.stage ≡ stage →
          change_choices_at change tables transactions running count stage ≡ does act ∷ [] → IsChangeAct change running act
      by_stage count between stage_is e = maybe suits act (entry.Found (running.candidate + 1)) tt (nat_lt running.candidate count) e
      by_stage count found stage_is e = of_found (new_values change (partners_in running)) e
      by_stage count (locked name) stage_is e = by_look name stage_is (is_as_seen name (partners_in running)) e
      by_stage count (placed number) stage_is e = absurd (cc e)

      at : (candidates : Result (List Candidate) SqlError) →
          choices_by (statement.Change change) tables transactions running candidates ≡ does act ∷ [] → IsChangeAct change running act
      at (Err error) e = absurd (cc e)
      at (Ok candidates) e = by_stage (length candidates) running.stage refl e
