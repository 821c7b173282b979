-- What the choices of an UPDATE or DELETE say of the row that they name.
use Rattle.std.proofs.Common.{◌≡◌, ◌⊎◌, ℕ, Bool, true, false, cond, Contains, List, [], ◌∷◌, length, Option, Some, None, refl, sym, ap, ◌∙◌, subst, inl, inr}
use Rattle.std.specs.Prelude.{◌||◌, Result, Ok, Err, is_none}
use Rattle.std.specs.Option.{option_map_or}
use Rattle.pg_lists.specs.Numbered.{item_at}
use Rattle.pg_values.specs.declared.value.Value.{Value}
use Rattle.pg_multi.specs.declared.strength.Strength.{Strength}
use Rattle.pg_multi.specs.Locks.{blocker}
use Rattle.pg_xacts.specs.declared.me.Me.{Me}
use Rattle.pg_xacts.specs.Transactions.{Transactions}
use Rattle.pg_heap.specs.declared.row.Row.{Row}
use Rattle.pg_heap.specs.declared.version.Version.{Version}
use Rattle.pg_heap.specs.Current.{current_values, newest}
use Rattle.pg_heap.specs.Rows.{version_by}
use Rattle.pg_model.specs.declared.error.SqlError.{SqlError}
use Rattle.pg_model.specs.declared.journal.EntryAct.{EntryAct}
use Rattle.pg_model.specs.declared.journal.EntryAct.TheVariants as entry
use Rattle.pg_model.specs.declared.statement.Change.{Change}
use Rattle.pg_model.specs.declared.statement.Statement.{Statement}
use Rattle.pg_model.specs.declared.statement.Statement.TheVariants as statement
use Rattle.pg_world.specs.declared.candidate.Candidate.{Candidate}
use Rattle.pg_world.specs.declared.candidate.SeenRow.{SeenRow}
use Rattle.pg_world.specs.Candidates.{passes}
use Rattle.pg_world.specs.Changes.{act_on, blocked_or_locked, change_choices_at, change_strength, changing_choices, found_choices, is_as_seen, is_of_command, locked_choices, locking_choices, new_values, partners_in, partners_locked, row_at, second_look, table_at, target_row, with_target_version}
use Rattle.pg_world.specs.Choices.{choices, choices_by, choices_with, insert_choices, placing_choices}
use Rattle.pg_world.specs.Choosing.{Choice, does, fails, if_made, waits}
use Rattle.pg_world.specs.declared.session.Running.{Running}
use Rattle.pg_world.specs.declared.session.Stage.{Stage}
use Rattle.pg_world.specs.declared.session.Stage.TheVariants.{Found as found, Locked as locked}
use Rattle.pg_world.specs.declared.session.VersionName.{VersionName}
use Rattle.pg_world.specs.declared.table.TableView.{TableView}
use Rattle.pg_world.specs.Tables.{locks_on}
use Rattle.pg_relation.proofs.Lists.{contains_none, contains_one}

-- Something is chosen.

made_some : {X : Type 0} (made : Result X SqlError) (behind : X → List Choice) → ((x : X) → behind x ≡ [] → ⊥) →
    if_made made behind ≡ [] → ⊥
made_some (Ok x) behind some none = some x none
made_some (Err error) behind some none = cc none

lock_some : (transactions : Transactions) (table row : ℕ) (strength : Strength) (holder : Option ℕ) →
    blocked_or_locked transactions table row strength holder ≡ [] → ⊥
lock_some transactions table row strength None none = cc none
lock_some transactions table row strength (Some holder) none = cc none

locking_some : (number : ℕ) (table : TableView) (transactions : Transactions) (me : Me) (strength : Strength) (row : ℕ) →
    locking_choices number table transactions me strength row ≡ [] → ⊥
locking_some number table transactions me strength row none =
    at (is_of_command me (newest (row_at table row)) || is_none (current_values transactions me.xact (row_at table row))) none
  where
    at : (b : Bool) → cond b (does entry.Passed ∷ []) (blocked_or_locked transactions number row strength (blocker (locks_on table row) me.xact strength)) ≡ [] → ⊥
    at true none = cc none
    at false none = lock_some transactions number row strength (blocker (locks_on table row) me.xact strength) none

changing_some : (change : Change) (partners : List SeenRow) → changing_choices change partners ≡ [] → ⊥
changing_some change partners none =
    made_some (new_values change partners) (λ values. does (act_on change.target.table (target_row partners) values) ∷ [])
    (λ values none. cc none) none

second_some : (change : Change) (partners : List SeenRow) → second_look change partners ≡ [] → ⊥
second_some change partners none =
    made_some (passes change.condition partners) (λ passed. cond passed (changing_choices change partners) (does entry.Passed ∷ []))
    at none
  where
    at : (passed : Bool) → cond passed (changing_choices change partners) (does entry.Passed ∷ []) ≡ [] → ⊥
    at true none = changing_some change partners none
    at false none = cc none

pub locked_some : (change : Change) (row : Row) (name : VersionName) (partners : List SeenRow) →
    locked_choices change row name partners ≡ [] → ⊥
locked_some change row name partners none = at (is_as_seen name partners) none
  where
    at : (b : Bool) → cond b (changing_choices change (partners_locked row name partners)) (second_look change (partners_locked row name partners)) ≡ [] → ⊥
    at true none = changing_some change (partners_locked row name partners) none
    at false none = second_some change (partners_locked row name partners) none

pub found_some : (change : Change) (tables : List TableView) (transactions : Transactions) (me : Me) (partners : List SeenRow) →
    found_choices change tables transactions me partners ≡ [] → ⊥
found_some change tables transactions me partners none =
    made_some (new_values change partners)
    (λ values. locking_choices change.target.table (table_at tables change.target.table) transactions me (change_strength change.action) (target_row partners))
    (λ values none. locking_some change.target.table (table_at tables change.target.table) transactions me (change_strength change.action) (target_row partners) none) none

-- What is chosen.

made_of : {X : Type 0} (made : Result X SqlError) (behind : X → List Choice) (act : EntryAct) → Contains (if_made made behind) (does act) →
    (x : X) × Contains (behind x) (does act)
made_of (Ok x) behind act is = (x, is)
made_of (Err error) behind act is = let e : fails error ≡ does act = contains_one _ _ is in absurd (cc e)

-- what a Locked that is chosen says
pub record WouldLock (tables : List TableView) (transactions : Transactions) (me : Me) (change : Change) (number table row : ℕ)
    (strength : Strength) : Type 0 where
  pub table_is : change.target.table ≡ table
  pub row_is : number ≡ row
  pub strength_is : change_strength change.action ≡ strength
  pub earlier : is_of_command me (newest (row_at (table_at tables change.target.table) number)) ≡ false
  pub there : is_none (current_values transactions me.xact (row_at (table_at tables change.target.table) number)) ≡ false
  pub free : blocker (locks_on (table_at tables change.target.table) number) me.xact (change_strength change.action) ≡ None

pub would_lock : (tables : List TableView) (transactions : Transactions) (me : Me) (change : Change) (partners : List SeenRow) (table row : ℕ)
    (strength : Strength) → Contains (found_choices change tables transactions me partners) (does (entry.Locked table row strength)) →
    WouldLock tables transactions me change (target_row partners) table row strength
would_lock tables transactions me change partners table row strength is =
    at (is_of_command me (newest one)) (is_none (current_values transactions me.xact one)) refl refl
    (made_of (new_values change partners)
    (λ values. locking_choices change.target.table (table_at tables change.target.table) transactions me (change_strength change.action) (target_row partners))
    (entry.Locked table row strength) is).1
  where
    one : Row
    one = row_at (table_at tables change.target.table) (target_row partners)

    locks : Option ℕ
    locks = blocker (locks_on (table_at tables change.target.table) (target_row partners)) me.xact (change_strength change.action)

    by : is_of_command me (newest one) ≡ false → is_none (current_values transactions me.xact one) ≡ false → (holder : Option ℕ) → locks ≡ holder →
        Contains (blocked_or_locked transactions change.target.table (target_row partners) (change_strength change.action) holder) (does (entry.Locked table row strength)) →
        WouldLock tables transactions me change (target_row partners) table row strength
    by earlier there (Some holder) free is = absurd (let e : waits _ ≡ does (entry.Locked table row strength) = contains_one _ _ is in cc e)
    by earlier there None free is =
        let e : does (entry.Locked change.target.table (target_row partners) (change_strength change.action)) ≡ does (entry.Locked table row strength) =
        contains_one _ _ is in
        record { table_is = cc e; row_is = cc e; strength_is = cc e; earlier = earlier; there = there; free = free }

    at : (own gone : Bool) → is_of_command me (newest one) ≡ own → is_none (current_values transactions me.xact one) ≡ gone →
        Contains (cond (is_of_command me (newest one) || is_none (current_values transactions me.xact one)) (does entry.Passed ∷ [])
        (blocked_or_locked transactions change.target.table (target_row partners) (change_strength change.action) locks)) (does (entry.Locked table row strength)) →
        WouldLock tables transactions me change (target_row partners) table row strength
    at true gone own_is gone_is is =
        let e : does entry.Passed ≡ does (entry.Locked table row strength) = contains_one _ _ (rw own_is at is) in absurd (cc e)
    at false true own_is gone_is is =
        let e : does entry.Passed ≡ does (entry.Locked table row strength) = contains_one _ _ (rw (own_is, gone_is) at is) in absurd (cc e)
    at false false own_is gone_is is = by own_is gone_is locks refl (rw (own_is, gone_is) at is)

-- an Updated or Deleted of a row
abbrev pub IsChangeOf : EntryAct → ℕ → ℕ → Type 0
IsChangeOf act table row = (act ≡ entry.Updated table row) ⊎ (act ≡ entry.Deleted table row)

-- what one that is chosen says
abbrev pub Targets : Change → List SeenRow → ℕ → ℕ → Type 0
Targets change partners table row = (change.target.table ≡ table) × (target_row partners ≡ row)

changing_targets : (change : Change) (partners : List SeenRow) (act : EntryAct) (table row : ℕ) → IsChangeOf act table row →
    Contains (changing_choices change partners) (does act) → Targets change partners table row
changing_targets change partners act table row changes is =
    let made = made_of (new_values change partners) (λ values. does (act_on change.target.table (target_row partners) values) ∷ []) act is in
    at made.0 (contains_one _ _ made.1) changes
  where
    at : (values : Option (List Value)) → does (act_on change.target.table (target_row partners) values) ≡ does act → IsChangeOf act table row →
        Targets change partners table row
    at (Some values) e (inl updated) =
        let f : does (entry.Updated change.target.table (target_row partners)) ≡ does (entry.Updated table row) = e ∙ ap (λ a. does a) updated in
        (cc f, cc f)
    at (Some values) e (inr deleted) =
        absurd (let f : does (entry.Updated change.target.table (target_row partners)) ≡ does (entry.Deleted table row) = e ∙ ap (λ a. does a) deleted in cc f)
    at None e (inl updated) =
        absurd (let f : does (entry.Deleted change.target.table (target_row partners)) ≡ does (entry.Updated table row) = e ∙ ap (λ a. does a) updated in cc f)
    at None e (inr deleted) =
        let f : does (entry.Deleted change.target.table (target_row partners)) ≡ does (entry.Deleted table row) = e ∙ ap (λ a. does a) deleted in
        (cc f, cc f)

second_targets : (change : Change) (partners : List SeenRow) (act : EntryAct) (table row : ℕ) → IsChangeOf act table row →
    Contains (second_look change partners) (does act) → Targets change partners table row
second_targets change partners act table row changes is =
    let made = made_of (passes change.condition partners) (λ passed. cond passed (changing_choices change partners) (does entry.Passed ∷ [])) act is in
    at made.0 made.1
  where
    passed : IsChangeOf act table row → does entry.Passed ≡ does act → ⊥
    passed (inl updated) e = let f : does entry.Passed ≡ does (entry.Updated table row) = e ∙ ap (λ a. does a) updated in cc f
    passed (inr deleted) e = let f : does entry.Passed ≡ does (entry.Deleted table row) = e ∙ ap (λ a. does a) deleted in cc f

    at : (b : Bool) → Contains (cond b (changing_choices change partners) (does entry.Passed ∷ [])) (does act) → Targets change partners table row
    at true is = changing_targets change partners act table row changes is
    at false is = absurd (passed changes (contains_one _ _ is))

-- another version of the target's row is of the same row
pub same_target : (row : Row) (name : VersionName) (partners : List SeenRow) → target_row (partners_locked row name partners) ≡ target_row partners
same_target row name partners = at (version_by name.writer name.command row) partners
  where
    at : (o : Option Version) (partners : List SeenRow) →
        target_row (option_map_or (λ version. with_target_version version partners) o partners) ≡ target_row partners
    at None partners = refl
    at (Some version) [] = refl
    at (Some version) (target ∷ sources) = refl

pub locked_targets : (change : Change) (row : Row) (name : VersionName) (partners : List SeenRow) (act : EntryAct) (table number : ℕ) →
    IsChangeOf act table number → Contains (locked_choices change row name partners) (does act) → Targets change partners table number
locked_targets change row name partners act table number changes is = at (is_as_seen name partners) is
  where
    behind : Targets change (partners_locked row name partners) table number → Targets change partners table number
    behind targets = (targets.0, sym (same_target row name partners) ∙ targets.1)

    at : (b : Bool) → Contains (cond b (changing_choices change (partners_locked row name partners)) (second_look change (partners_locked row name partners))) (does act) →
        Targets change partners table number
    at true is = behind (changing_targets change (partners_locked row name partners) act table number changes is)
    at false is = behind (second_targets change (partners_locked row name partners) act table number changes is)

-- Of which statement.

module _ (tables : List TableView) (transactions : Transactions) (running : Running) (candidates : List Candidate)
    (candidates_are : running.candidates ≡ Ok candidates) where
  -- a choice that is not there
  nothing : {X : Type 0} (own : Statement) (act : EntryAct) (none : choices_with own tables transactions running candidates ≡ []) →
      Contains (choices own tables transactions running) (does act) → X
  nothing own act none is =
      let e : choices own tables transactions running ≡ [] = ap (λ c. choices_by own tables transactions running c) candidates_are ∙ none in
      absurd (contains_none (does act) (subst (λ cs. Contains cs (does act)) e is))

  by_change : (change : Change) (stage : Stage) → running.stage ≡ stage →
      choices (statement.Change change) tables transactions running ≡ change_choices_at change tables transactions running (length candidates) stage
  by_change change stage stage_is = rw (candidates_are, stage_is) refl

  -- only an UPDATE or DELETE locks
  pub locking_change : (own : Statement) (table row : ℕ) (strength : Strength) → running.stage ≡ found →
      Contains (choices own tables transactions running) (does (entry.Locked table row strength)) →
      (change : Change) × (own ≡ statement.Change change)
      × WouldLock tables transactions running.me change (target_row (partners_in running)) table row strength
  locking_change (statement.Change change) table row strength stage_is is = (
    change,
    refl,
    would_lock tables transactions running.me change (partners_in running) table row strength
        (subst (λ cs. Contains cs (does (entry.Locked table row strength))) (by_change change found stage_is) is),
  )
  locking_change (statement.Insert insert) table row strength stage_is is =
      at (item_at tables insert.target.table)
      (subst (λ cs. Contains cs (does (entry.Locked table row strength))) (rw (candidates_are, stage_is) refl) is)
    where
      at : {X : Type 0} (view : Option TableView) → Contains (placing_choices insert.target.table view) (does (entry.Locked table row strength)) → X
      at None is = absurd (contains_none _ is)
      at (Some view) is =
          let e : does (entry.Placed insert.target.table _) ≡ does (entry.Locked table row strength) = contains_one _ _ is in absurd (cc e)
  locking_change (statement.Select select) table row strength stage_is is = nothing (statement.Select select) _ refl is
  locking_change statement.Begin table row strength stage_is is = nothing statement.Begin _ refl is
  locking_change statement.Commit table row strength stage_is is = nothing statement.Commit _ refl is
  locking_change statement.Rollback table row strength stage_is is = nothing statement.Rollback _ refl is

  -- and only one changes a row that is locked
  pub changing_change : (own : Statement) (name : VersionName) (act : EntryAct) (table row : ℕ) → running.stage ≡ locked name →
      IsChangeOf act table row → Contains (choices own tables transactions running) (does act) →
      (change : Change) × (own ≡ statement.Change change) × Targets change (partners_in running) table row
  changing_change (statement.Change change) name act table row stage_is changes is = (
    change,
    refl,
    locked_targets change (row_at (table_at tables change.target.table) (target_row (partners_in running))) name (partners_in running) act table row changes
        (subst (λ cs. Contains cs (does act)) (by_change change (locked name) stage_is) is),
  )
  changing_change (statement.Insert insert) name act table row stage_is changes is =
      nothing (statement.Insert insert) act
      (ap (λ s. insert_choices insert.target.table tables running (length candidates) s) stage_is) is
  changing_change (statement.Select select) name act table row stage_is changes is = nothing (statement.Select select) act refl is
  changing_change statement.Begin name act table row stage_is changes is = nothing statement.Begin act refl is
  changing_change statement.Commit name act table row stage_is changes is = nothing statement.Commit act refl is
  changing_change statement.Rollback name act table row stage_is changes is = nothing statement.Rollback act refl is

-- an UPDATE or DELETE that has locked a row is not done
pub locked_goes_on : (tables : List TableView) (transactions : Transactions) (running : Running) (change : Change) (name : VersionName) →
    running.stage ≡ locked name → choices (statement.Change change) tables transactions running ≡ [] → ⊥
locked_goes_on tables transactions running change name stage_is none = at running.candidates none
  where
    at : (candidates : Result (List Candidate) SqlError) → choices_by (statement.Change change) tables transactions running candidates ≡ [] → ⊥
    at (Err error) none = cc none
    at (Ok candidates) none =
        locked_some change (row_at (table_at tables change.target.table) (target_row (partners_in running))) name (partners_in running)
        (rw stage_is at none)
