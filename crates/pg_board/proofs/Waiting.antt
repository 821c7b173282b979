-- A session whose statement has to wait can ask for the wait: it waits for another session, and for nobody yet.
use Rattle.std.proofs.Common.{◌≡◌, ◌≢◌, ◌<◌, ◌+◌, ◌||◌, ℕ, Bool, true, false, cond, List, [], ◌∷◌, length, Option, Some, None, Contains, nat_lt, is_none, slice_get, arith, refl, sym, ap, ◌∙◌, subst}
use Rattle.std.specs.Prelude.{Result, Ok, Err, unwrap_or}
use Rattle.std.proofs.lemmas.Option.{slice_get_within}
use Rattle.pg_lists.specs.Numbered.{item_at}
use Rattle.pg_multi.specs.declared.strength.Strength.{Strength}
use Rattle.pg_multi.specs.Locks.{blocker}
use Rattle.pg_values.specs.declared.value.Value.{Value}
use Rattle.pg_waits.specs.Chains.{ring_of}
use Rattle.pg_xacts.specs.Transactions.{Transactions, beginner_of}
use Rattle.pg_heap.specs.Current.{current_values, newest}
use Rattle.pg_model.specs.declared.error.SqlError.{SqlError}
use Rattle.pg_model.specs.declared.journal.Entry.{Entry}
use Rattle.pg_model.specs.declared.journal.EntryAct.TheVariants as entry
use Rattle.pg_model.specs.declared.script.Script.{Script}
use Rattle.pg_model.specs.declared.statement.Change.{Change}
use Rattle.pg_model.specs.declared.statement.Insert.{Insert}
use Rattle.pg_model.specs.declared.statement.Statement.{Statement}
use Rattle.pg_model.specs.declared.statement.Statement.TheVariants as statement
use Rattle.pg_world.specs.declared.candidate.Candidate.{Candidate}
use Rattle.pg_world.specs.declared.candidate.SeenRow.{SeenRow}
use Rattle.pg_world.specs.Candidates.{passes}
use Rattle.pg_world.specs.Changes.{act_on, blocked_or_locked, change_choices_at, change_strength, changing_choices, is_as_seen, is_of_command, locking_choices, new_values, partners_in, partners_locked, row_at, second_look, table_at, target_row}
use Rattle.pg_world.specs.Choices.{choices, choices_by, choices_with, insert_choices, placing_choices}
use Rattle.pg_world.specs.Choosing.{does, if_made, waits}
use Rattle.pg_world.specs.declared.session.Progress.TheVariants.{Inside as inside}
use Rattle.pg_world.specs.declared.session.Running.{Running}
use Rattle.pg_world.specs.declared.session.SessionView.{SessionView}
use Rattle.pg_world.specs.declared.session.Stage.{Stage}
use Rattle.pg_world.specs.declared.session.Stage.TheVariants.{Between as between, Found as found, Locked as locked, Placed as placed}
use Rattle.pg_world.specs.declared.table.TableView.{TableView}
use Rattle.pg_world.specs.Tables.{locks_on}
use Rattle.pg_world.specs.Worlds.{World}
use Rattle.pg_relation.specs.Journals.{IsLegal, world_after}
use Rattle.pg_relation.specs.Lines.{statement_at}
use Rattle.pg_relation.specs.Needs.{IsBlocked}
use Rattle.pg_relation.proofs.Blocked.{held_apart, held_open}
use Rattle.pg_relation.proofs.Kept.{reached_after}
use Rattle.pg_relation.proofs.Sound.{sound_after}
use Rattle.pg_relation.proofs.Waited.{blocked_open, locks_after}

-- the candidate is found, and another transaction holds a lock on its row that conflicts
pub record HasToWait (tables : List TableView) (transactions : Transactions) (running : Running) (other : ℕ) : Type 0 where
  pub candidates : List Candidate
  pub candidates_are : running.candidates ≡ Ok candidates
  pub stage_is : running.stage ≡ found
  pub table : ℕ
  pub row : ℕ
  pub strength : Strength
  pub holder : ℕ
  pub held : blocker (locks_on (table_at tables table) row) running.me.xact strength ≡ Some holder
  pub beginner : other ≡ unwrap_or (beginner_of transactions holder) 0

module _ (tables : List TableView) (transactions : Transactions) (running : Running) (other : ℕ) (candidates : List Candidate)
    (candidates_are : running.candidates ≡ Ok candidates) where
  -- an UPDATE or DELETE that has locked its row does not wait
  not_changing : (change : Change) (partners : List SeenRow) → changing_choices change partners ≡ waits other ∷ [] → ⊥
  not_changing change partners is = at (new_values change partners) is
    where
      at : (values : Result (Option (List Value)) SqlError) →
          if_made values (λ held. does (act_on change.target.table (target_row partners) held) ∷ []) ≡ waits other ∷ [] → ⊥
      at (Err error) e = cc e
      at (Ok values) e = cc e

  not_looking : (change : Change) (partners : List SeenRow) → second_look change partners ≡ waits other ∷ [] → ⊥
  not_looking change partners is = at (passes change.condition partners) is
    where
      by : (b : Bool) → cond b (changing_choices change partners) (does entry.Passed ∷ []) ≡ waits other ∷ [] → ⊥
      by true e = not_changing change partners e
      by false e = cc e

      at : (passed : Result Bool SqlError) →
          if_made passed (λ b. cond b (changing_choices change partners) (does entry.Passed ∷ [])) ≡ waits other ∷ [] → ⊥
      at (Err error) e = cc e
      at (Ok b) e = by b e

  not_locked : (change : Change) (partners : List SeenRow) (b : Bool) →
      cond b (changing_choices change partners) (second_look change partners) ≡ waits other ∷ [] → ⊥
  not_locked change partners true e = not_changing change partners e
  not_locked change partners false e = not_looking change partners e

  -- one that has found its row does, where the row is held
  of_found : (change : Change) → running.stage ≡ found → (values : Result (Option (List Value)) SqlError) →
      if_made values
      (λ held. locking_choices change.target.table (table_at tables change.target.table) transactions running.me
      (change_strength change.action) (target_row (partners_in running)))
      ≡ waits other ∷ [] → HasToWait tables transactions running other
  of_found change stage_is (Err error) is = absurd (cc is)
  of_found change stage_is (Ok held) is =
      by
      (is_of_command running.me (newest (row_at (table_at tables change.target.table) (target_row (partners_in running))))
      || is_none (current_values transactions running.me.xact (row_at (table_at tables change.target.table) (target_row (partners_in running)))))
      is
    where
      lock : (holder : Option ℕ) →
          blocker (locks_on (table_at tables change.target.table) (target_row (partners_in running))) running.me.xact (change_strength change.action) ≡ holder →
          blocked_or_locked transactions change.target.table (target_row (partners_in running)) (change_strength change.action) holder ≡ waits other ∷ [] →
          HasToWait tables transactions running other
      lock None held e = absurd (cc e)
      lock (Some holder) held e =
          let f : waits (unwrap_or (beginner_of transactions holder) 0) ∷ [] ≡ waits other ∷ [] = e in
          let g : unwrap_or (beginner_of transactions holder) 0 ≡ other = cc f in
          record {
            candidates = candidates;
            candidates_are = candidates_are;
            stage_is = stage_is;
            table = change.target.table;
            row = target_row (partners_in running);
            strength = change_strength change.action;
            holder = holder;
            held = held;
            beginner = sym g;
          }

      by : (b : Bool) →
          cond b (does entry.Passed ∷ [])
          (blocked_or_locked transactions change.target.table (target_row (partners_in running)) (change_strength change.action)
          (blocker (locks_on (table_at tables change.target.table) (target_row (partners_in running))) running.me.xact (change_strength change.action)))
          ≡ waits other ∷ [] → HasToWait tables transactions running other
      by true e = absurd (cc e)
      by false e = lock _ refl e

  more : (count : ℕ) (b : Bool) → cond b (does (entry.Found (running.candidate + 1)) ∷ []) [] ≡ waits other ∷ [] → ⊥
  more count true e = cc e
  more count false e = cc e

  change_waits : (change : Change) (count : ℕ) (stage : Stage) → running.stage ≡ stage →
      change_choices_at change tables transactions running count stage ≡ waits other ∷ [] → HasToWait tables transactions running other
  change_waits change count between stage_is e = absurd (more count (nat_lt running.candidate count) e)
  change_waits change count found stage_is e = of_found change stage_is (new_values change (partners_in running)) e
  change_waits change count (locked name) stage_is e =
      absurd (not_locked change
      (partners_locked (row_at (table_at tables change.target.table) (target_row (partners_in running))) name (partners_in running))
      (is_as_seen name (partners_in running)) e)
  change_waits change count (placed number) stage_is e = absurd (cc e)

  -- an INSERT does not wait
  insert_waits : (insert : Insert) (count : ℕ) (stage : Stage) → insert_choices insert.target.table tables running count stage ≡ waits other ∷ [] → ⊥
  insert_waits insert count between e = more count (nat_lt running.candidate count) e
  insert_waits insert count found e = into (item_at tables insert.target.table) e
    where
      into : (table : Option TableView) → placing_choices insert.target.table table ≡ waits other ∷ [] → ⊥
      into None e = cc e
      into (Some table) e = cc e
  insert_waits insert count (locked name) e = cc e
  insert_waits insert count (placed row) e = cc e

  pub own_waits : (own : Statement) → choices_with own tables transactions running candidates ≡ waits other ∷ [] → HasToWait tables transactions running other
  own_waits (statement.Change change) is = change_waits change (length candidates) running.stage refl is
  own_waits (statement.Insert insert) is = absurd (insert_waits insert (length candidates) running.stage is)
  own_waits (statement.Select select) is = absurd (cc is)
  own_waits statement.Begin is = absurd (cc is)
  own_waits statement.Commit is = absurd (cc is)
  own_waits statement.Rollback is = absurd (cc is)

pub has_to_wait : (own : Statement) (tables : List TableView) (transactions : Transactions) (running : Running) (other : ℕ) →
    choices own tables transactions running ≡ waits other ∷ [] → HasToWait tables transactions running other
has_to_wait own tables transactions running other is = at running.candidates refl is
  where
    at : (candidates : Result (List Candidate) SqlError) → running.candidates ≡ candidates →
        choices_by own tables transactions running candidates ≡ waits other ∷ [] → HasToWait tables transactions running other
    at (Err error) there e = absurd (cc e)
    at (Ok candidates) there e = own_waits tables transactions running other candidates there own e

-- in the world of a legal journal it waits for another session
module _ (script : Script) (journal : List Entry) (legal : IsLegal script journal) (number other : ℕ) (session : SessionView)
    (is : slice_get (world_after script journal).sessions number ≡ Some session) (own : Statement)
    (own_is : statement_at script number session ≡ Some (Ok own)) (running : Running) (inside_is : session.progress ≡ inside running)
    (only : choices own (world_after script journal).tables (world_after script journal).transactions running ≡ waits other ∷ []) where
  abbrev world : World
  world = world_after script journal

  waiting : HasToWait world.tables world.transactions running other
  waiting = has_to_wait own world.tables world.transactions running other only

  blocked : IsBlocked world number (statement_at script number session) session other (ring_of world.waits number other)
  blocked = record {
    chosen = record {
      candidates = waiting.candidates;
      opened = record {
        statement = own;
        statement_is = own_is;
        running = running;
        inside_is = inside_is;
        candidates_are = waiting.candidates_are;
      };
      contained = subst (λ cs. Contains cs (waits other)) (sym only) (0, omega arith, refl);
    };
    stage_is = waiting.stage_is;
    held = record {
      table = waiting.table;
      row = waiting.row;
      strength = waiting.strength;
      holder = waiting.holder;
      held = waiting.held;
      beginner = waiting.beginner;
    };
    cycle_is = refl;
  }

  pub waits_for_another : (other < length world.sessions) × (number ≢ other)
  waits_for_another =
      let sound = sound_after script journal legal in
      let reached = reached_after script journal legal in
      let locks = locks_after script journal legal in
      let unended = held_open script world number other session (ring_of world.waits number other) is sound reached.homes locks blocked in (
        slice_get_within world.sessions other unended.session unended.is,
        held_apart script world number other session (ring_of world.waits number other) is sound reached.homes locks blocked
            (blocked_open script journal number other session (ring_of world.waits number other) legal is blocked),
      )
