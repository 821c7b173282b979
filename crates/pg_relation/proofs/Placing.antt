-- In every legal world the row that a statement has placed waits in its table.
use Rattle.std.proofs.Common.{◌≡◌, ◌⊎◌, ℕ, Contains, List, [], ◌∷◌, length, Option, Some, None, slice_get, slice_set, refl, sym, ap, ◌∙◌, subst, inl, inr}
use Rattle.std.specs.Prelude.{option_map, Result, Ok}
use Rattle.std.proofs.lemmas.Option.{slice_get-map}
use Rattle.pg_lists.specs.Numbered.{with_changed_item, item_at}
use Rattle.pg_values.specs.declared.value.Value.{Value}
use Rattle.pg_xacts.specs.Transactions.{beginner_of}
use Rattle.pg_model.specs.declared.error.SqlError.{SqlError}
use Rattle.pg_model.specs.declared.journal.Entry.{Entry}
use Rattle.pg_model.specs.declared.journal.EntryAct.{EntryAct}
use Rattle.pg_model.specs.declared.journal.EntryAct.TheVariants as entry
use Rattle.pg_model.specs.declared.journal.Tag.TheVariants as tag
use Rattle.pg_model.specs.declared.script.Script.{Script}
use Rattle.pg_model.specs.declared.statement.Insert.{Insert}
use Rattle.pg_model.specs.declared.statement.Statement.{Statement}
use Rattle.pg_model.specs.declared.statement.Statement.TheVariants as statement
use Rattle.pg_world.specs.declared.candidate.Candidate.{Candidate}
use Rattle.pg_world.specs.Changes.{change_choices_at}
use Rattle.pg_world.specs.Choices.{choices, choices_by, choices_with, placing_choices}
use Rattle.pg_world.specs.Choosing.{does}
use Rattle.pg_world.specs.Replies.{proposed_values}
use Rattle.pg_world.specs.declared.session.Running.{Running}
use Rattle.pg_world.specs.declared.session.SessionView.{SessionView}
use Rattle.pg_world.specs.declared.session.Progress.TheVariants.{Inside as inside, Ending as ending, Closed as closed}
use Rattle.pg_world.specs.declared.session.Stage.{Stage}
use Rattle.pg_world.specs.declared.session.Stage.TheVariants.{Found as found, Locked as locked, Placed as placed}
use Rattle.pg_world.specs.Sessions.{fresh_session}
use Rattle.pg_world.specs.declared.table.TableView.{TableView}
use Rattle.pg_world.specs.Tables.{TransactionEnd, commit, rollback, next_row, row_changed, row_inserted, row_locked, row_placed, table_after_end}
use Rattle.pg_world.specs.Worlds.{World, with_end_of}
use Rattle.pg_relation.specs.Effect.{me_in, proposed_in, values_set, with_running, without_transaction, progress_ended, session_replied, session_failed, act_effect, effect}
use Rattle.pg_relation.specs.Running.{running_found, running_after_act, running_passed, running_placed, running_acted}
use Rattle.pg_relation.specs.Lines.{statement_at}
use Rattle.pg_relation.specs.Moves.{IsPermitted}
use Rattle.pg_relation.specs.Needs.{IsBefore, IsAtStage, IsDone, IsLockedFor, Needs}
use Rattle.pg_relation.specs.Setup.{setup_me, first_world}
use Rattle.pg_relation.proofs.Deciding.{IsChangeOf}
use Rattle.pg_relation.proofs.Lists.{contains_none, contains_one, get_set}
use Rattle.pg_relation.proofs.Needs.{move_of}
use Rattle.pg_relation.proofs.Acted.{acted, sessions_acted}
use Rattle.pg_relation.proofs.Spares.{IsStable, each_set_other}
use Rattle.pg_relation.proofs.SettingUp.{each_at, each_changed, each_first, each_mapped}
use Rattle.pg_relation.proofs.Waiting.{AllDrawn, Drawn, drawn_ended, drawn_inserted, drawn_locked, drawn_one, drawn_placed, drawn_stored, waiting_new}
use Rattle.pg_relation.proofs.Leaving.{HasVersion, LeavesWaiting, Waits, leaves_changed, leaves_end, leaves_inserted, leaves_locked, leaves_placed, leaves_same}

-- where a statement has placed its row, that waits
abbrev pub PlacedWaits : Script → List TableView → ℕ → SessionView → Type 0
PlacedWaits script tables number session = (running : Running) (insert : Insert) (row : ℕ) →
    session.progress ≡ inside running → statement_at script number session ≡ Some (Ok (statement.Insert insert)) →
    running.stage ≡ placed row → Waits tables insert.target.table row running.me (proposed_values running)

pub record IsTidy (script : Script) (world : World) : Type 0 where
  pub drawn : AllDrawn world.tables
  pub waits : (number : ℕ) (session : SessionView) → slice_get world.sessions number ≡ Some session →
      PlacedWaits script world.tables number session

tidy_step : (script : Script) (world new : World) (number : ℕ) (behind : SessionView) → IsStable script world →
    IsTidy script world → new.sessions ≡ slice_set world.sessions number behind → AllDrawn new.tables →
    LeavesWaiting world new.tables number → PlacedWaits script new.tables number behind → IsTidy script new
tidy_step script world new number behind stable tidy sessions drawn leaves own = record {
  drawn = drawn;
  waits = λ j z is.
      each_set_other (λ j z. PlacedWaits script new.tables j z) world.sessions number behind others own j z
      (subst (λ ss. slice_get ss j ≡ Some z) sessions is);
}
  where
    others : (j : ℕ) (z : SessionView) → (j ≡ number → ⊥) → slice_get world.sessions j ≡ Some z → PlacedWaits script new.tables j z
    others j z apart is running insert row inside_is own_is stage_is =
        let reading = (stable.each j z is).reading running inside_is in
        leaves insert.target.table row j running.me (proposed_values running) reading.owned apart
        (tidy.waits j z is running insert row inside_is own_is stage_is)

-- the choices of an INSERT at its stages
module _ (world : World) (running : Running) (insert : Insert) (candidates : List Candidate) (candidates_are : running.candidates ≡ Ok candidates) where
  placing_table : (table row : ℕ) → running.stage ≡ found →
      Contains (choices (statement.Insert insert) world.tables world.transactions running) (does (entry.Placed table row)) →
      insert.target.table ≡ table
  placing_table table row stage_is choice =
      at (item_at world.tables insert.target.table)
      (subst (λ cs. Contains cs (does (entry.Placed table row))) (rw (candidates_are, stage_is) refl) choice)
    where
      at : (view : Option TableView) → Contains (placing_choices insert.target.table view) (does (entry.Placed table row)) →
          insert.target.table ≡ table
      at None is = absurd (contains_none _ is)
      at (Some view) is =
          let e : does (entry.Placed insert.target.table (next_row view)) ≡ does (entry.Placed table row) = contains_one _ _ is in
          cc e

  inserting_table : (table row : ℕ) → running.stage ≡ placed row →
      Contains (choices (statement.Insert insert) world.tables world.transactions running) (does (entry.Inserted table row)) →
      insert.target.table ≡ table
  inserting_table table row stage_is choice =
      let only : choices (statement.Insert insert) world.tables world.transactions running
      ≡ does (entry.Inserted insert.target.table row) ∷ [] = rw (candidates_are, stage_is) refl in
      let e : does (entry.Inserted insert.target.table row) ≡ does (entry.Inserted table row) =
      contains_one _ _ (subst (λ cs. Contains cs (does (entry.Inserted table row))) only choice) in
      cc e

  not_done : (row : ℕ) → running.stage ≡ placed row →
      choices (statement.Insert insert) world.tables world.transactions running ≡ [] → ⊥
  not_done row stage_is none =
      let e : choices (statement.Insert insert) world.tables world.transactions running
      ≡ does (entry.Inserted insert.target.table row) ∷ [] = rw (candidates_are, stage_is) refl in
      let f : does (entry.Inserted insert.target.table row) ∷ [] ≡ [] = sym e ∙ none in cc f

-- a statement is the one that its line gives
pub same_statement : (given : Option (Result Statement SqlError)) (one other : Statement) → given ≡ Some (Ok one) →
    given ≡ Some (Ok other) → one ≡ other
same_statement given one other is also =
    let e : Some (Ok one) ≡ Some (Ok other) = sym is ∙ also in cc e

abbrev pub ChangesWritten : Script → World → ℕ → Type 0
ChangesWritten script world number =
    (session : SessionView) → slice_get world.sessions number ≡ Some session → (act : EntryAct) (table row : ℕ) →
    IsChangeOf act table row → IsLockedFor world (statement_at script number session) session act → HasVersion world.tables table row

module _ (script : Script) (world : World) (number : ℕ) (session : SessionView) (is : slice_get world.sessions number ≡ Some session)
    (stable : IsStable script world) (tidy : IsTidy script world) where
  -- what an act leaves of the tables
  tidy_kept : (act : EntryAct) (after : List TableView) → (act_effect world number (statement_at script number session) session act).tables ≡ after →
      AllDrawn after → LeavesWaiting world after number →
      PlacedWaits script after number (acted world number (statement_at script number session) session act) →
      IsTidy script (act_effect world number (statement_at script number session) session act)
  tidy_kept act after same drawn leaves own =
      tidy_step script world (act_effect world number (statement_at script number session) session act) number
      (acted world number (statement_at script number session) session act) stable tidy
      (sessions_acted world number (statement_at script number session) session act is)
      (rw same drawn) (rw same leaves) (rw same own)

  -- nothing is placed by a session that is elsewhere
  nowhere : (after : List TableView) (behind : SessionView) → ((running : Running) → behind.progress ≡ inside running → ⊥) →
      PlacedWaits script after number behind
  nowhere after behind none running insert row inside_is own_is stage_is = absurd (none running inside_is)

  -- nor by one whose statement is at another stage
  elsewhere : (after : List TableView) (behind : SessionView) (next : Running) → behind.progress ≡ inside next →
      ((row : ℕ) → next.stage ≡ placed row → ⊥) → PlacedWaits script after number behind
  elsewhere after behind next next_is apart running insert row inside_is own_is stage_is =
      let e : inside next ≡ inside running = sym next_is ∙ inside_is in
      let f : next ≡ running = cc e in
      absurd (apart row (ap (λ r. r.stage) f ∙ stage_is))

  -- the open transaction, where there is one
  leaves_end_of : (transaction : Option ℕ) (end : TransactionEnd) → session.transaction ≡ transaction →
      LeavesWaiting world (with_end_of world number transaction end).tables number
  leaves_end_of None end t_is = (leaves_same world number)
  leaves_end_of (Some xact) end t_is = leaves_end world number xact end (((stable.each number session is).owner xact t_is).1)

  drawn_end_of : (transaction : Option ℕ) (end : TransactionEnd) → AllDrawn (with_end_of world number transaction end).tables
  drawn_end_of None end = tidy.drawn
  drawn_end_of (Some xact) end = each_mapped (λ table. Drawn table) (λ table. Drawn table) (table_after_end xact end) (drawn_ended xact end) world.tables tidy.drawn

  -- the statement behind a change of its place
  running_progress : (change : Running → Running) (running : Running) → session.progress ≡ inside running →
      (with_running change session session.progress).progress ≡ inside (change running)
  running_progress change running inside_is = rw inside_is refl

  changed_here : (change : TableView → TableView) (table : ℕ) (view : TableView) → slice_get world.tables table ≡ Some view →
      slice_get (with_changed_item change world.tables table) table ≡ Some (change view)
  changed_here change table view here = rw here (get_set world.tables table view (change view) here)

  -- Placed
  own_placed : (table row : ℕ) (s : IsAtStage world (statement_at script number session) session found (entry.Placed table row))
      (view : TableView) → slice_get world.tables table ≡ Some view → row ≡ next_row view →
      PlacedWaits script (with_changed_item (λ v. row_placed v (me_in session.progress) (proposed_in session.progress)) world.tables table)
      number (with_running (running_placed row) session session.progress)
  own_placed table row s view here next running insert r inside_is own_is stage_is =
      let e : inside (running_placed row s.opened.running) ≡ inside running =
      sym (running_progress (running_placed row) s.opened.running s.opened.inside_is) ∙ inside_is in
      let f : running_placed row s.opened.running ≡ running = cc e in
      let g : placed row ≡ placed r = ap (λ q. q.stage) f ∙ stage_is in
      let same_row : row ≡ r = cc g in
      let own = same_statement (statement_at script number session) s.opened.statement (statement.Insert insert) s.opened.statement_is (given_same own_is) in
      let same_table = placing_table world s.opened.running insert s.candidates s.opened.candidates_are table row s.stage_is
      (subst (λ st. Contains (choices st world.tables world.transactions s.opened.running) (does (entry.Placed table row))) own s.choice) in
      subst (λ q. Waits after insert.target.table r q.me (proposed_values q)) f
      (subst (λ n. Waits after n r s.opened.running.me (proposed_values s.opened.running)) (sym same_table)
      (subst (λ k. Waits after table k s.opened.running.me (proposed_values s.opened.running)) same_row
      (subst (λ m. Waits after table row m (proposed_values s.opened.running)) (ap me_in s.opened.inside_is)
      (subst (λ vs. Waits after table row (me_in session.progress) vs) (ap proposed_in s.opened.inside_is) (
        row_placed view (me_in session.progress) (proposed_in session.progress),
        changed_here (λ v. row_placed v (me_in session.progress) (proposed_in session.progress)) table view here,
        rw next (waiting_new view (me_in session.progress) (proposed_in session.progress) (each_at (λ table. Drawn table) world.tables table view tidy.drawn here)),
      )))))
    where
      after : List TableView
      after = with_changed_item (λ v. row_placed v (me_in session.progress) (proposed_in session.progress)) world.tables table

      given_same : statement_at script number (with_running (running_placed row) session session.progress) ≡ Some (Ok (statement.Insert insert)) →
          statement_at script number session ≡ Some (Ok (statement.Insert insert))
      given_same h = rw s.opened.inside_is at h

  -- Inserted: what is stored waited for its own statement
  pub inserting : (table row : ℕ) (s : IsAtStage world (statement_at script number session) session (placed row) (entry.Inserted table row)) →
      Waits world.tables table row (me_in session.progress) (proposed_in session.progress)
  inserting table row s = at s.opened.statement refl
    where
      of_insert : (insert : Insert) → s.opened.statement ≡ statement.Insert insert →
          Waits world.tables table row (me_in session.progress) (proposed_in session.progress)
      of_insert insert own =
          let own_is : statement_at script number session ≡ Some (Ok (statement.Insert insert)) =
          s.opened.statement_is ∙ ap (λ st. Some (Ok st)) own in
          let same_table = inserting_table world s.opened.running insert s.candidates s.opened.candidates_are table row s.stage_is
          (subst (λ st. Contains (choices st world.tables world.transactions s.opened.running) (does (entry.Inserted table row))) own s.choice) in
          subst (λ m. Waits world.tables table row m (proposed_in session.progress)) (sym (ap me_in s.opened.inside_is))
          (subst (λ vs. Waits world.tables table row s.opened.running.me vs) (sym (ap proposed_in s.opened.inside_is))
          (subst (λ n. Waits world.tables n row s.opened.running.me (proposed_values s.opened.running)) same_table
          (tidy.waits number session is s.opened.running insert row s.opened.inside_is own_is s.stage_is)))

      none : (st : Statement) → s.opened.statement ≡ st → choices_with st world.tables world.transactions s.opened.running s.candidates ≡ [] →
          Waits world.tables table row (me_in session.progress) (proposed_in session.progress)
      none st own empty =
          let all : choices s.opened.statement world.tables world.transactions s.opened.running ≡ [] =
          ap (λ k. choices k world.tables world.transactions s.opened.running) own
          ∙ (ap (λ c. choices_by st world.tables world.transactions s.opened.running c) s.opened.candidates_are ∙ empty) in
          absurd (contains_none (does (entry.Inserted table row)) (subst (λ cs. Contains cs (does (entry.Inserted table row))) all s.choice))

      at : (st : Statement) → s.opened.statement ≡ st →
          Waits world.tables table row (me_in session.progress) (proposed_in session.progress)
      at (statement.Insert insert) own = of_insert insert own
      at (statement.Select select) own = none (statement.Select select) own refl
      at (statement.Change change) own =
          none (statement.Change change) own
          (ap (λ q. change_choices_at change world.tables world.transactions s.opened.running (length s.candidates) q) s.stage_is)
      at statement.Begin own = none statement.Begin own refl
      at statement.Commit own = none statement.Commit own refl
      at statement.Rollback own = none statement.Rollback own refl

  -- a statement that commits is done, and has placed nothing
  own_committed : (IsBefore (statement_at script number session) session ⊎ IsDone world (statement_at script number session) session) →
      PlacedWaits script (with_end_of world number session.transaction commit).tables number (without_transaction session (progress_ended tag.Commit session.progress))
  own_committed (inl s) running insert row inside_is own_is stage_is =
      nowhere (with_end_of world number session.transaction commit).tables (without_transaction session (progress_ended tag.Commit session.progress))
      (λ running e. let f : ending tag.Commit ≡ inside running = ap (λ p. progress_ended tag.Commit p) (sym s.idle_is) ∙ e in cc f)
      running insert row inside_is own_is stage_is
  own_committed (inr s) running insert row inside_is own_is stage_is =
      let e : inside s.opened.running ≡ inside running = ap (λ p. progress_ended tag.Commit p) (sym s.opened.inside_is) ∙ inside_is in
      let f : s.opened.running ≡ running = cc e in
      let own = same_statement (statement_at script number session) s.opened.statement (statement.Insert insert) s.opened.statement_is own_is in
      absurd (not_done world s.opened.running insert s.candidates s.opened.candidates_are row (ap (λ q. q.stage) f ∙ stage_is)
      (subst (λ st. choices st world.tables world.transactions s.opened.running ≡ []) own s.done))

  -- Updated and Deleted
  tidy_changed : (act : EntryAct) (table row : ℕ) (held : Option (List Value)) →
      (act_effect world number (statement_at script number session) session act).tables
      ≡ with_changed_item (λ v. row_changed v (me_in session.progress) row held) world.tables table →
      HasVersion world.tables table row →
      PlacedWaits script (with_changed_item (λ v. row_changed v (me_in session.progress) row held) world.tables table) number
      (acted world number (statement_at script number session) session act) →
      IsTidy script (act_effect world number (statement_at script number session) session act)
  tidy_changed act table row held same here own =
      tidy_kept act _ same
      (each_changed (λ table. Drawn table) (λ v. row_changed v (me_in session.progress) row held) (drawn_stored (me_in session.progress) row held) world.tables table tidy.drawn)
      (leaves_changed world number table row (me_in session.progress) held here) own

  tidy_passed : (stage : Stage) → IsAtStage world (statement_at script number session) session stage entry.Passed →
      IsTidy script (act_effect world number (statement_at script number session) session entry.Passed)
  tidy_passed stage s =
      tidy_kept entry.Passed world.tables refl tidy.drawn (leaves_same world number)
      (elsewhere _ (acted world number (statement_at script number session) session entry.Passed) (running_passed s.opened.running)
      (running_progress running_passed s.opened.running s.opened.inside_is) (λ row e. cc e))

  tidy_act : ChangesWritten script world number → (act : EntryAct) → Needs script world number (statement_at script number session) session act →
      IsTidy script (act_effect world number (statement_at script number session) session act)
  tidy_act written (entry.Snapped commits) needs =
      tidy_kept (entry.Snapped commits) world.tables refl tidy.drawn (leaves_same world number)
      (elsewhere _ (acted world number (statement_at script number session) session (entry.Snapped commits)) _ refl (λ row e. cc e))
  tidy_act written (entry.Found candidate) needs =
      tidy_kept (entry.Found candidate) world.tables refl tidy.drawn (leaves_same world number)
      (elsewhere _ (acted world number (statement_at script number session) session (entry.Found candidate)) (running_found candidate needs.0.opened.running)
      (running_progress (running_found candidate) needs.0.opened.running needs.0.opened.inside_is) (λ row e. cc e))
  tidy_act written (entry.Placed table row) needs =
      tidy_kept (entry.Placed table row) _ refl
      (each_changed (λ table. Drawn table) (λ v. row_placed v (me_in session.progress) (proposed_in session.progress))
      (drawn_placed (me_in session.progress) (proposed_in session.progress)) world.tables table tidy.drawn)
      (leaves_placed world number table (me_in session.progress) (proposed_in session.progress))
      (own_placed table row needs.0 needs.1.0 needs.1.1 needs.1.2)
  tidy_act written (entry.Inserted table row) needs =
      let reading = (stable.each number session is).reading needs.opened.running needs.opened.inside_is in
      tidy_kept (entry.Inserted table row) _ refl
      (each_changed (λ table. Drawn table) (λ v. row_inserted v (me_in session.progress) row) (drawn_inserted (me_in session.progress) row) world.tables table tidy.drawn)
      (leaves_inserted world number table row (me_in session.progress) (proposed_in session.progress)
      (ap (λ m. beginner_of world.transactions m.xact) (ap me_in needs.opened.inside_is) ∙ reading.owned) (inserting table row needs))
      (elsewhere _ (acted world number (statement_at script number session) session (entry.Inserted table row)) (running_acted needs.opened.running)
      (running_progress running_acted needs.opened.running needs.opened.inside_is) (λ row e. cc e))
  tidy_act written (entry.Locked table row strength) needs =
      tidy_kept (entry.Locked table row strength) _ refl
      (each_changed (λ table. Drawn table) (λ v. row_locked v (me_in session.progress).xact row strength) (drawn_locked (me_in session.progress).xact row strength) world.tables table tidy.drawn)
      (leaves_locked world number table (me_in session.progress).xact row strength)
      (elsewhere _ (acted world number (statement_at script number session) session (entry.Locked table row strength))
      (running_after_act world.tables world.transactions (entry.Locked table row strength) needs.0.opened.running)
      (running_progress (running_after_act world.tables world.transactions (entry.Locked table row strength)) needs.0.opened.running needs.0.opened.inside_is)
      (λ row e. cc e))
  tidy_act written (entry.Updated table row) needs =
      tidy_changed (entry.Updated table row) table row (Some (values_set (statement_at script number session) world.tables session.progress)) refl
      (written session is (entry.Updated table row) table row (inl refl) needs)
      (elsewhere _ (acted world number (statement_at script number session) session (entry.Updated table row)) (running_acted needs.1.opened.running)
      (running_progress running_acted needs.1.opened.running needs.1.opened.inside_is) (λ row e. cc e))
  tidy_act written (entry.Deleted table row) needs =
      tidy_changed (entry.Deleted table row) table row None refl
      (written session is (entry.Deleted table row) table row (inr refl) needs)
      (elsewhere _ (acted world number (statement_at script number session) session (entry.Deleted table row)) (running_acted needs.1.opened.running)
      (running_progress running_acted needs.1.opened.running needs.1.opened.inside_is) (λ row e. cc e))
  tidy_act written entry.Passed (inl s) = tidy_passed found s
  tidy_act written entry.Passed (inr s) = tidy_passed (locked s.0) s.1
  tidy_act written (entry.Waits other) needs =
      tidy_kept (entry.Waits other) world.tables refl tidy.drawn (leaves_same world number) (tidy.waits number session is)
  tidy_act written entry.Committed needs =
      tidy_kept entry.Committed (with_end_of world number session.transaction commit).tables refl
      (drawn_end_of session.transaction commit) (leaves_end_of session.transaction commit refl) (own_committed needs.1)
  tidy_act written entry.RolledBack needs =
      tidy_kept entry.RolledBack (with_end_of world number session.transaction rollback).tables refl
      (drawn_end_of session.transaction rollback) (leaves_end_of session.transaction rollback refl)
      (nowhere _ (without_transaction session (progress_ended tag.Rollback session.progress))
      (λ running e. let f : ending tag.Rollback ≡ inside running = ap (λ p. progress_ended tag.Rollback p) (sym needs.1.idle_is) ∙ e in cc f))
  tidy_act written (entry.Replied reply) needs =
      tidy_kept (entry.Replied reply) world.tables refl tidy.drawn (leaves_same world number) (nowhere _ (session_replied session reply.tag) (λ running e. cc e))
  tidy_act written (entry.Failed error) needs =
      tidy_kept (entry.Failed error) (with_end_of world number session.transaction rollback).tables refl
      (drawn_end_of session.transaction rollback) (leaves_end_of session.transaction rollback refl) (nowhere _ (session_failed session) (λ running e. cc e))
  tidy_act written entry.Closed needs =
      tidy_kept entry.Closed (with_end_of world number session.transaction rollback).tables refl
      (drawn_end_of session.transaction rollback) (leaves_end_of session.transaction rollback refl) (nowhere _ (without_transaction session closed) (λ running e. cc e))

-- nothing is placed after setup
pub tidy_first : (script : Script) → IsTidy script (first_world script)
tidy_first script = record {
  drawn = each_first (λ table. Drawn table) tt (λ table values drawn. drawn_one setup_me values table drawn) script;
  waits = λ number session is.
      fresh number session (slice_get script.sessions number) (sym (slice_get-map (λ name. fresh_session) script.sessions number) ∙ is);
}
  where
    fresh : (number : ℕ) (session : SessionView) (name : Option (List ℕ)) →
        option_map (λ n. fresh_session) name ≡ Some session → PlacedWaits script (first_world script).tables number session
    fresh number session None is = absurd (cc is)
    fresh number session (Some name) is =
        let e : fresh_session ≡ session = cc is in
        subst (λ s. PlacedWaits script (first_world script).tables number s) e (λ running insert row inside_is own_is stage_is. absurd (cc inside_is))

pub tidy_kept_by : (script : Script) (world : World) (entry : Entry) → IsStable script world → IsTidy script world →
    ChangesWritten script world entry.session → IsPermitted script world entry → IsTidy script (effect script world entry)
tidy_kept_by script world entry stable tidy written move =
    let m = move_of script world entry move in
    rw m.is (tidy_act script world entry.session m.session m.is stable tidy written entry.act m.needs)
