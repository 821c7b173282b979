-- What the step of an INSERT, SELECT, UPDATE or DELETE says is what the step of a machine says.
use Rattle.std.proofs.Common.{◌≡◌, ◌⊎◌, inl, inr, ◌+◌, ◌<◌, ◌≤◌, ℕ, zero, suc, true, false, List, [], ◌∷◌, length, map, Option, Some, None, slice_get, arith, refl, sym, ap, ◌∙◌, subst}
use Rattle.std.specs.Prelude.{Result, Ok, Err, IfSome, MatchOption}
use Rattle.pg_xacts.specs.Transactions.{Transactions}
use Rattle.pg_model.specs.declared.error.SqlError.{SqlError}
use Rattle.pg_model.specs.declared.journal.EntryAct.{EntryAct}
use Rattle.pg_model.specs.declared.journal.EntryAct.TheVariants as entry
use Rattle.pg_model.specs.declared.statement.Change.{Change}
use Rattle.pg_model.specs.declared.statement.Insert.{Insert}
use Rattle.pg_model.specs.declared.statement.Select.{Select}
use Rattle.pg_model.specs.declared.statement.Statement.{Statement}
use Rattle.pg_model.specs.declared.statement.Statement.TheVariants as statement
use Rattle.pg_world.specs.declared.candidate.Candidate.{Candidate}
use Rattle.pg_world.specs.declared.session.Running.{Running}
use Rattle.pg_world.specs.declared.session.Stage.TheVariants.{Between as between, Locked as locked}
use Rattle.pg_world.specs.declared.session.VersionName.{VersionName}
use Rattle.pg_world.specs.Candidates.{candidates_of}
use Rattle.pg_world.specs.Changes.{values_to_hold}
use Rattle.pg_world.specs.Choices.{choices, choices_by}
use Rattle.pg_world.specs.Choosing.{Choice, does}
use Rattle.pg_world.specs.Evaluation.{OrError}
use Rattle.pg_world.specs.Sessions.{first_running}
use Rattle.pg_plans.specs.Answers.{IsAnswer, IsAnswerBehind, IsQuiet}
use Rattle.pg_plans.specs.declared.act.Act.{Act}
use Rattle.pg_plans.specs.declared.act.Act.TheVariants as answer
use Rattle.pg_table.specs.States.{TableState, table_shown}
use Rattle.pg_scans.specs.Readings.{HaveVersions, ReadingView}
use Rattle.pg_insert.specs.Steps.{insert_choices_in, running_after, tables_after}
use Rattle.pg_select.specs.Steps.{GoesOn as SelectGoesOn, IsReadingFor as IsSelectReading, IsSelecting, SelectView, quiet_left as select_quiet, quiet_steps, select_choices_in, select_planned}
use Rattle.pg_update.specs.Steps.{ChangeView, GoesOn as ChangeGoesOn, HasReadOn, HasStaged, IsChanging, IsNearer, IsReadingFor as IsChangeReading, IsStaged, IsStagedFor, IsStep, change_choices_in, change_planned, staged_after_act, stagings_at, target_in}
use Rattle.pg_board.specs.Machines.{DoesEntry, GoesOn, HasRead, IsMachineStep, IsPlanned, IsStaging}
use Rattle.pg_board.specs.Servers.{IsBegun, IsMachineOf, IsReadingBy, IsRunningOf, IsStagedBy}
use Rattle.pg_board.specs.declared.session.Machine.{Machine}
use Rattle.pg_board.specs.declared.session.Machine.TheVariants as machine_of
use Rattle.pg_board.proofs.Shapes.{IsInsertAct, insert_act, select_act}
use Rattle.pg_board.proofs.Staging.{updating}

-- An INSERT.

-- behind an act of a statement that stages nothing, nothing is staged
none_staged : (act : EntryAct) → false ≡ staged_after_act act false
none_staged (entry.Snapped commits) = refl
none_staged (entry.Found candidate) = refl
none_staged (entry.Locked table row strength) = refl
none_staged (entry.Placed table row) = refl
none_staged (entry.Inserted table row) = refl
none_staged (entry.Updated table row) = refl
none_staged (entry.Deleted table row) = refl
none_staged entry.Passed = refl
none_staged (entry.Waits other) = refl
none_staged entry.Committed = refl
none_staged entry.RolledBack = refl
none_staged (entry.Replied reply) = refl
none_staged (entry.Failed error) = refl
none_staged entry.Closed = refl

-- and it writes nothing that was staged
none_written : (insert : Insert) (running : Running) (act : EntryAct) → IsInsertAct insert running act → IsStagedFor act false
none_written insert running (entry.Updated table row) shape = absurd shape
none_written insert running (entry.Snapped commits) shape = tt
none_written insert running (entry.Found candidate) shape = tt
none_written insert running (entry.Locked table row strength) shape = tt
none_written insert running (entry.Placed table row) shape = tt
none_written insert running (entry.Inserted table row) shape = tt
none_written insert running (entry.Deleted table row) shape = tt
none_written insert running entry.Passed shape = tt
none_written insert running (entry.Waits other) shape = tt
none_written insert running entry.Committed shape = tt
none_written insert running entry.RolledBack shape = tt
none_written insert running (entry.Replied reply) shape = tt
none_written insert running (entry.Failed error) shape = tt
none_written insert running entry.Closed shape = tt

pub insert_steps : (insert : Insert) (transactions : Transactions) (tables after : List TableState) (running next : Running) (result : Act) →
    IsAnswer (insert_choices_in insert tables transactions running) result → (result ≡ answer.Quiet → ⊥) →
    next ≡ running_after tables transactions result running → after ≡ tables_after result running tables →
    IsMachineStep (statement.Insert insert) transactions tables after (machine_of.Insert running) (machine_of.Insert next) result
insert_steps insert transactions tables after running next (answer.Entry act) chosen loud next_is after_is = record {
  planned = refl;
  choice = chosen;
  kind = tt;
  stays = refl;
  running = next_is;
  staged = none_staged act;
  written = none_written insert running act (insert_act insert (map table_shown tables) transactions running act chosen);
  tables_are = after_is;
}
insert_steps insert transactions tables after running next answer.Quiet chosen loud next_is after_is = absurd (loud refl)
insert_steps insert transactions tables after running next (answer.Blocked on) chosen loud next_is after_is =
    (after_is, ap (λ m. machine_of.Insert m) next_is, refl, chosen.0, chosen.1)
insert_steps insert transactions tables after running next (answer.Failed error) chosen loud next_is after_is =
    (after_is, ap (λ m. machine_of.Insert m) next_is, refl, chosen)
insert_steps insert transactions tables after running next answer.Done chosen loud next_is after_is =
    (after_is, ap (λ m. machine_of.Insert m) next_is, refl, chosen)
insert_steps insert transactions tables after running next answer.Memory chosen loud next_is after_is =
    (after_is, ap (λ m. machine_of.Insert m) next_is)

-- A statement that reads its tables.

-- a table more has its own versions more
with_first : (table : TableState) (rest : List TableState) → ((most : ℕ) × HaveVersions most rest) → (most : ℕ) × HaveVersions most (table ∷ rest)
with_first table rest few = (length table.store.versions + few.0, within)
  where
    within : HaveVersions (length table.store.versions + few.0) (table ∷ rest)
    within zero state is =
        let e : Some table ≡ Some state = is in
        subst (λ s. length s.store.versions ≤ length table.store.versions + few.0) (let f : table ≡ state = cc e in f) (omega arith)
    within (suc number) state is = let less = few.1 number state is in omega (arith, less)

-- tables have no more versions than some number
most_of : (tables : List TableState) → (most : ℕ) × HaveVersions most tables
most_of [] = (0, λ number state is. absurd (cc is))
most_of (table ∷ rest) = with_first table rest (most_of rest)

-- a machine that has its candidates makes no step without an entry, where such steps are counted
none_quiet : (tables : List TableState) (left : ℕ → ℕ) → ((most : ℕ) → HaveVersions most tables → left most < 0) → ⊥
none_quiet tables left less = let below = less (most_of tables).0 (most_of tables).1 in omega (arith, below)

-- a statement that has read on stands for what it did, where its kept part is as before
module _ (tables : List TableState) (transactions : Transactions) (own : Statement) (kept next shown : Running) (reading : ReadingView)
    (reads : IsReadingBy tables transactions own next reading) (same : next ≡ kept) where
  still_begun : (before : ReadingView) → IsBegun tables transactions own kept before shown → IsBegun tables transactions own next reading shown
  still_begun before was =
      let one = sym reads.begun ∙ (same ∙ was.reads.begun) in
      let me : reading.me ≡ before.me = ap (λ r. r.me) one in
      let commits : reading.snapshot.commits ≡ before.snapshot.commits = ap (λ r. r.snapshot) one in
      record { reads = reads; shown_is = was.shown_is ∙ rw (me, commits) refl }

-- and one that has its candidates now has those that it has in the world
now_planned : (tables : List TableState) (transactions : Transactions) (own : Statement) (kept shown : Running) (before : ReadingView) →
    candidates_of own (map table_shown tables) transactions shown.snapshot shown.me ≡ shown.candidates →
    IsBegun tables transactions own kept before shown →
    shown ≡ first_running kept.me kept.snapshot (candidates_of own (map table_shown tables) transactions kept.snapshot kept.me)
now_planned tables transactions own kept shown before candidates_are was =
    let me : shown.me ≡ before.me = ap (λ r. r.me) was.shown_is in
    let commits : shown.snapshot ≡ before.snapshot.commits = ap (λ r. r.snapshot) was.shown_is in
    was.shown_is ∙ rw (← candidates_are, me, commits, was.reads.begun) refl

-- an answer that is not quiet is one of a statement that has its candidates, and its only choice
chosen_planned : {R : Type 0} (reading : Option R) (given : List Choice) (result : Act) → (IsQuiet result → ⊥) →
    IsAnswerBehind reading given result → (reading ≡ None) × IsAnswer given result
chosen_planned None given result loud is = (refl, is)
chosen_planned (Some reading) given result loud is = absurd (loud is)

-- A SELECT.
module _ (select : Select) (transactions : Transactions) (tables : List TableState) (machine next : SelectView) where
  abbrev own : Statement
  own = statement.Select select

  module _ (goes : SelectGoesOn select tables transactions machine next) where
    reads_on : machine.reading ≡ None → ⊥
    reads_on planned =
        none_quiet tables (λ most. select_quiet most next)
        (λ most have. subst (λ o. select_quiet most next < quiet_steps most o) planned (goes.less most have))

    module _ (shown : Running) (candidates_are : candidates_of own (map table_shown tables) transactions shown.snapshot shown.me ≡ shown.candidates) where
      select_stands : IsMachineOf tables transactions own (machine_of.Select machine) shown → IsMachineOf tables transactions own (machine_of.Select next) shown
      select_stands was = record { kind = tt; running = by machine.reading refl next.reading was.running goes.selecting goes.reached; staged = tt }
        where
          by : (reading : Option ReadingView) → machine.reading ≡ reading → (behind : Option ReadingView) →
              IsRunningOf tables transactions own machine.running reading shown →
              IfSome behind (IsSelectReading select tables transactions next.running) →
              MatchOption behind (next ≡ select_planned select tables transactions machine.running) (λ on. next.running ≡ machine.running) →
              IsRunningOf tables transactions own next.running behind shown
          by None planned behind runs selecting reached = absurd (reads_on planned)
          by (Some before) reads None runs selecting reached =
              now_planned tables transactions own machine.running shown before candidates_are runs ∙ sym (ap (λ m. m.running) reached)
          by (Some before) reads (Some reading) runs selecting reached =
              still_begun tables transactions own machine.running next.running shown reading
              (record { tables_are = selecting.tables_are; collected = selecting.collected; begun = selecting.begun }) reached before runs

    select_on : GoesOn own transactions tables tables (machine_of.Select machine) (machine_of.Select next)
    select_on = record {
      stands = select_stands;
      fewer = goes.less;
      reached = inl (record { reads = reads_on; tables_are = refl; staged = refl; draws = omega arith });
    }

  pub select_steps : (result : Act) → IsAnswerBehind machine.reading (select_choices_in select tables transactions machine.running) result →
      (result ≡ answer.Quiet → SelectGoesOn select tables transactions machine next) → ((result ≡ answer.Quiet → ⊥) → next ≡ machine) →
      IsMachineStep own transactions tables tables (machine_of.Select machine) (machine_of.Select next) result
  select_steps (answer.Entry act) chosen on stays =
      let p = chosen_planned machine.reading (select_choices_in select tables transactions machine.running) (answer.Entry act) (λ quiet. quiet) chosen in
      absurd (select_act select (map table_shown tables) transactions machine.running act p.1)
  select_steps answer.Quiet chosen on stays = select_on (on refl)
  select_steps (answer.Blocked other) chosen on stays =
      let p = chosen_planned machine.reading (select_choices_in select tables transactions machine.running) (answer.Blocked other) (λ quiet. quiet) chosen in
      (refl, ap (λ m. machine_of.Select m) (stays (λ e. cc e)), p.0, p.1.0, p.1.1)
  select_steps (answer.Failed error) chosen on stays =
      let p = chosen_planned machine.reading (select_choices_in select tables transactions machine.running) (answer.Failed error) (λ quiet. quiet) chosen in
      (refl, ap (λ m. machine_of.Select m) (stays (λ e. cc e)), p.0, p.1)
  select_steps answer.Done chosen on stays =
      let p = chosen_planned machine.reading (select_choices_in select tables transactions machine.running) answer.Done (λ quiet. quiet) chosen in
      (refl, ap (λ m. machine_of.Select m) (stays (λ e. cc e)), p.0, p.1)
  select_steps answer.Memory chosen on stays = (refl, ap (λ m. machine_of.Select m) (stays (λ e. cc e)))

-- An UPDATE or DELETE.
module _ (change : Change) (transactions : Transactions) (tables after : List TableState) (machine next : ChangeView) where
  abbrev given : Statement
  given = statement.Change change

  -- It has staged the new values of its row.
  module _ (planned : machine.reading ≡ None) (staged : HasStaged change tables transactions machine next after) where
    staged_stands : (shown : Running) → IsMachineOf tables transactions given (machine_of.Change machine) shown →
        IsMachineOf after transactions given (machine_of.Change next) shown
    staged_stands shown was =
        subst (λ m. IsMachineOf after transactions given (machine_of.Change m) shown) (sym staged.next_is)
        (record {
          kind = tt;
          running = subst (λ o. IsRunningOf after transactions given machine.running o shown) (sym planned)
              (subst (λ o. IsRunningOf tables transactions given machine.running o shown) planned was.running);
          staged = λ on. record {
            values = staged.values;
            made = ap (λ views. values_to_hold change views machine.running) staged.shown ∙ staged.made;
            choice = ap (λ views. choices given views transactions machine.running) staged.shown ∙ staged.choice;
            staged = staged.staged;
          };
        })

  -- It has read on.
  module _ (before : ReadingView) (reads : machine.reading ≡ Some before) (same : after ≡ tables) (read : HasReadOn change tables transactions machine next) where
    module _ (shown : Running) (candidates_are : candidates_of given (map table_shown tables) transactions shown.snapshot shown.me ≡ shown.candidates)
        (was : IsMachineOf tables transactions given (machine_of.Change machine) shown) where
      begun_as : IsBegun tables transactions given machine.running before shown
      begun_as = subst (λ o. IsRunningOf tables transactions given machine.running o shown) reads was.running

      -- it has staged nothing
      not_staged : machine.staged ≡ true → ⊥
      not_staged on =
          let staged = was.staged on in
          let at_locked = updating change (map table_shown tables) transactions machine.running change.target.table (target_in machine.running) staged.choice in
          let e : locked at_locked.0 ≡ between = sym at_locked.1 ∙ ap (λ r. r.stage) begun_as.reads.begun in
          cc e

      read_stands : IsMachineOf tables transactions given (machine_of.Change next) shown
      read_stands = by next.reading read.changing read.reached
        where
          by : (behind : Option ReadingView) → IfSome behind (IsChangeReading change tables transactions next.running) →
              MatchOption behind (next ≡ change_planned change tables transactions machine) (λ reading. next ≡ record machine { reading = Some reading }) →
              IsMachineOf tables transactions given (machine_of.Change next) shown
          by None changing reached =
              subst (λ m. IsMachineOf tables transactions given (machine_of.Change m) shown) (sym reached)
              (record {
                kind = tt;
                running = now_planned tables transactions given machine.running shown before candidates_are begun_as;
                staged = λ on. absurd (not_staged on);
              })
          by (Some reading) changing reached =
              let of = subst (λ r. IsChangeReading change tables transactions r reading) (ap (λ m. m.running) reached) changing in
              subst (λ m. IsMachineOf tables transactions given (machine_of.Change m) shown) (sym reached)
              (record {
                kind = tt;
                running = still_begun tables transactions given machine.running machine.running shown reading
                    (record { tables_are = of.tables_are; collected = of.collected; begun = of.begun }) refl before begun_as;
                staged = λ on. absurd (not_staged on);
              })

    has_read : HasRead tables after (machine_of.Change machine) (machine_of.Change next)
    has_read = record {
      reads = λ planned. let e : None ≡ Some before = sym planned ∙ reads in cc e;
      tables_are = same;
      staged = by_staged next.reading read.reached;
      draws = by_draws next.reading read.reached;
    }
      where
        by_staged : (behind : Option ReadingView) →
            MatchOption behind (next ≡ change_planned change tables transactions machine) (λ reading. next ≡ record machine { reading = Some reading }) →
            next.staged ≡ machine.staged
        by_staged None reached = ap (λ m. m.staged) reached
        by_staged (Some reading) reached = ap (λ m. m.staged) reached

        by_draws : (behind : Option ReadingView) →
            MatchOption behind (next ≡ change_planned change tables transactions machine) (λ reading. next ≡ record machine { reading = Some reading }) →
            stagings_at next.running.stage next.staged ≤ stagings_at machine.running.stage machine.staged
        by_draws None reached = subst (λ m. stagings_at m.running.stage m.staged ≤ stagings_at machine.running.stage machine.staged) (sym reached) (omega arith)
        by_draws (Some reading) reached =
            subst (λ m. stagings_at m.running.stage m.staged ≤ stagings_at machine.running.stage machine.staged) (sym reached) (omega arith)

  change_on : ChangeGoesOn change tables transactions machine next after → GoesOn given transactions tables after (machine_of.Change machine) (machine_of.Change next)
  change_on goes = by machine.reading refl goes.nearer
    where
      by : (reading : Option ReadingView) → machine.reading ≡ reading →
          MatchOption reading (HasStaged change tables transactions machine next after)
          (λ one. (after ≡ tables) × HasReadOn change tables transactions machine next) →
          GoesOn given transactions tables after (machine_of.Change machine) (machine_of.Change next)
      by None planned staged = record {
        stands = λ shown candidates_are was. staged_stands planned staged shown was;
        fewer = goes.less;
        reached = inr (planned, staged);
      }
      by (Some before) reads read = record {
        stands = λ shown candidates_are was.
            subst (λ t. IsMachineOf t transactions given (machine_of.Change next) shown) (sym read.0)
            (read_stands before reads read.0 read.1 shown candidates_are was);
        fewer = goes.less;
        reached = inl (has_read before reads read.0 read.1);
      }

  pub change_steps : (result : Act) → IsAnswerBehind machine.reading (change_choices_in change tables transactions machine.running) result →
      IsStep change tables transactions machine result next after →
      IsMachineStep given transactions tables after (machine_of.Change machine) (machine_of.Change next) result
  change_steps (answer.Entry act) chosen step =
      let p = chosen_planned machine.reading (change_choices_in change tables transactions machine.running) (answer.Entry act) (λ quiet. quiet) chosen in
      record {
        planned = p.0;
        choice = p.1;
        kind = tt;
        stays = step.reading;
        running = step.running;
        staged = step.staged;
        written = step.written;
        tables_are = step.tables_are;
      }
  change_steps answer.Quiet chosen step = change_on step
  change_steps (answer.Blocked other) chosen step =
      let p = chosen_planned machine.reading (change_choices_in change tables transactions machine.running) (answer.Blocked other) (λ quiet. quiet) chosen in
      (step.1, ap (λ m. machine_of.Change m) step.0, p.0, p.1.0, p.1.1)
  change_steps (answer.Failed error) chosen step =
      let p = chosen_planned machine.reading (change_choices_in change tables transactions machine.running) (answer.Failed error) (λ quiet. quiet) chosen in
      (step.1, ap (λ m. machine_of.Change m) step.0, p.0, p.1)
  change_steps answer.Done chosen step =
      let p = chosen_planned machine.reading (change_choices_in change tables transactions machine.running) answer.Done (λ quiet. quiet) chosen in
      (step.1, ap (λ m. machine_of.Change m) step.0, p.0, p.1)
  change_steps answer.Memory chosen step = (step.1, ap (λ m. machine_of.Change m) step.0)
