-- The world after setup is sound, and each permitted entry keeps it so.
use Rattle.std.proofs.Common.{◌≡◌, ◌<◌, ◌≤◌, ◌+◌, ◌⊎◌, ℕ, zero, suc, List, [], ◌∷◌, length, Option, Some, None, slice_get, slice_set, refl, sym, ap, ◌∙◌, subst, inl, inr, arith, length-set, length-append}
use Rattle.std.specs.Prelude.{option_map, Result, Ok, Err}
use Rattle.std.specs.Option.{option_map_or}
use Rattle.std.proofs.lemmas.List.{length-map, length-replicate}
use Rattle.std.proofs.lemmas.Option.{slice_get_within, slice_get-map}
use Rattle.pg_lists.specs.Numbered.{with_changed_item, with_changed_nth_item}
use Rattle.pg_model.specs.declared.error.SqlError.{SqlError}
use Rattle.pg_model.specs.declared.journal.Entry.{Entry}
use Rattle.pg_model.specs.declared.journal.EntryAct.{EntryAct}
use Rattle.pg_model.specs.declared.journal.EntryAct.TheVariants as entry
use Rattle.pg_model.specs.declared.journal.Tag.{Tag}
use Rattle.pg_model.specs.declared.journal.Tag.TheVariants as tag
use Rattle.pg_model.specs.declared.script.Script.{Script}
use Rattle.pg_model.specs.declared.script.SetupInsert.{SetupInsert}
use Rattle.pg_model.specs.declared.statement.Statement.{Statement}
use Rattle.pg_waits.specs.Effects.{is_for, waits_left}
use Rattle.pg_xacts.specs.declared.on.On.{On}
use Rattle.pg_xacts.specs.Transactions.{Transactions}
use Rattle.pg_multi.specs.declared.strength.Strength.{Strength}
use Rattle.pg_values.specs.declared.value.Value.{Value}
use Rattle.pg_xacts.specs.declared.transaction.Transaction.{Transaction}
use Rattle.pg_world.specs.declared.candidate.Candidate.{Candidate}
use Rattle.pg_world.specs.Candidates.{insert_candidates}
use Rattle.pg_world.specs.declared.session.Progress.{Progress}
use Rattle.pg_world.specs.declared.session.Running.{Running}
use Rattle.pg_world.specs.declared.session.SessionView.{SessionView}
use Rattle.pg_world.specs.declared.session.Progress.TheVariants.{Idle as idle, Inside as inside, Ending as ending, Closed as closed}
use Rattle.pg_world.specs.declared.session.Stage.TheVariants.{Between as between, Found as found, Placed as placed}
use Rattle.pg_world.specs.Sessions.{fresh_session}
use Rattle.pg_world.specs.declared.table.TableView.{TableView}
use Rattle.pg_world.specs.Tables.{TransactionEnd, commit, rollback, empty_table}
use Rattle.pg_world.specs.Worlds.{World, transactions_after_end, until_end, with_end_of, with_wait}
use Rattle.pg_relation.specs.Effect.{transactions_opened, with_snapshot, with_candidate, with_placed_row, with_locked_row, with_inserted_row, with_changed_row, with_passed, with_commit, with_rollback, with_reply, with_failure, with_closure, without_transaction, progress_ended, session_replied, session_failed, act_effect, effect}
use Rattle.pg_world.specs.Changes.{act_on}
use Rattle.pg_relation.specs.Running.{running_found, running_placed, running_locked, running_acted, running_after_act, running_passed, current_in}
use Rattle.pg_relation.specs.Lines.{statements_of, statement_at}
use Rattle.pg_relation.specs.Journals.{IsLegal, world_after}
use Rattle.pg_relation.specs.Moves.{IsPermitted}
use Rattle.pg_relation.specs.Needs.{IsBefore, IsAtEnd, IsAtStage, IsEnding, IsFailing, IsLockedFor, IsOpen, IsDone, IsRefused, Needs}
use Rattle.pg_relation.specs.Setup.{SetupError, rows_added, tables_inserted, tables_or_error, tables_set_up, declared_tables, setup_outcome, tables_after, first_world}
use Rattle.pg_relation.specs.Sound.{begun_by, open_by, CanStand, IsSound}
use Rattle.pg_relation.specs.Weight.{open_count, statements_begun}
use Rattle.pg_relation.proofs.Journals.{holds_from}
use Rattle.pg_relation.proofs.Lists.{each_set, set_same, sum_set, sum_none, slice_get_none}
use Rattle.pg_relation.proofs.Needs.{failing_inside, move_of}

-- no item more or less by a change
pub length_changed : {X : Type 0} (change : X → X) (xs : List X) (i : ℕ) → length (with_changed_item change xs i) ≡ length xs
length_changed {X = X} change xs i = at (slice_get xs i)
  where
    at : (o : Option X) → length (option_map_or (λ x. slice_set xs i (change x)) o xs) ≡ length xs
    at None = refl
    at (Some x) = length-set xs i (change x)

-- wherever the numbers begin
pub length_changed_from_one : {X : Type 0} (change : X → X) (xs : List X) (number : ℕ) →
    length (with_changed_nth_item change xs number) ≡ length xs
length_changed_from_one change xs zero = refl
length_changed_from_one change xs (suc before) = length_changed change xs before

-- the end of a transaction leaves as many of them, and as many tables
transactions_ended : (transactions : Transactions) (xact : ℕ) (end : TransactionEnd) →
    length (transactions_after_end transactions xact end).list ≡ length transactions.list
transactions_ended transactions xact commit = length_changed_from_one _ transactions.list xact
transactions_ended transactions xact rollback = length_changed_from_one _ transactions.list xact

list_ended : (world : World) (number : ℕ) (transaction : Option ℕ) (end : TransactionEnd) →
    length (with_end_of world number transaction end).transactions.list ≡ length world.transactions.list
list_ended world number None end = refl
list_ended world number (Some xact) end = transactions_ended world.transactions xact end

tables_ended : (world : World) (number : ℕ) (transaction : Option ℕ) (end : TransactionEnd) →
    length (with_end_of world number transaction end).tables ≡ length world.tables
tables_ended world number None end = refl
tables_ended world number (Some xact) end = length-map world.tables _

pub sessions_left : (world : World) (number : ℕ) (transaction : Option ℕ) (end : TransactionEnd) →
    (with_end_of world number transaction end).sessions ≡ world.sessions
sessions_left world number None end = refl
sessions_left world number (Some xact) end = refl

-- as many slots for waits
pub waits_count : (world : World) (number : ℕ) (transaction : Option ℕ) (end : TransactionEnd) →
    length (with_end_of world number transaction end).waits ≡ length world.waits
waits_count world number None end = refl
waits_count world number (Some xact) end =
    length-set (waits_left (is_for number) world.waits) number None ∙ length-map world.waits _

-- a rollback leaves the commits
commits_left : (world : World) (number : ℕ) (transaction : Option ℕ) →
    (with_end_of world number transaction rollback).transactions.commits ≡ world.transactions.commits
commits_left world number None = refl
commits_left world number (Some xact) = refl

-- and a commit is one more
commits_more : (world : World) (number : ℕ) (transaction : Option ℕ) (xact : ℕ) → transaction ≡ Some xact →
    (with_end_of world number transaction commit).transactions.commits ≡ world.transactions.commits + 1
commits_more world number None xact is = absurd (cc is)
commits_more world number (Some other) xact is = refl

-- a world in which one session stands otherwise, with as many tables
sound_step : (script : Script) (world new : World) (number : ℕ) (session other : SessionView) →
    slice_get world.sessions number ≡ Some session → IsSound script world →
    new.sessions ≡ slice_set world.sessions number other → length new.tables ≡ length world.tables →
    length new.waits ≡ length world.waits →
    length new.transactions.list + begun_by session ≤ length world.transactions.list + begun_by other →
    new.transactions.commits + (open_by other + length world.transactions.list)
    ≤ world.transactions.commits + (open_by session + length new.transactions.list) →
    CanStand (statements_of script number) other.answered other.progress →
    (other.progress ≡ closed → other.transaction ≡ None) → IsSound script new
sound_step script world new number session other is sound sessions tables waits begun committed standing ended = record {
  tables = tables ∙ sound.tables;
  sessions = ap length sessions ∙ (length-set world.sessions number other ∙ sound.sessions);
  waits = waits ∙ sound.waits;
  begun = rw sessions (let s = sum_set begun_by world.sessions number session other is in omega (arith, s, begun, sound.begun));
  committed = rw sessions (let s = sum_set open_by world.sessions number session other is in omega (arith, s, committed, sound.committed));
  standing = rw sessions (each_set (λ j z. CanStand (statements_of script j) z.answered z.progress) world.sessions number other sound.standing standing);
  ended = rw sessions (each_set (λ j z. z.progress ≡ closed → z.transaction ≡ None) world.sessions number other sound.ended ended);
}

-- setup makes no table
inserted_length : (tables : List TableView) (setup : SetupInsert) (candidates : Result (List Candidate) SqlError) (behind : List TableView) →
    tables_inserted tables setup candidates ≡ Ok behind → length behind ≡ length tables
inserted_length tables setup (Err error) behind is = absurd (cc is)
inserted_length tables setup (Ok candidates) behind is =
    let e : with_changed_item (rows_added candidates) tables setup.insert.target.table ≡ behind = cc is in
    rw (← e) (length_changed (rows_added candidates) tables setup.insert.target.table)

set_up_length : (setup : List SetupInsert) (tables behind : List TableView) → tables_set_up setup tables ≡ Ok behind →
    length behind ≡ length tables
set_up_length [] tables behind is = let e : tables ≡ behind = cc is in rw e refl
set_up_length (first ∷ others) tables behind is =
    at (tables_inserted tables first (insert_candidates first.insert)) refl is (λ t i. set_up_length others t behind i)
  where
    at : (r : Result (List TableView) SetupError) → tables_inserted tables first (insert_candidates first.insert) ≡ r →
        tables_or_error (λ t. tables_set_up others t) r ≡ Ok behind →
        ((t : List TableView) → tables_set_up others t ≡ Ok behind → length behind ≡ length t) →
        length behind ≡ length tables
    at (Err error) r_is is more = absurd (cc is)
    at (Ok t) r_is is more = more t is ∙ inserted_length tables first (insert_candidates first.insert) t r_is

tables_declared : (script : Script) (outcome : Result (List TableView) SetupError) → setup_outcome script ≡ outcome →
    length (tables_after script outcome) ≡ length script.catalogue
unfolding setup_outcome
tables_declared script (Err error) is = length-map script.catalogue _
tables_declared script (Ok tables) is =
    set_up_length script.setup (declared_tables script) tables is ∙ length-map script.catalogue (λ shape. empty_table)

pub sound_first : (script : Script) → IsSound script (first_world script)
sound_first script = record {
  tables = tables_declared script (setup_outcome script) refl;
  sessions = length-map script.sessions (λ name. fresh_session);
  waits = length-replicate (length script.sessions) None;
  begun = omega arith;
  committed = let none = sum_none open_by fresh_session script.sessions refl in omega (arith, none);
  standing = λ number session is. fresh number session (slice_get script.sessions number) (sym (slice_get-map (λ name. fresh_session) script.sessions number) ∙ is);
  ended = λ number session is closed_is. open_none number session (slice_get script.sessions number) (sym (slice_get-map (λ name. fresh_session) script.sessions number) ∙ is);
}
  where
    open_none : (number : ℕ) (session : SessionView) (name : Option (List ℕ)) →
        option_map (λ n. fresh_session) name ≡ Some session → session.transaction ≡ None
    open_none number session None is = absurd (cc is)
    open_none number session (Some name) is = let e : fresh_session ≡ session = cc is in rw (← e) refl

    fresh : (number : ℕ) (session : SessionView) (name : Option (List ℕ)) →
        option_map (λ n. fresh_session) name ≡ Some session → CanStand (statements_of script number) session.answered session.progress
    fresh number session None is = absurd (cc is)
    fresh number session (Some name) is = let e : fresh_session ≡ session = cc is in rw (← e) (omega arith)

module _ (script : Script) (world : World) (number : ℕ) (session : SessionView) (is : slice_get world.sessions number ≡ Some session) (sound : IsSound script world) where
  stands : CanStand (statements_of script number) session.answered session.progress
  stands = sound.standing number session is

  left : (next : Result Statement SqlError) → statement_at script number session ≡ Some next →
      session.answered < length (statements_of script number)
  left next next_is = slice_get_within (statements_of script number) session.answered next next_is

  -- a statement that goes on, in as many tables
  sound_inside : (old next : Running) (new : World) → session.progress ≡ inside old →
      new.sessions ≡ slice_set world.sessions number (record session { progress = inside next }) →
      length new.tables ≡ length world.tables → length new.waits ≡ length world.waits → new.transactions ≡ world.transactions →
      IsSound script new
  sound_inside old next new inside_is sessions tables waits same =
      let b = ap statements_begun inside_is in
      let l = ap (λ t. length t.list) same in
      let c = ap (λ t. t.commits) same in
      sound_step script world new number session (record session { progress = inside next }) is sound sessions tables waits
      (omega (arith, b, l)) (omega (arith, l, c))
      (subst (λ p. CanStand (statements_of script number) session.answered p) inside_is stands) (λ e. absurd (cc e))

  sound_snapshot : (commits : ℕ) (before : IsBefore (statement_at script number session) session) (statement : Statement) →
      before.next ≡ Ok statement →
      IsSound script (with_snapshot world number (statement_at script number session) session commits)
  sound_snapshot commits before statement own =
      let b = ap statements_begun before.idle_is in
      let o = opened session.transaction refl in
      sound_step script world _ number session _ is sound refl refl refl
      (omega (arith, b, o.0)) (omega (arith, o.1)) (statement, before.next_is ∙ ap (λ n. Some n) own) (λ e. absurd (cc e))
    where
      opened : (t : Option ℕ) → session.transaction ≡ t →
          (length (transactions_opened world.transactions number t).list ≤ length world.transactions.list + 1)
          × ((transactions_opened world.transactions number t).commits + (1 + length world.transactions.list)
          ≤ world.transactions.commits + (open_count t + length (transactions_opened world.transactions number t).list))
      opened None t_is = (omega (arith, length-append {A = Transaction}), omega (arith, length-append {A = Transaction}))
      opened (Some xact) t_is = (omega arith, omega arith)

  sound_candidate : (candidate : ℕ) → IsAtStage world (statement_at script number session) session between (entry.Found candidate) →
      IsSound script (with_candidate world number session candidate)
  sound_candidate candidate s =
      rw s.opened.inside_is (sound_inside s.opened.running (running_found candidate s.opened.running) _ s.opened.inside_is refl refl refl refl)

  sound_placed : (table row : ℕ) → IsAtStage world (statement_at script number session) session found (entry.Placed table row) →
      IsSound script (with_placed_row world number session table row)
  sound_placed table row s =
      rw s.opened.inside_is (sound_inside s.opened.running (running_placed row s.opened.running) _ s.opened.inside_is refl
      (length_changed _ world.tables table) refl refl)

  sound_locked : (table row : ℕ) (strength : Strength) →
      IsAtStage world (statement_at script number session) session found (entry.Locked table row strength) →
      IsSound script (with_locked_row world number session table row strength)
  sound_locked table row strength s =
      rw s.opened.inside_is (sound_inside s.opened.running
      (running_locked (current_in world.tables world.transactions table row s.opened.running.me.xact) s.opened.running) _ s.opened.inside_is refl
      (length_changed _ world.tables table) refl refl)

  sound_inserted : (table row : ℕ) → IsAtStage world (statement_at script number session) session (placed row) (entry.Inserted table row) →
      IsSound script (with_inserted_row world number session table row)
  sound_inserted table row s =
      rw s.opened.inside_is (sound_inside s.opened.running (running_acted s.opened.running) _ s.opened.inside_is refl
      (length_changed _ world.tables table) refl refl)

  sound_changed : (table row : ℕ) (values : Option (List Value)) (act : EntryAct) →
      IsLockedFor world (statement_at script number session) session act →
      IsSound script (with_changed_row world number session table row values)
  sound_changed table row values act s =
      rw s.1.opened.inside_is (sound_inside s.1.opened.running
      (running_after_act world.tables world.transactions (act_on table row values) s.1.opened.running) _ s.1.opened.inside_is refl
      (length_changed _ world.tables table) refl refl)

  sound_passed : (IsAtStage world (statement_at script number session) session found entry.Passed
      ⊎ IsLockedFor world (statement_at script number session) session entry.Passed) → IsSound script (with_passed world number session)
  sound_passed (inl s) =
      rw s.opened.inside_is (sound_inside s.opened.running (running_passed s.opened.running) _ s.opened.inside_is refl refl refl refl)
  sound_passed (inr s) =
      rw s.1.opened.inside_is (sound_inside s.1.opened.running (running_passed s.1.opened.running) _ s.1.opened.inside_is refl refl refl refl)

  sound_wait : (on : On) → IsSound script (with_wait world number on)
  sound_wait on =
      sound_step script world _ number session session is sound (sym (set_same world.sessions number session is)) refl
      (length-set world.waits number (Some on)) (omega arith) (omega arith) stands (sound.ended number session is)

  -- the end of a transaction leaves as many, and one commit more at most
  sound_commit : IsOpen session → (IsBefore (statement_at script number session) session
      ⊎ IsDone world (statement_at script number session) session) → IsSound script (with_commit world number session)
  sound_commit opened by =
      let l = list_ended world number session.transaction commit in
      let c = commits_more world number session.transaction opened.0 opened.1 in
      let o = ap open_count opened.1 in
      let p = behind by in
      sound_step script world _ number session (without_transaction session (progress_ended tag.Commit session.progress)) is sound
      (ap (λ s. slice_set s number (without_transaction session (progress_ended tag.Commit session.progress))) (sessions_left world number session.transaction commit))
      (tables_ended world number session.transaction commit) (waits_count world number session.transaction commit)
      (omega (arith, l, p.0)) (omega (arith, l, c, o)) p.1 (λ e. refl)
    where
      behind : (IsBefore (statement_at script number session) session
          ⊎ IsDone world (statement_at script number session) session) →
          (statements_begun session.progress ≤ statements_begun (progress_ended tag.Commit session.progress))
          × CanStand (statements_of script number) session.answered (progress_ended tag.Commit session.progress)
      behind (inl s) = let within = left s.next s.next_is in rw s.idle_is (omega arith, within)
      behind (inr s) = rw s.opened.inside_is (omega arith, (s.opened.statement, s.opened.statement_is))

  sound_rollback : IsBefore (statement_at script number session) session → IsSound script (with_rollback world number session)
  sound_rollback s =
      let l = list_ended world number session.transaction rollback in
      let c = commits_left world number session.transaction in
      let within = left s.next s.next_is in
      let b = ap statements_begun s.idle_is in
      let p = ap (λ p. statements_begun (progress_ended tag.Rollback p)) s.idle_is in
      sound_step script world _ number session (without_transaction session (progress_ended tag.Rollback session.progress)) is sound
      (ap (λ s. slice_set s number (without_transaction session (progress_ended tag.Rollback session.progress))) (sessions_left world number session.transaction rollback))
      (tables_ended world number session.transaction rollback) (waits_count world number session.transaction rollback)
      (omega (arith, l, b, p)) (omega (arith, l, c)) (rw s.idle_is within) (λ e. refl)

  -- a reply, and a failure
  sound_reply : (given : Tag) → session.answered < length (statements_of script number) →
      IsSound script (with_reply world number session given)
  sound_reply given within =
      sound_step script world _ number session (session_replied session given) is sound refl refl refl
      (omega (arith, begun_most session.progress)) (omega arith) (omega (arith, within)) (λ e. absurd (cc e))
    where
      begun_most : (p : Progress) → statements_begun p ≤ 1
      begun_most idle = omega arith
      begun_most (inside running) = omega arith
      begun_most (ending tag) = omega arith
      begun_most closed = omega arith

  sound_failure : session.answered < length (statements_of script number) → IsSound script (with_failure world number session)
  sound_failure within =
      let l = list_ended world number session.transaction rollback in
      let c = commits_left world number session.transaction in
      sound_step script world _ number session (session_failed session) is sound
      (ap (λ s. slice_set s number (session_failed session)) (sessions_left world number session.transaction rollback))
      (tables_ended world number session.transaction rollback) (waits_count world number session.transaction rollback)
      (omega (arith, l, begun_most session.progress)) (omega (arith, l, c)) (omega (arith, within)) (λ e. refl)
    where
      begun_most : (p : Progress) → statements_begun p ≤ 1
      begun_most idle = omega arith
      begun_most (inside running) = omega arith
      begun_most (ending tag) = omega arith
      begun_most closed = omega arith

  sound_closure : IsAtEnd (statement_at script number session) session → IsSound script (with_closure world number session)
  sound_closure s =
      let l = list_ended world number session.transaction rollback in
      let c = commits_left world number session.transaction in
      let b = ap statements_begun s.idle_is in
      let here = subst (λ p. CanStand (statements_of script number) session.answered p) s.idle_is stands in
      let all = slice_get_none (statements_of script number) session.answered s.none in
      sound_step script world _ number session (without_transaction session closed) is sound
      (ap (λ s. slice_set s number (without_transaction session closed)) (sessions_left world number session.transaction rollback))
      (tables_ended world number session.transaction rollback) (waits_count world number session.transaction rollback)
      (omega (arith, l, b)) (omega (arith, l, c)) (omega (arith, here, all)) (λ e. refl)

  within_reply : (IsBefore (statement_at script number session) session
      ⊎ (IsDone world (statement_at script number session) session ⊎ IsEnding (statement_at script number session) session)) →
      session.answered < length (statements_of script number)
  within_reply (inl s) = left s.next s.next_is
  within_reply (inr (inl s)) = left (Ok s.opened.statement) s.opened.statement_is
  within_reply (inr (inr s)) = left s.next s.next_is

  within_failure : (error : SqlError) → (IsBefore (statement_at script number session) session
      ⊎ (IsRefused (statement_at script number session) session error
      ⊎ IsFailing script world number (statement_at script number session) session error)) →
      session.answered < length (statements_of script number)
  within_failure error (inl s) = left s.next s.next_is
  within_failure error (inr (inl s)) = left (Ok s.statement) s.statement_is
  within_failure error (inr (inr f)) =
      let s = failing_inside script world number (statement_at script number session) session error f in
      left (Ok s.1.statement) s.1.statement_is

  sound_act : (act : EntryAct) → Needs script world number (statement_at script number session) session act →
      IsSound script (act_effect world number (statement_at script number session) session act)
  sound_act (entry.Snapped commits) needs = sound_snapshot commits needs.0 needs.1.0 needs.1.1
  sound_act (entry.Found candidate) needs = sound_candidate candidate needs.0
  sound_act (entry.Placed table row) needs = sound_placed table row needs.0
  sound_act (entry.Locked table row strength) needs = sound_locked table row strength needs.0
  sound_act (entry.Inserted table row) needs = sound_inserted table row needs
  sound_act (entry.Updated table row) needs = sound_changed table row _ (entry.Updated table row) needs
  sound_act (entry.Deleted table row) needs = sound_changed table row _ (entry.Deleted table row) needs
  sound_act entry.Passed needs = sound_passed needs
  sound_act (entry.Waits other) needs = sound_wait (until_end other)
  sound_act entry.Committed needs = sound_commit needs.0 needs.1
  sound_act entry.RolledBack needs = sound_rollback needs.1
  sound_act (entry.Replied reply) needs = sound_reply reply.tag (within_reply needs)
  sound_act (entry.Failed error) needs = sound_failure (within_failure error needs)
  sound_act entry.Closed needs = sound_closure needs

-- each permitted entry keeps a sound world sound
pub sound_kept : (script : Script) (world : World) (entry : Entry) → IsSound script world →
    IsPermitted script world entry → IsSound script (effect script world entry)
sound_kept script world entry sound move =
    let m = move_of script world entry move in
    rw m.is (sound_act script world entry.session m.session m.is sound entry.act m.needs)

-- the world that a legal journal leaves is sound
pub sound_after : (script : Script) (journal : List Entry) → IsLegal script journal → IsSound script (world_after script journal)
sound_after script journal legal =
    holds_from script (λ world. IsSound script world) (λ world entry sound move. sound_kept script world entry sound move)
    (first_world script) journal (sound_first script) legal
