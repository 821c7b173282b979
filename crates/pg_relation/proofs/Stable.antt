-- The candidates of an open statement, and what it sees, do not change while it is open.
use Rattle.std.proofs.Common.{Contains, ◌≡◌, ◌≤◌, ◌+◌, ◌⊎◌, ℕ, Bool, true, false, List, [], length, Option, Some, None, slice_get, slice_set, refl, sym, ap, ◌∙◌, subst, inl, inr, arith}
use Rattle.std.specs.Prelude.{nat_eq, nat_lt, option_map, Ok, ◌&&◌}
use Rattle.std.proofs.lemmas.Bool.{ltb-true}
use Rattle.std.proofs.lemmas.List.{length-map}
use Rattle.std.proofs.lemmas.Option.{slice_get-map}
use Rattle.pg_lists.specs.Numbered.{with_changed_item}
use Rattle.pg_values.specs.declared.value.Value.{Value}
use Rattle.pg_multi.specs.declared.strength.Strength.{Strength}
use Rattle.pg_xacts.specs.declared.me.Me.{Me}
use Rattle.pg_xacts.specs.declared.transaction.XStatus.TheVariants.{Running as IsRunning, Committed}
use Rattle.pg_xacts.specs.Transactions.{Transactions, beginner_of, is_among_commits, status_of}
use Rattle.pg_heap.specs.Seen.{is_seen}
use Rattle.pg_model.specs.declared.journal.Entry.{Entry}
use Rattle.pg_model.specs.declared.journal.EntryAct.{EntryAct}
use Rattle.pg_model.specs.declared.journal.EntryAct.TheVariants as entry
use Rattle.pg_model.specs.declared.journal.Tag.{Tag}
use Rattle.pg_model.specs.declared.journal.Tag.TheVariants as tag
use Rattle.pg_model.specs.declared.script.Script.{Script}
use Rattle.pg_model.specs.declared.statement.Statement.{Statement}
use Rattle.pg_world.specs.Candidates.{seen_of_table, seen_rows}
use Rattle.pg_world.specs.Choices.{choices}
use Rattle.pg_world.specs.Choosing.{does}
use Rattle.pg_world.specs.declared.session.Running.{Running}
use Rattle.pg_world.specs.declared.session.SessionView.{SessionView}
use Rattle.pg_world.specs.declared.session.Stage.{Stage}
use Rattle.pg_world.specs.declared.session.Progress.TheVariants.{Inside as inside, Ending as ending, Closed as closed}
use Rattle.pg_world.specs.declared.session.Stage.TheVariants.{Between as between, Found as found, Locked as locked, Placed as placed}
use Rattle.pg_world.specs.Sessions.{first_running, fresh_session}
use Rattle.pg_world.specs.declared.table.TableView.{TableView}
use Rattle.pg_world.specs.Tables.{commit, rollback, row_changed, row_inserted, row_locked, row_placed, table_after_end, version_by}
use Rattle.pg_world.specs.Worlds.{World, until_end, with_end, with_end_of, with_session, with_wait}
use Rattle.pg_relation.specs.Effect.{with_changed_row, with_locked_row, with_passed, transaction_for, transactions_opened, me_for, candidates_at, session_snapped, with_open, with_snapshot, with_candidate, with_placed_row, with_inserted_row, with_commit, with_rollback, with_reply, with_failure, with_closure, without_transaction, progress_ended, proposed_in, session_replied, session_failed, act_effect, effect}
use Rattle.pg_relation.specs.Running.{current_in}
use Rattle.pg_relation.proofs.Running.{running_changed}
use Rattle.pg_relation.specs.Journals.{IsLegal, world_after}
use Rattle.pg_relation.specs.Lines.{statement_at}
use Rattle.pg_relation.specs.Moves.{IsPermitted}
use Rattle.pg_relation.specs.Needs.{IsBefore, IsAtStage, IsDone, IsLockedFor, IsOpen, Needs}
use Rattle.pg_relation.specs.Setup.{first_world}
use Rattle.pg_relation.proofs.Journals.{holds_from}
use Rattle.pg_relation.proofs.Lists.{contains_none}
use Rattle.pg_relation.proofs.Needs.{move_of}
use Rattle.pg_relation.proofs.Seen.{among_running, numbered_changed, table_changed, table_inserted, table_placed, unseen_by_other}
use Rattle.pg_relation.proofs.Sound.{length_changed, sessions_left}
use Rattle.pg_relation.proofs.Owners.{beginner_ended, candidates_same, choices_stay, own_begun}
use Rattle.pg_relation.proofs.Spares.{Holds, IsReading, IsStable, Spares, among_committed, not_owner, seen_committed, spares_begun, spares_commit, spares_rollback_of, spares_same, spares_tables, stable_step}

-- where a reading is of the statement that goes on, that is not past
pub going_open : (script : Script) (world : World) (number : ℕ) (session : SessionView) (running : Running) (own : Statement) →
    IsReading script world number session running → statement_at script number session ≡ Some (Ok own) →
    (choices own world.tables world.transactions running ≡ [] → ⊥) → session.transaction ≡ Some running.me.xact
going_open script world number session running own reading own_is going = at reading.opened
  where
    at : ((session.transaction ≡ Some running.me.xact)
        ⊎ ((own : Statement) → statement_at script number session ≡ Some (Ok own) →
        choices own world.tables world.transactions running ≡ [])) → session.transaction ≡ Some running.me.xact
    at (inl is) = is
    at (inr past) = absurd (going (past own own_is))

-- a command does not see its own versions
not_earlier : (n : ℕ) (b : Bool) → (b && nat_lt n n) ≡ false
not_earlier n false = refl
not_earlier n true = at (nat_lt n n) refl
  where
    at : (b : Bool) → nat_lt n n ≡ b → b ≡ false
    at true is = absurd (omega (arith, ltb-true n n is))
    at false is = refl

own_unseen : (transactions : Transactions) (commits : ℕ) (me : Me) (values : Option (List Value)) →
    is_among_commits transactions commits me.xact ≡ false →
    is_seen transactions commits me (record { values = values; writer = me.xact; command = me.command }) ≡ false
own_unseen transactions commits me values none = rw (none, not_earlier me.command (nat_eq me.xact me.xact)) refl

module _ (script : Script) (world : World) (number : ℕ) (session : SessionView) (is : slice_get world.sessions number ≡ Some session) (stable : IsStable script world) where
  holds : Holds script world number session
  holds = stable.each number session is

  -- a statement that goes on, over tables in which nobody sees a change
  stable_going : (after : List TableView) (running : Running) (candidate acts : ℕ) (stage : Stage) (output : List (List Value)) →
      length after ≡ length world.tables → session.progress ≡ inside running → session.transaction ≡ Some running.me.xact →
      ((commits : ℕ) (me : Me) (owner : ℕ) → commits ≤ world.transactions.commits →
      beginner_of world.transactions me.xact ≡ Some owner → (owner ≡ number → ⊥) → (table : ℕ) →
      seen_of_table after world.transactions commits me table ≡ seen_of_table world.tables world.transactions commits me table) →
      ((table : ℕ) → seen_of_table after world.transactions running.snapshot running.me table
      ≡ seen_of_table world.tables world.transactions running.snapshot running.me table) →
      IsStable script (with_session (record world { tables = after }) number (record session {
        progress = inside (record running { candidate = candidate; stage = stage; acts = acts; output = output });
      }))
  stable_going after running candidate acts stage output same inside_is open_is others own =
      let reading = holds.reading running inside_is in
      stable_step script world _ number _ stable refl
      (spares_tables world number after _ same others)
      (record {
        owner = λ xact e. holds.owner xact e;
        reading = λ next e.
            let f : record running { candidate = candidate; stage = stage; acts = acts; output = output } ≡ next = cc e in
            subst (λ r. IsReading script (with_session (record world { tables = after }) number (record session {
              progress = inside (record running { candidate = candidate; stage = stage; acts = acts; output = output });
            })) number (record session {
              progress = inside (record running { candidate = candidate; stage = stage; acts = acts; output = output });
            }) r) f
            (record {
              owned = reading.owned;
              unseen = reading.unseen;
              snapshot = reading.snapshot;
              opened = inl open_is;
              kept = λ statement s.
                  candidates_same statement world.tables after world.transactions world.transactions running.snapshot running.me own
                  ∙ reading.kept statement s;
            });
      })

  pub open_at : (stage : Stage) (act : EntryAct) (s : IsAtStage world (statement_at script number session) session stage act) →
      session.transaction ≡ Some s.opened.running.me.xact
  open_at stage act s =
      going_open script world number session s.opened.running s.opened.statement
      (holds.reading s.opened.running s.opened.inside_is) s.opened.statement_is
      (λ none. contains_none (does act) (subst (λ cs. Contains cs (does act)) none s.choice))

  stable_candidate : (candidate : ℕ) → IsAtStage world (statement_at script number session) session between (entry.Found candidate) →
      IsStable script (with_candidate world number session candidate)
  stable_candidate candidate s =
      let o = open_at between (entry.Found candidate) s in
      rw s.opened.inside_is (stable_going world.tables s.opened.running candidate _ found _ refl s.opened.inside_is o
      (λ commits me owner few by apart table. refl) (λ table. refl))

  stable_placed : (table row : ℕ) → IsAtStage world (statement_at script number session) session found (entry.Placed table row) →
      IsStable script (with_placed_row world number session table row)
  stable_placed table row s =
      let o = open_at found (entry.Placed table row) s in
      rw s.opened.inside_is (stable_going _ s.opened.running _ _ (placed row) _ (length_changed _ world.tables table) s.opened.inside_is o
      (λ commits me owner few by apart t. unseen commits me t) (λ t. unseen s.opened.running.snapshot s.opened.running.me t))
    where
      unseen : (commits : ℕ) (me : Me) (t : ℕ) →
          seen_of_table (with_changed_item (λ view. row_placed view s.opened.running.me (proposed_in (inside s.opened.running))) world.tables table) world.transactions commits me t
          ≡ seen_of_table world.tables world.transactions commits me t
      unseen commits me t =
          numbered_changed (seen_rows world.transactions commits me) _
          (λ view. table_placed commits me world.transactions view s.opened.running.me (proposed_in (inside s.opened.running)))
          world.tables table t

  stable_inserted : (table row : ℕ) → IsAtStage world (statement_at script number session) session (placed row) (entry.Inserted table row) →
      IsStable script (with_inserted_row world number session table row)
  stable_inserted table row s =
      let o = open_at (placed row) (entry.Inserted table row) s in
      let runs = holds.owner s.opened.running.me.xact o in
      rw s.opened.inside_is (stable_going _ s.opened.running _ _ between _ (length_changed _ world.tables table) s.opened.inside_is o
      (λ commits me owner few by apart t.
      unseen commits me (λ values. unseen_by_other commits me world.transactions s.opened.running.me.xact
      (among_running commits world.transactions s.opened.running.me.xact runs.0)
      (λ e. not_owner world s.opened.running.me.xact me.xact owner number runs.1 by apart e)
      (version_by s.opened.running.me values) refl) t)
      (λ t. unseen s.opened.running.snapshot s.opened.running.me
      (λ values. own_unseen world.transactions s.opened.running.snapshot s.opened.running.me (Some values)
      (among_running s.opened.running.snapshot world.transactions s.opened.running.me.xact runs.0)) t))
    where
      unseen : (commits : ℕ) (me : Me) →
          ((values : List Value) → is_seen world.transactions commits me (version_by s.opened.running.me values) ≡ false) →
          (t : ℕ) → seen_of_table (with_changed_item (λ view. row_inserted view s.opened.running.me row) world.tables table) world.transactions commits me t
          ≡ seen_of_table world.tables world.transactions commits me t
      unseen commits me none t =
          numbered_changed (seen_rows world.transactions commits me) _
          (λ view. table_inserted commits me world.transactions view s.opened.running.me row none) world.tables table t

  stable_passed : (stage : Stage) → IsAtStage world (statement_at script number session) session stage entry.Passed →
      IsStable script (with_passed world number session)
  stable_passed stage s =
      let o = open_at stage entry.Passed s in
      rw s.opened.inside_is (stable_going world.tables s.opened.running _ _ between _ refl s.opened.inside_is o
      (λ commits me owner few by apart table. refl) (λ table. refl))

  stable_locked : (table row : ℕ) (strength : Strength) → IsAtStage world (statement_at script number session) session found (entry.Locked table row strength) →
      IsStable script (with_locked_row world number session table row strength)
  stable_locked table row strength s =
      let o = open_at found (entry.Locked table row strength) s in
      rw s.opened.inside_is (stable_going _ s.opened.running _ _ (locked (current_in world.tables world.transactions table row s.opened.running.me.xact)) _
      (length_changed _ world.tables table) s.opened.inside_is o
      (λ commits me owner few by apart t. unseen commits me t) (λ t. unseen s.opened.running.snapshot s.opened.running.me t))
    where
      unseen : (commits : ℕ) (me : Me) (t : ℕ) →
          seen_of_table (with_changed_item (λ view. row_locked view s.opened.running.me.xact row strength) world.tables table) world.transactions commits me t
          ≡ seen_of_table world.tables world.transactions commits me t
      unseen commits me t =
          numbered_changed (seen_rows world.transactions commits me) (λ view. row_locked view s.opened.running.me.xact row strength)
          (λ view. refl) world.tables table t

  stable_changed : (act : EntryAct) (table row : ℕ) (values : Option (List Value)) →
      IsLockedFor world (statement_at script number session) session act →
      IsStable script (with_changed_row world number session table row values)
  stable_changed act table row values s =
      let o = open_at (locked s.0) act s.1 in
      let runs = holds.owner s.1.opened.running.me.xact o in
      rw (s.1.opened.inside_is, running_changed world.tables world.transactions table row values s.1.opened.running)
      (stable_going _ s.1.opened.running _ _ between _ (length_changed _ world.tables table) s.1.opened.inside_is o
      (λ commits me owner few by apart t.
      unseen commits me (unseen_by_other commits me world.transactions s.1.opened.running.me.xact
      (among_running commits world.transactions s.1.opened.running.me.xact runs.0)
      (λ e. not_owner world s.1.opened.running.me.xact me.xact owner number runs.1 by apart e)
      (record { values = values; writer = s.1.opened.running.me.xact; command = s.1.opened.running.me.command }) refl) t)
      (λ t. unseen s.1.opened.running.snapshot s.1.opened.running.me
      (own_unseen world.transactions s.1.opened.running.snapshot s.1.opened.running.me values
      (among_running s.1.opened.running.snapshot world.transactions s.1.opened.running.me.xact runs.0)) t))
    where
      unseen : (commits : ℕ) (me : Me) →
          is_seen world.transactions commits me (record { values = values; writer = s.1.opened.running.me.xact; command = s.1.opened.running.me.command }) ≡ false →
          (t : ℕ) → seen_of_table (with_changed_item (λ view. row_changed view s.1.opened.running.me row values) world.tables table) world.transactions commits me t
          ≡ seen_of_table world.tables world.transactions commits me t
      unseen commits me none t =
          numbered_changed (seen_rows world.transactions commits me) (λ view. row_changed view s.1.opened.running.me row values)
          (λ view. table_changed commits me world.transactions view s.1.opened.running.me row values none) world.tables table t

  -- who begins to wait stands where it stood
  stable_waiting : (other : ℕ) → IsStable script (with_wait world number (until_end other))
  stable_waiting other = record {
    each = λ j z j_is. let held = stable.each j z j_is in record {
      owner = held.owner;
      reading = λ running e. let reading = held.reading running e in record {
        owned = reading.owned;
        unseen = reading.unseen;
        snapshot = reading.snapshot;
        opened = reading.opened;
        kept = reading.kept;
      };
    };
  }

  -- the session behind has no transaction, and is in no statement
  holds_nothing : (new : World) (behind : SessionView) → behind.transaction ≡ None →
      ((running : Running) → behind.progress ≡ inside running → ⊥) → Holds script new number behind
  holds_nothing new behind none nowhere = record {
    owner = λ xact e. absurd (let f : None ≡ Some xact = sym none ∙ e in cc f);
    reading = λ running e. absurd (nowhere running e);
  }

  -- a rollback
  stable_ended : (behind : SessionView) → behind.transaction ≡ None →
      ((running : Running) → behind.progress ≡ inside running → ⊥) →
      IsStable script (with_session (with_end_of world number session.transaction rollback) number behind)
  stable_ended behind none nowhere =
      stable_step script world (with_session (with_end_of world number session.transaction rollback) number behind) number behind stable
      (ap (λ s. slice_set s number behind) (sessions_left world number session.transaction rollback))
      (spares_rollback_of world number session.transaction _ holds.owner) (holds_nothing _ behind none nowhere)

  stable_rollback : IsBefore (statement_at script number session) session → IsStable script (with_rollback world number session)
  stable_rollback s =
      stable_ended (without_transaction session (progress_ended tag.Rollback session.progress)) refl
      (λ running e. let f : ending tag.Rollback ≡ inside running = ap (λ p. progress_ended tag.Rollback p) (sym s.idle_is) ∙ e in cc f)

  stable_failure : IsStable script (with_failure world number session)
  stable_failure = stable_ended (session_failed session) refl (λ running e. cc e)

  stable_closure : IsStable script (with_closure world number session)
  stable_closure = stable_ended (without_transaction session closed) refl (λ running e. cc e)

  stable_reply : (given : Tag) → IsStable script (with_reply world number session given)
  stable_reply given =
      stable_step script world _ number (session_replied session given) stable refl (spares_same world number _ _)
      (record { owner = λ xact e. holds.owner xact e; reading = λ running e. absurd (cc e) })

  -- a commit
  stable_commit : IsOpen session → (IsBefore (statement_at script number session) session
      ⊎ IsDone world (statement_at script number session) session) → IsStable script (with_commit world number session)
  stable_commit opened by =
      let own = holds.owner opened.0 opened.1 in
      rw opened.1 (stable_step script world _ number (without_transaction session (progress_ended tag.Commit session.progress)) stable refl
      (spares_commit world number opened.0 own.0 own.1 _)
      (record { owner = λ xact e. absurd (let f : None ≡ Some xact = e in cc f); reading = λ running e. behind own.0 own.1 by running e }))
    where
      behind : status_of world.transactions opened.0 ≡ Some IsRunning → beginner_of world.transactions opened.0 ≡ Some number →
          (IsBefore (statement_at script number session) session ⊎ IsDone world (statement_at script number session) session) →
          (running : Running) → progress_ended tag.Commit session.progress ≡ inside running →
          IsReading script (with_session (with_end world number opened.0 commit) number (without_transaction session (progress_ended tag.Commit session.progress)))
          number (without_transaction session (progress_ended tag.Commit session.progress)) running
      behind runs mine (inl s) running e =
          absurd (let f : ending tag.Commit ≡ inside running = ap (λ p. progress_ended tag.Commit p) (sym s.idle_is) ∙ e in cc f)
      behind runs mine (inr s) running e =
          let f : inside s.opened.running ≡ inside running = ap (λ p. progress_ended tag.Commit p) (sym s.opened.inside_is) ∙ e in
          let g : s.opened.running ≡ running = cc f in
          subst (λ r. IsReading script (with_session (with_end world number opened.0 commit) number (without_transaction session (progress_ended tag.Commit session.progress)))
          number (without_transaction session (progress_ended tag.Commit session.progress)) r) g (committed runs mine s)
        where
          committed : status_of world.transactions opened.0 ≡ Some IsRunning → beginner_of world.transactions opened.0 ≡ Some number →
              (s : IsDone world (statement_at script number session) session) →
              IsReading script (with_session (with_end world number opened.0 commit) number (without_transaction session (progress_ended tag.Commit session.progress)))
              number (without_transaction session (progress_ended tag.Commit session.progress)) s.opened.running
          committed runs mine s =
              let reading = holds.reading s.opened.running s.opened.inside_is in
              record {
                owned = beginner_ended world.transactions opened.0 s.opened.running.me.xact (Committed (world.transactions.commits + 1)) ∙ reading.owned;
                unseen = among_committed world number opened.0 runs mine s.opened.running.snapshot s.opened.running.me.xact reading.snapshot ∙ reading.unseen;
                snapshot = omega (arith, reading.snapshot);
                opened = inr (λ statement is_it.
                    let e : Some (Ok s.opened.statement) ≡ Some (Ok statement) = sym s.opened.statement_is ∙ is_it in
                    let same : s.opened.statement ≡ statement = cc e in
                    choices_stay statement world.tables (with_end world number opened.0 commit).tables world.transactions
                    (with_end world number opened.0 commit).transactions s.opened.running (length-map world.tables (table_after_end opened.0 commit))
                    (subst (λ st. choices st world.tables world.transactions s.opened.running ≡ []) same s.done));
                kept = λ statement is_it.
                    candidates_same statement world.tables (with_end world number opened.0 commit).tables world.transactions
                    (with_end world number opened.0 commit).transactions s.opened.running.snapshot s.opened.running.me
                    (seen_committed world number opened.0 runs mine s.opened.running.snapshot s.opened.running.me reading.snapshot)
                    ∙ reading.kept statement is_it;
              }

  -- a statement takes its snapshot
  opens : (t : Option ℕ) → session.transaction ≡ t →
      (status_of (transactions_opened world.transactions number t) (transaction_for world.transactions t) ≡ Some IsRunning)
      × (beginner_of (transactions_opened world.transactions number t) (transaction_for world.transactions t) ≡ Some number)
  opens None is = own_begun world.transactions number
  opens (Some xact) is = holds.owner xact is

  pub spares_opened : (t : Option ℕ) (sessions : List SessionView) →
      Spares world (record world { transactions = transactions_opened world.transactions number t; sessions = sessions }) number
  spares_opened None sessions = spares_begun world number sessions
  spares_opened (Some xact) sessions = spares_same world number sessions world.waits

  commits_opened : (t : Option ℕ) → (transactions_opened world.transactions number t).commits ≡ world.transactions.commits
  commits_opened None = refl
  commits_opened (Some xact) = refl

  stable_snapshot : (commits : ℕ) → commits ≡ world.transactions.commits →
      IsStable script (with_snapshot world number (statement_at script number session) session commits)
  stable_snapshot commits all =
      stable_step script world _ number (behind commits) stable refl (spares_opened session.transaction _)
      (record {
        owner = λ xact e.
            let f : transaction_for world.transactions session.transaction ≡ xact = cc e in
            subst (λ x. (status_of (transactions_opened world.transactions number session.transaction) x ≡ Some IsRunning)
            × (beginner_of (transactions_opened world.transactions number session.transaction) x ≡ Some number)) f own;
        reading = λ running e.
            let f : first_running (me_for world.transactions number session) commits
            (candidates_at (statement_at script number session) (with_open world number session) commits (me_for world.transactions number session)) ≡ running = cc e in
            subst (λ r. IsReading script (with_snapshot world number (statement_at script number session) session commits) number (behind commits) r) f
            (record {
              owned = own.1;
              unseen = among_running commits (transactions_opened world.transactions number session.transaction) _ own.0;
              snapshot = omega (arith, all, commits_opened session.transaction);
              opened = inl refl;
              kept = λ statement s. rw s refl;
            });
      })
    where
      behind : ℕ → SessionView
      behind commits =
          session_snapped (with_open world number session) (statement_at script number session) session commits
          (me_for world.transactions number session)

      own : (status_of (transactions_opened world.transactions number session.transaction) (transaction_for world.transactions session.transaction) ≡ Some IsRunning)
          × (beginner_of (transactions_opened world.transactions number session.transaction) (transaction_for world.transactions session.transaction) ≡ Some number)
      own = opens session.transaction refl

  stable_act : (act : EntryAct) → Needs script world number (statement_at script number session) session act →
      IsStable script (act_effect world number (statement_at script number session) session act)
  stable_act (entry.Snapped commits) needs = stable_snapshot commits needs.2
  stable_act (entry.Found candidate) needs = stable_candidate candidate needs.0
  stable_act (entry.Placed table row) needs = stable_placed table row needs.0
  stable_act (entry.Inserted table row) needs = stable_inserted table row needs
  stable_act (entry.Locked table row strength) needs = stable_locked table row strength needs.0
  stable_act (entry.Updated table row) needs = stable_changed (entry.Updated table row) table row _ needs
  stable_act (entry.Deleted table row) needs = stable_changed (entry.Deleted table row) table row _ needs
  stable_act entry.Passed (inl s) = stable_passed found s
  stable_act entry.Passed (inr s) = stable_passed (locked s.0) s.1
  stable_act (entry.Waits other) needs = stable_waiting other
  stable_act entry.Committed needs = stable_commit needs.0 needs.1
  stable_act entry.RolledBack needs = stable_rollback needs.1
  stable_act (entry.Replied reply) needs = stable_reply reply.tag
  stable_act (entry.Failed error) needs = stable_failure
  stable_act entry.Closed needs = stable_closure

-- setup leaves no open statement, and each permitted entry keeps what is open stable
pub stable_kept : (script : Script) (world : World) (entry : Entry) → IsStable script world →
    IsPermitted script world entry → IsStable script (effect script world entry)
stable_kept script world entry stable move =
    let m = move_of script world entry move in
    rw m.is (stable_act script world entry.session m.session m.is stable entry.act m.needs)

pub stable_first : (script : Script) → IsStable script (first_world script)
stable_first script = record {
  each = λ number session is.
      fresh number session (slice_get script.sessions number) (sym (slice_get-map (λ name. fresh_session) script.sessions number) ∙ is);
}
  where
    fresh : (number : ℕ) (session : SessionView) (name : Option (List ℕ)) →
        option_map (λ n. fresh_session) name ≡ Some session → Holds script (first_world script) number session
    fresh number session None is = absurd (cc is)
    fresh number session (Some name) is =
        let e : fresh_session ≡ session = cc is in
        rw (← e) (record { owner = λ xact f. absurd (cc f); reading = λ running f. absurd (cc f) })

pub stable_after : (script : Script) (journal : List Entry) → IsLegal script journal → IsStable script (world_after script journal)
stable_after script journal legal =
    holds_from script (λ world. IsStable script world) (λ world entry stable move. stable_kept script world entry stable move)
    (first_world script) journal (stable_first script) legal
