-- Each permitted entry has what its kind needs: one pass over the moves.
use Rattle.std.proofs.Common.{◌≡◌, ◌+◌, ◌||◌, ℕ, Bool, true, false, cond, List, [], ◌∷◌, length, Contains, Option, Some, None, slice_get, refl, sym, subst, inl, inr, arith}
use Rattle.std.specs.Prelude.{Result, Ok, Err, nat_lt, is_some, is_none, map}
use Rattle.std.proofs.lemmas.Bool.{ltb-true}
use Rattle.pg_lists.specs.Numbered.{item_at}
use Rattle.pg_multi.specs.declared.strength.Strength.{Strength}
use Rattle.pg_multi.specs.Locks.{blocker}
use Rattle.pg_waits.specs.Chains.{ring_of}
use Rattle.pg_values.specs.declared.value.Value.{Value}
use Rattle.pg_xacts.specs.declared.on.On.{On}
use Rattle.pg_heap.specs.Current.{current_values, newest}
use Rattle.pg_model.specs.declared.error.SqlError.{SqlError}
use Rattle.pg_model.specs.declared.error.SqlError.TheVariants.{Deadlock}
use Rattle.pg_model.specs.declared.journal.Entry.{Entry}
use Rattle.pg_model.specs.declared.journal.EntryAct.{EntryAct}
use Rattle.pg_model.specs.declared.journal.EntryAct.TheVariants as entry
use Rattle.pg_model.specs.declared.journal.Reply.{Reply}
use Rattle.pg_model.specs.declared.journal.Tag.{Tag}
use Rattle.pg_model.specs.declared.script.Script.{Script}
use Rattle.pg_model.specs.declared.statement.Change.{Change}
use Rattle.pg_model.specs.declared.statement.Statement.{Statement}
use Rattle.pg_model.specs.declared.statement.Statement.TheVariants as statement
use Rattle.pg_model.specs.Printed.{session_name}
use Rattle.pg_world.specs.declared.candidate.Candidate.{Candidate}
use Rattle.pg_world.specs.declared.candidate.SeenRow.{SeenRow}
use Rattle.pg_world.specs.Candidates.{passes}
use Rattle.pg_world.specs.Changes.{act_on, blocked_or_locked, change_choices_at, change_strength, changing_choices, is_as_seen, is_of_command, locking_choices, new_values, partners_in, partners_locked, row_at, second_look, table_at, target_row}
use Rattle.pg_world.specs.Choices.{choices, choices_by, insert_choices, placing_choices}
use Rattle.pg_world.specs.Choosing.{Choice, does, fails, if_made, waits}
use Rattle.pg_world.specs.declared.session.Block.{Block}
use Rattle.pg_world.specs.declared.session.Progress.{Progress}
use Rattle.pg_world.specs.declared.session.Running.{Running}
use Rattle.pg_world.specs.declared.session.SessionView.{SessionView}
use Rattle.pg_world.specs.declared.session.Stage.{Stage}
use Rattle.pg_world.specs.declared.session.VersionName.{VersionName}
use Rattle.pg_world.specs.declared.session.Block.TheVariants.{NoBlock as no_block, OpenBlock as open_block, FailedBlock as failed_block}
use Rattle.pg_world.specs.declared.session.Progress.TheVariants.{Idle as idle, Inside as inside, Ending as ending, Closed as closed}
use Rattle.pg_world.specs.declared.session.Stage.TheVariants.{Between as between, Found as found, Locked as locked, Placed as placed}
use Rattle.pg_world.specs.declared.table.TableView.{TableView}
use Rattle.pg_world.specs.Tables.{locks_on}
use Rattle.pg_world.specs.Worlds.{World}
use Rattle.pg_relation.specs.Lines.{statement_at}
use Rattle.pg_relation.specs.Moves.{act_of, ends_block, commit_moves, rollback_moves, beginning_moves, block_moves, idle_moves, done_moves, chosen_or_done, inside_moves, ending_moves, session_moves, moves_in, moves_unless_waiting, waiting_act, IsPermitted}
use Rattle.pg_world.specs.Replies.{reply_of}
use Rattle.pg_relation.specs.Needs.{IsBefore, IsInside, IsAtStage, IsBlocked, IsChoosing, IsDone, IsFailing, Needs}
use Rattle.pg_relation.proofs.Lists.{contains_none, contains_one}

-- where neither test passes
neither : (a b : Bool) → (a || b) ≡ false → b ≡ false
neither false b is = is
neither true b is = absurd (cc is)

there_is : {X : Type 0} (o : Option X) → is_none o ≡ false → is_some o ≡ true
there_is None is = absurd (cc is)
there_is (Some x) is = refl

module _ (script : Script) (world : World) (number : ℕ) (given : Option (Result Statement SqlError)) (session : SessionView) where
  one : (a b : EntryAct) → Needs script world number given session a → Contains (a ∷ []) b → Needs script world number given session b
  one a b needs move = subst (λ c. Needs script world number given session c) (contains_one a b move) needs

  none : (act : EntryAct) → Contains [] act → Needs script world number given session act
  none act move = absurd (contains_none act move)

  -- a statement begins
  module _ (next : Result Statement SqlError) (next_is : given ≡ Some next) (idle_is : session.progress ≡ idle) where
    abbrev before : IsBefore given session
    before = record { idle_is = idle_is; next = next; next_is = next_is }

    needs_commit : (block : Block) (transaction : Option ℕ) (act : EntryAct) → session.transaction ≡ transaction →
        Contains (commit_moves block transaction) act → Needs script world number given session act
    needs_commit block (Some xact) act is move = one entry.Committed act ((xact, is), inl before) move
    needs_commit block None act is move = one _ act (inl before) move

    needs_rollback : (transaction : Option ℕ) (act : EntryAct) → session.transaction ≡ transaction →
        Contains (rollback_moves transaction) act → Needs script world number given session act
    needs_rollback (Some xact) act is move = one entry.RolledBack act ((xact, is), before) move
    needs_rollback None act is move = one _ act (inl before) move

    needs_snapshot : (statement : Statement) (act : EntryAct) → next ≡ Ok statement →
        Contains (entry.Snapped world.transactions.commits ∷ []) act → Needs script world number given session act
    needs_snapshot statement act is move = one _ act (before, (statement, is), refl) move

    needs_beginning : (n : Result Statement SqlError) (act : EntryAct) → next ≡ n →
        Contains (beginning_moves world session n) act → Needs script world number given session act
    needs_beginning (Ok statement.Begin) act is move = one _ act (inl before) move
    needs_beginning (Ok statement.Commit) act is move =
        needs_commit session.block session.transaction act refl move
    needs_beginning (Ok statement.Rollback) act is move = needs_rollback session.transaction act refl move
    needs_beginning (Ok (statement.Select select)) act is move = needs_snapshot _ act is move
    needs_beginning (Ok (statement.Insert insert)) act is move = needs_snapshot _ act is move
    needs_beginning (Ok (statement.Change change)) act is move = needs_snapshot _ act is move
    needs_beginning (Err error) act is move = one _ act (inl before) move

    needs_block : (block : Block) (ends : Bool) (act : EntryAct) →
        Contains (block_moves world session next block ends) act → Needs script world number given session act
    needs_block failed_block false act move = one _ act (inl before) move
    needs_block failed_block true act move = needs_beginning next act refl move
    needs_block no_block ends act move = needs_beginning next act refl move
    needs_block open_block ends act move = needs_beginning next act refl move

  needs_idle : (next : Option (Result Statement SqlError)) (act : EntryAct) → given ≡ next → session.progress ≡ idle →
      Contains (idle_moves world session next) act → Needs script world number given session act
  needs_idle (Some next) act is idle_is move = needs_block next is idle_is session.block (ends_block next) act move
  needs_idle None act is idle_is move = one _ act (record { idle_is = idle_is; none = is }) move

  -- a statement goes on
  module _ (own : Statement) (own_is : given ≡ Some (Ok own)) (running : Running) (inside_is : session.progress ≡ inside running) where
    abbrev at : (candidates : Result (List Candidate) SqlError) → running.candidates ≡ candidates → IsInside given session candidates
    at candidates is =
        record { statement = own; statement_is = own_is; running = running; inside_is = inside_is; candidates_are = is }

    module _ (candidates : List Candidate) (candidates_are : running.candidates ≡ Ok candidates) where
      stands : (stage : Stage) (act : EntryAct) → running.stage ≡ stage →
          choices own world.tables world.transactions running ≡ does act ∷ [] → IsAtStage world given session stage act
      stands stage act is chosen = record {
        candidates = candidates;
        opened = at (Ok candidates) candidates_are;
        stage_is = is;
        choice = subst (λ cs. Contains cs (does act)) (sym chosen) (0, omega arith, refl);
      }

      needs_done : (block : Block) (transaction : Option ℕ) (reply : Reply) (act : EntryAct) →
          choices own world.tables world.transactions running ≡ [] → session.transaction ≡ transaction →
          Contains (done_moves block transaction reply) act → Needs script world number given session act
      needs_done block transaction reply act done is move = by block transaction is move
        where
          is_done : IsDone world given session
          is_done = record { candidates = candidates; opened = at (Ok candidates) candidates_are; done = done }

          by : (block : Block) (transaction : Option ℕ) → session.transaction ≡ transaction →
              Contains (done_moves block transaction reply) act → Needs script world number given session act
          by no_block (Some xact) is move = one _ act ((xact, is), inr is_done) move
          by no_block None is move = one _ act (inr (inl is_done)) move
          by open_block transaction is move = one _ act (inr (inl is_done)) move
          by failed_block transaction is move = one _ act (inr (inl is_done)) move

      -- what makes an act of a choice have its needs
      abbrev Suits : Choice → Type 0
      Suits (does act) = Needs script world number given session act
      Suits (waits other) = (cycle : Option (List ℕ)) → ring_of world.waits number other ≡ cycle →
          IsBlocked world number given session other cycle
      Suits (fails error) = Unit {0}

      chosen_is : (choice : Choice) → choices own world.tables world.transactions running ≡ choice ∷ [] →
          IsChoosing world given session choice
      chosen_is choice chosen = record {
        candidates = candidates;
        opened = at (Ok candidates) candidates_are;
        contained = subst (λ cs. Contains cs choice) (sym chosen) (0, omega arith, refl);
      }

      needs_choice : (choice : Choice) (done : List EntryAct) (act : EntryAct) →
          choices own world.tables world.transactions running ≡ choice ∷ [] → Suits choice →
          Contains (chosen_or_done (act_of script world number) (choice ∷ []) done) act → Needs script world number given session act
      needs_choice (does made) done act chosen suits move = one made act suits move
      needs_choice (waits other) done act chosen suits move =
          by (ring_of world.waits number other) refl move
        where
          by : (cycle : Option (List ℕ)) → ring_of world.waits number other ≡ cycle →
              Contains (waiting_act script other cycle ∷ []) act → Needs script world number given session act
          by None is move = one (entry.Waits other) act (suits None is) move
          by (Some cycle) is move =
              one (entry.Failed (Deadlock (map (session_name script) cycle))) act
              (inr (inr (inr (other, cycle, suits (Some cycle) is, refl)))) move
      needs_choice (fails error) done act chosen suits move =
          one (entry.Failed error) act (inr (inr (inl (chosen_is (fails error) chosen)))) move

      abbrev after : List EntryAct
      after = done_moves session.block session.transaction (reply_of own running)

      abbrev HasMove : List Choice → EntryAct → Type 0
      HasMove cs act = Contains (chosen_or_done (act_of script world number) cs after) act

      needs_none : (act : EntryAct) → choices own world.tables world.transactions running ≡ [] → HasMove [] act →
          Needs script world number given session act
      needs_none act chosen move = needs_done session.block session.transaction (reply_of own running) act chosen refl move

      -- the next candidate is taken up
      needs_candidate : (more : Bool) (act : EntryAct) →
          choices own world.tables world.transactions running ≡ cond more (does (entry.Found (running.candidate + 1)) ∷ []) [] →
          nat_lt running.candidate (length candidates) ≡ more → running.stage ≡ between →
          HasMove (cond more (does (entry.Found (running.candidate + 1)) ∷ []) []) act → Needs script world number given session act
      unfolding stands
      needs_candidate true act chosen more is move =
          needs_choice (does (entry.Found (running.candidate + 1))) after act chosen
          (stands between _ is chosen, refl, ltb-true running.candidate (length candidates) more) move
      needs_candidate false act chosen more is move = needs_none act chosen move

      -- an INSERT
      needs_placing : (table : ℕ) (view : Option TableView) (act : EntryAct) →
          choices own world.tables world.transactions running ≡ placing_choices table view →
          item_at world.tables table ≡ view → running.stage ≡ found → HasMove (placing_choices table view) act →
          Needs script world number given session act
      needs_placing table (Some view) act chosen is stage_is move =
          needs_choice (does _) after act chosen (stands found _ stage_is chosen, (view, is, refl)) move
      needs_placing table None act chosen is stage_is move = needs_none act chosen move

      needs_insert : (table : ℕ) (stage : Stage) (act : EntryAct) →
          choices own world.tables world.transactions running
          ≡ insert_choices table world.tables running (length candidates) stage → running.stage ≡ stage →
          HasMove (insert_choices table world.tables running (length candidates) stage) act →
          Needs script world number given session act
      needs_insert table between act chosen is move = needs_candidate _ act chosen refl is move
      needs_insert table found act chosen is move =
          needs_placing table (item_at world.tables table) act chosen refl is move
      needs_insert table (locked name) act chosen is move = needs_none act chosen move
      needs_insert table (placed row) act chosen is move =
          needs_choice (does _) after act chosen (stands (placed row) _ is chosen) move

      -- what may be made, or its error
      needs_made : {X : Type 0} (made : Result X SqlError) (behind : X → List Choice) (act : EntryAct) →
          choices own world.tables world.transactions running ≡ if_made made behind →
          ((x : X) → choices own world.tables world.transactions running ≡ behind x → HasMove (behind x) act →
          Needs script world number given session act) → HasMove (if_made made behind) act →
          Needs script world number given session act
      needs_made (Ok x) behind act chosen goes_on move = goes_on x chosen move
      needs_made (Err error) behind act chosen goes_on move = needs_choice (fails error) after act chosen tt move

      -- an UPDATE or DELETE
      needs_lock : (table row : ℕ) (strength : Strength) (holder : Option ℕ) (act : EntryAct) →
          choices own world.tables world.transactions running
          ≡ blocked_or_locked world.transactions table row strength holder → running.stage ≡ found →
          is_some (current_values world.transactions running.me.xact (row_at (table_at world.tables table) row)) ≡ true →
          blocker (locks_on (table_at world.tables table) row) running.me.xact strength ≡ holder →
          HasMove (blocked_or_locked world.transactions table row strength holder) act →
          Needs script world number given session act
      unfolding stands chosen_is
      needs_lock table row strength None act chosen stage_is there free move =
          needs_choice (does _) after act chosen (stands found _ stage_is chosen, record { there = there; free = free }) move
      needs_lock table row strength (Some holder) act chosen stage_is there held move =
          needs_choice (waits _) after act chosen
          (λ cycle is. record {
            chosen = chosen_is _ chosen;
            stage_is = stage_is;
            held = record { table = table; row = row; strength = strength; holder = holder; held = held; beginner = refl };
            cycle_is = is;
          }) move

      needs_locking : (table row : ℕ) (strength : Strength) (act : EntryAct) →
          choices own world.tables world.transactions running
          ≡ locking_choices table (table_at world.tables table) world.transactions running.me strength row →
          running.stage ≡ found →
          HasMove (locking_choices table (table_at world.tables table) world.transactions running.me strength row) act →
          Needs script world number given session act
      needs_locking table row strength act chosen stage_is move =
          by (is_of_command running.me (newest (row_at (table_at world.tables table) row))
          || is_none (current_values world.transactions running.me.xact (row_at (table_at world.tables table) row))) refl chosen move
        where
          by : (b : Bool) → (is_of_command running.me (newest (row_at (table_at world.tables table) row))
              || is_none (current_values world.transactions running.me.xact (row_at (table_at world.tables table) row))) ≡ b →
              choices own world.tables world.transactions running
              ≡ cond b (does entry.Passed ∷ []) (blocked_or_locked world.transactions table row strength
              (blocker (locks_on (table_at world.tables table) row) running.me.xact strength)) →
              HasMove (cond b (does entry.Passed ∷ []) (blocked_or_locked world.transactions table row strength
              (blocker (locks_on (table_at world.tables table) row) running.me.xact strength))) act →
              Needs script world number given session act
          by true b chosen move = needs_choice (does entry.Passed) after act chosen (inl (stands found _ stage_is chosen)) move
          by false b chosen move =
              needs_lock table row strength (blocker (locks_on (table_at world.tables table) row) running.me.xact strength) act chosen stage_is
              (there_is (current_values world.transactions running.me.xact (row_at (table_at world.tables table) row))
              (neither (is_of_command running.me (newest (row_at (table_at world.tables table) row))) _ b)) refl move

      needs_changing : (change : Change) (partners : List SeenRow) (name : VersionName) (act : EntryAct) →
          choices own world.tables world.transactions running ≡ changing_choices change partners → running.stage ≡ locked name →
          HasMove (changing_choices change partners) act → Needs script world number given session act
      needs_changing change partners name act chosen stage_is move =
          needs_made (new_values change partners) (λ values. does (act_on change.target.table (target_row partners) values) ∷ []) act
          chosen by move
        where
          by : (values : Option (List Value)) →
              choices own world.tables world.transactions running ≡ does (act_on change.target.table (target_row partners) values) ∷ [] →
              HasMove (does (act_on change.target.table (target_row partners) values) ∷ []) act →
              Needs script world number given session act
          by (Some values) chosen move =
              needs_choice (does (entry.Updated change.target.table (target_row partners))) after act chosen
              (name, stands (locked name) _ stage_is chosen) move
          by None chosen move =
              needs_choice (does (entry.Deleted change.target.table (target_row partners))) after act chosen
              (name, stands (locked name) _ stage_is chosen) move

      needs_second : (change : Change) (partners : List SeenRow) (name : VersionName) (act : EntryAct) →
          choices own world.tables world.transactions running ≡ second_look change partners → running.stage ≡ locked name →
          HasMove (second_look change partners) act → Needs script world number given session act
      needs_second change partners name act chosen stage_is move =
          needs_made (passes change.condition partners) (λ passed. cond passed (changing_choices change partners) (does entry.Passed ∷ [])) act
          chosen by move
        where
          by : (passed : Bool) →
              choices own world.tables world.transactions running ≡ cond passed (changing_choices change partners) (does entry.Passed ∷ []) →
              HasMove (cond passed (changing_choices change partners) (does entry.Passed ∷ [])) act →
              Needs script world number given session act
          by true chosen move = needs_changing change partners name act chosen stage_is move
          by false chosen move =
              needs_choice (does entry.Passed) after act chosen (inr (name, stands (locked name) _ stage_is chosen)) move

      needs_looked : (change : Change) (name : VersionName) (changed : List SeenRow) (as_seen : Bool) (act : EntryAct) →
          choices own world.tables world.transactions running ≡ cond as_seen (changing_choices change changed) (second_look change changed) →
          running.stage ≡ locked name → HasMove (cond as_seen (changing_choices change changed) (second_look change changed)) act →
          Needs script world number given session act
      needs_looked change name changed true act chosen is move = needs_changing change changed name act chosen is move
      needs_looked change name changed false act chosen is move = needs_second change changed name act chosen is move

      needs_change : (change : Change) (stage : Stage) (act : EntryAct) →
          choices own world.tables world.transactions running
          ≡ change_choices_at change world.tables world.transactions running (length candidates) stage → running.stage ≡ stage →
          HasMove (change_choices_at change world.tables world.transactions running (length candidates) stage) act →
          Needs script world number given session act
      needs_change change between act chosen is move = needs_candidate _ act chosen refl is move
      needs_change change found act chosen is move =
          needs_made (new_values change (partners_in running))
          (λ values. locking_choices change.target.table (table_at world.tables change.target.table) world.transactions running.me
          (change_strength change.action) (target_row (partners_in running))) act chosen
          (λ values chosen move.
          needs_locking change.target.table (target_row (partners_in running)) (change_strength change.action) act chosen is move) move
      needs_change change (locked name) act chosen is move =
          needs_looked change name
          (partners_locked (row_at (table_at world.tables change.target.table) (target_row (partners_in running))) name (partners_in running))
          (is_as_seen name (partners_in running)) act chosen is move
      needs_change change (placed row) act chosen is move = needs_none act chosen move

    needs_by : (given_by : Statement) (candidates : Result (List Candidate) SqlError) (act : EntryAct) →
        choices own world.tables world.transactions running
        ≡ choices_by given_by world.tables world.transactions running candidates → running.candidates ≡ candidates →
        Contains (chosen_or_done (act_of script world number) (choices_by given_by world.tables world.transactions running candidates)
        (done_moves session.block session.transaction (reply_of own running))) act → Needs script world number given session act
    needs_by given_by (Err error) act chosen is move = one _ act (inr (inl (at (Err error) is))) move
    needs_by (statement.Insert insert) (Ok candidates) act chosen is move =
        needs_insert candidates is insert.target.table running.stage act chosen refl move
    needs_by (statement.Change change) (Ok candidates) act chosen is move =
        needs_change candidates is change running.stage act chosen refl move
    needs_by (statement.Select select) (Ok candidates) act chosen is move = needs_none candidates is act chosen move
    needs_by statement.Begin (Ok candidates) act chosen is move = needs_none candidates is act chosen move
    needs_by statement.Commit (Ok candidates) act chosen is move = needs_none candidates is act chosen move
    needs_by statement.Rollback (Ok candidates) act chosen is move = needs_none candidates is act chosen move

  needs_inside : (running : Running) (next : Option (Result Statement SqlError)) (act : EntryAct) → given ≡ next →
      session.progress ≡ inside running → Contains (inside_moves script world number session running next) act →
      Needs script world number given session act
  needs_inside running (Some (Ok own)) act is inside_is move =
      needs_by own is running inside_is own running.candidates act refl refl move
  needs_inside running (Some (Err error)) act is inside_is move = none act move
  needs_inside running None act is inside_is move = none act move

  needs_ending : (tag : Tag) (next : Option (Result Statement SqlError)) (act : EntryAct) → given ≡ next →
      session.progress ≡ ending tag → Contains (ending_moves tag next) act → Needs script world number given session act
  needs_ending tag (Some next) act is ending_is move =
      one _ act (inr (inr (record { tag = tag; ending_is = ending_is; next = next; next_is = is }))) move
  needs_ending tag None act is ending_is move = none act move

  needs_session : (progress : Progress) (act : EntryAct) → session.progress ≡ progress →
      Contains (session_moves script world number session given progress) act → Needs script world number given session act
  needs_session idle act is move = needs_idle given act refl is move
  needs_session (inside running) act is move = needs_inside running given act refl is move
  needs_session (ending tag) act is move = needs_ending tag given act refl is move
  needs_session closed act is move = none act move

-- a session that fails where it stands is inside a statement
pub failing_inside : (script : Script) (world : World) (number : ℕ) (given : Option (Result Statement SqlError)) (session : SessionView)
    (error : SqlError) → IsFailing script world number given session error →
    (candidates : Result (List Candidate) SqlError) × IsInside given session candidates
failing_inside script world number given session error (inl s) = (Ok s.candidates, s.opened)
failing_inside script world number given session error (inr s) = (Ok s.2.chosen.candidates, s.2.chosen.opened)

-- what makes an entry permitted: its session is there, does not wait, and stands where the act needs it to stand
pub record IsMove (script : Script) (world : World) (number : ℕ) (act : EntryAct) : Type 0 where
  pub session : SessionView
  pub is : slice_get world.sessions number ≡ Some session
  pub free : item_at world.waits number ≡ Some None
  pub needs : Needs script world number (statement_at script number session) session act

pub move_of : (script : Script) (world : World) (entry : Entry) → IsPermitted script world entry →
    IsMove script world entry.session entry.act
move_of script world entry move = at (slice_get world.sessions entry.session) refl move
  where
    by : (session : SessionView) → slice_get world.sessions entry.session ≡ Some session →
        (wait : Option (Option On)) → item_at world.waits entry.session ≡ wait →
        Contains (moves_unless_waiting wait (session_moves script world entry.session session
        (statement_at script entry.session session) session.progress)) entry.act → IsMove script world entry.session entry.act
    by session is (Some None) free move = record {
      session = session;
      is = is;
      free = free;
      needs = needs_session script world entry.session (statement_at script entry.session session) session session.progress entry.act refl move;
    }
    by session is (Some (Some on)) standing move = absurd (contains_none entry.act move)
    by session is None standing move = absurd (contains_none entry.act move)

    at : (session : Option SessionView) → slice_get world.sessions entry.session ≡ session →
        Contains (moves_in script world entry.session session) entry.act → IsMove script world entry.session entry.act
    at (Some session) is move = by session is (item_at world.waits entry.session) refl move
    at None is move = absurd (contains_none entry.act move)
