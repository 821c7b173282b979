-- Each permitted entry makes the weight of a world less.
use Rattle.std.proofs.Common.{◌≡◌, ◌<◌, ◌+◌, ◌++◌, ◌⊎◌, ℕ, List, [], ◌∷◌, length, Option, Some, None, slice_get, slice_set, refl, ap, inl, inr, arith, length-drop, length-append}
use Rattle.std.specs.Prelude.{Result, Ok, sum_by}
use Rattle.std.proofs.lemmas.Option.{slice_get_within}
use Rattle.pg_ending.specs.Weight.{IsLess}
use Rattle.pg_ending.specs.Totals.{numbers_at, totals}
use Rattle.pg_ending.proofs.Totals.{totals_fall_at}
use Rattle.pg_lists.specs.Numbered.{item_at}
use Rattle.pg_waits.specs.Effects.{wait_begun}
use Rattle.pg_xacts.specs.declared.on.On.{On}
use Rattle.pg_multi.specs.declared.strength.Strength.{Strength}
use Rattle.pg_model.specs.declared.error.SqlError.{SqlError}
use Rattle.pg_model.specs.declared.journal.Entry.{Entry}
use Rattle.pg_model.specs.declared.journal.EntryAct.{EntryAct}
use Rattle.pg_model.specs.declared.journal.EntryAct.TheVariants as entry
use Rattle.pg_model.specs.declared.journal.Tag.{Tag}
use Rattle.pg_model.specs.declared.journal.Tag.TheVariants as tag
use Rattle.pg_model.specs.declared.script.Script.{Script}
use Rattle.pg_model.specs.declared.statement.Statement.{Statement}
use Rattle.pg_values.specs.declared.value.Value.{Value}
use Rattle.pg_world.specs.Replies.{candidate_list}
use Rattle.pg_world.specs.declared.session.SessionView.{SessionView}
use Rattle.pg_world.specs.declared.session.Progress.TheVariants.{Inside as inside}
use Rattle.pg_world.specs.declared.session.Stage.TheVariants.{Between as between, Found as found, Placed as placed}
use Rattle.pg_world.specs.Tables.{TransactionEnd, commit, rollback}
use Rattle.pg_world.specs.Worlds.{World, until_end, with_end_of, with_wait}
use Rattle.pg_relation.specs.Effect.{with_snapshot, with_candidate, with_placed_row, with_locked_row, with_inserted_row, with_changed_row, with_passed, with_commit, with_rollback, with_reply, with_failure, with_closure, without_transaction, progress_ended, session_replied, session_failed, values_set, act_effect, effect}
use Rattle.pg_relation.specs.Running.{running_found, running_placed, running_locked, running_acted, running_passed, current_in}
use Rattle.pg_relation.proofs.Running.{running_changed}
use Rattle.pg_relation.specs.Lines.{statements_of, statement_at}
use Rattle.pg_relation.specs.Moves.{IsPermitted}
use Rattle.pg_relation.specs.Needs.{IsBefore, IsAtEnd, IsAtStage, IsEnding, IsFailing, IsLockedFor, IsOpen, IsDone, IsRefused, Needs}
use Rattle.pg_relation.specs.Weight.{open_count, under_way_count, unplaced_count_at, unended_count, unwaiting_count, numbers, weight}
use Rattle.pg_relation.proofs.Lists.{sum_set}
use Rattle.pg_relation.proofs.Needs.{failing_inside, move_of}

-- the end of a transaction leaves the sessions
pub sessions_ended : (world : World) (number : ℕ) (transaction : Option ℕ) (end : TransactionEnd) →
    (with_end_of world number transaction end).sessions ≡ world.sessions
sessions_ended world number None end = refl
sessions_ended world number (Some xact) end = refl

-- lists with one number more
less_more : (xs ys : List ℕ) (m n : ℕ) → IsLess xs ys → IsLess (xs ++ m ∷ []) (ys ++ n ∷ [])
less_more [] ys m n less = absurd less
less_more (x ∷ xs) [] m n less = absurd less
less_more (x ∷ xs) (y ∷ ys) m n (inl h) =
    let one = length-append xs (m ∷ []) in
    let other = length-append ys (n ∷ []) in
    inl (h.0, omega (arith, h.1, one, other))
less_more (x ∷ xs) (y ∷ ys) m n (inr h) = inr (h.0, less_more xs ys m n h.1)

less_last : (xs : List ℕ) (m n : ℕ) → m < n → IsLess (xs ++ m ∷ []) (xs ++ n ∷ [])
less_last [] m n less = inl (less, refl)
less_last (x ∷ xs) m n less = inr (refl, less_last xs m n less)

module _ (script : Script) (world : World) (number : ℕ) (session : SessionView) (is : slice_get world.sessions number ≡ Some session) where
  given : Option (Result Statement SqlError)
  given = slice_get (statements_of script number) session.answered

  -- the session's own numbers fall
  falls_by : (other : SessionView) → IsLess (numbers_at (numbers script) number other) (numbers_at (numbers script) number session) →
      (unwaiting : ℕ) →
      IsLess (totals (numbers script) (slice_set world.sessions number other) ++ unwaiting ∷ []) (weight script world)
  falls_by other less unwaiting =
      less_more (totals (numbers script) (slice_set world.sessions number other)) (totals (numbers script) world.sessions) _ _
      (totals_fall_at (numbers script) world.sessions number session other is less)

  -- a session begins to wait
  weight_wait : (on : On) → item_at world.waits number ≡ Some None → IsLess (weight script (with_wait world number on)) (weight script world)
  weight_wait on free =
      let sum = sum_set unwaiting_count world.waits number None (Some on) free in
      less_last (totals (numbers script) world.sessions) (sum_by unwaiting_count (wait_begun world.waits number on))
      (sum_by unwaiting_count world.waits) (omega (arith, sum))

  -- there is a statement without a reply
  left : (next : Result Statement SqlError) → statement_at script number session ≡ Some next →
      session.answered < length (statements_of script number)
  left next next_is = slice_get_within (statements_of script number) session.answered next next_is

  -- a reply
  falls_answered : (other : SessionView) (next : Result Statement SqlError) → statement_at script number session ≡ Some next →
      unended_count session.progress ≡ 1 → unended_count other.progress ≡ 1 → other.answered ≡ session.answered + 1 →
      IsLess (numbers_at (numbers script) number other) (numbers_at (numbers script) number session)
  falls_answered other next next_is one same more =
      let within = left next next_is in
      let old = length-drop session.answered (statements_of script number) in
      let new = length-drop other.answered (statements_of script number) in
      inr (omega (arith, one, same), inl (omega (arith, within, old, new, more), refl))

  weight_snapshot : (commits : ℕ) → IsBefore (statement_at script number session) session →
      IsLess (weight script (with_snapshot world number (statement_at script number session) session commits)) (weight script world)
  weight_snapshot commits s =
      let within = left s.next s.next_is in
      let rest = length-drop session.answered (statements_of script number) in
      falls_by _ (rw s.idle_is (inr (refl, inr (refl, inl (omega (arith, within, rest), refl))))) _

  weight_candidate : (candidate : ℕ) (s : IsAtStage world (statement_at script number session) session between (entry.Found candidate)) →
      candidate ≡ s.opened.running.candidate + 1 → s.opened.running.candidate < length s.candidates →
      IsLess (weight script (with_candidate world number session candidate)) (weight script world)
  weight_candidate candidate s next more =
      let count = ap (λ c. length (candidate_list c)) s.opened.candidates_are in
      let stage = ap under_way_count s.stage_is in
      rw s.opened.inside_is (falls_by (record session { progress = inside (running_found candidate s.opened.running) })
      (rw s.opened.inside_is (inr (refl, inr (refl, inr (refl, inr (refl, inl (omega (arith, more, next, count, stage), refl))))))) _)

  weight_placed : (table row : ℕ) → IsAtStage world (statement_at script number session) session found (entry.Placed table row) →
      IsLess (weight script (with_placed_row world number session table row)) (weight script world)
  weight_placed table row s =
      let stage = ap under_way_count s.stage_is in
      let none = ap unplaced_count_at s.stage_is in
      rw s.opened.inside_is (falls_by (record session { progress = inside (running_placed row s.opened.running) })
      (rw s.opened.inside_is (inr (refl, inr (refl, inr (refl, inr (refl, inr (omega (arith, stage), inl (omega (arith, none), refl)))))))) _)

  weight_locked : (table row : ℕ) (strength : Strength) →
      IsAtStage world (statement_at script number session) session found (entry.Locked table row strength) →
      IsLess (weight script (with_locked_row world number session table row strength)) (weight script world)
  weight_locked table row strength s =
      let stage = ap under_way_count s.stage_is in
      let none = ap unplaced_count_at s.stage_is in
      rw s.opened.inside_is (falls_by
      (record session { progress = inside (running_locked (current_in world.tables world.transactions table row s.opened.running.me.xact) s.opened.running) })
      (rw s.opened.inside_is (inr (refl, inr (refl, inr (refl, inr (refl, inr (omega (arith, stage), inl (omega (arith, none), refl)))))))) _)

  weight_inserted : (table row : ℕ) → IsAtStage world (statement_at script number session) session (placed row) (entry.Inserted table row) →
      IsLess (weight script (with_inserted_row world number session table row)) (weight script world)
  weight_inserted table row s =
      let stage = ap under_way_count s.stage_is in
      rw s.opened.inside_is (falls_by (record session { progress = inside (running_acted s.opened.running) })
      (rw s.opened.inside_is (inr (refl, inr (refl, inr (refl, inr (refl, inl (omega (arith, stage), refl))))))) _)

  weight_changed : (table row : ℕ) (values : Option (List Value)) (act : EntryAct) →
      IsLockedFor world (statement_at script number session) session act →
      IsLess (weight script (with_changed_row world number session table row values)) (weight script world)
  weight_changed table row values act s =
      let stage = ap under_way_count s.1.stage_is in
      rw (s.1.opened.inside_is, running_changed world.tables world.transactions table row values s.1.opened.running)
      (falls_by (record session { progress = inside (running_acted s.1.opened.running) })
      (rw s.1.opened.inside_is (inr (refl, inr (refl, inr (refl, inr (refl, inl (omega (arith, stage), refl))))))) _)

  weight_passed : (IsAtStage world (statement_at script number session) session found entry.Passed
      ⊎ IsLockedFor world (statement_at script number session) session entry.Passed) →
      IsLess (weight script (with_passed world number session)) (weight script world)
  weight_passed (inl s) =
      let stage = ap under_way_count s.stage_is in
      rw s.opened.inside_is (falls_by (record session { progress = inside (running_passed s.opened.running) })
      (rw s.opened.inside_is (inr (refl, inr (refl, inr (refl, inr (refl, inl (omega (arith, stage), refl))))))) _)
  weight_passed (inr s) =
      let stage = ap under_way_count s.1.stage_is in
      rw s.1.opened.inside_is (falls_by (record session { progress = inside (running_passed s.1.opened.running) })
      (rw s.1.opened.inside_is (inr (refl, inr (refl, inr (refl, inr (refl, inl (omega (arith, stage), refl))))))) _)

  -- a COMMIT or ROLLBACK begins with the end of its transaction
  falls_ended : (tag : Tag) → IsBefore (statement_at script number session) session →
      IsLess (numbers_at (numbers script) number (without_transaction session (progress_ended tag session.progress))) (numbers_at (numbers script) number session)
  falls_ended tag s =
      let within = left s.next s.next_is in
      let rest = length-drop session.answered (statements_of script number) in
      rw s.idle_is (inr (refl, inr (refl, inl (omega (arith, within, rest), refl))))

  -- and a statement outside a block ends with it
  falls_open : (given : Option (Result Statement SqlError)) → IsOpen session → IsDone world given session →
      IsLess (numbers_at (numbers script) number (without_transaction session (progress_ended tag.Commit session.progress))) (numbers_at (numbers script) number session)
  falls_open given opened s =
      let one = ap open_count opened.1 in
      rw s.opened.inside_is (inr (refl, inr (refl, inr (refl, inl (omega (arith, one), refl)))))

  weight_commit : IsOpen session →
      (IsBefore (statement_at script number session) session ⊎ IsDone world (statement_at script number session) session) →
      IsLess (weight script (with_commit world number session)) (weight script world)
  weight_commit opened (inl s) =
      rw (sessions_ended world number session.transaction commit) (falls_by _ (falls_ended tag.Commit s) _)
  weight_commit opened (inr s) =
      rw (sessions_ended world number session.transaction commit) (falls_by _ (falls_open _ opened s) _)

  weight_rollback : IsBefore (statement_at script number session) session →
      IsLess (weight script (with_rollback world number session)) (weight script world)
  weight_rollback s = rw (sessions_ended world number session.transaction rollback) (falls_by _ (falls_ended tag.Rollback s) _)

  weight_reply : (given : Tag) → (IsBefore (statement_at script number session) session
      ⊎ (IsDone world (statement_at script number session) session ⊎ IsEnding (statement_at script number session) session)) →
      IsLess (weight script (with_reply world number session given)) (weight script world)
  weight_reply given (inl s) =
      falls_by _ (falls_answered (session_replied session given) s.next s.next_is (ap unended_count s.idle_is) refl refl) _
  weight_reply given (inr (inl s)) =
      falls_by _ (falls_answered (session_replied session given) (Ok s.opened.statement) s.opened.statement_is (ap unended_count s.opened.inside_is) refl refl) _
  weight_reply given (inr (inr s)) =
      falls_by _ (falls_answered (session_replied session given) s.next s.next_is (ap unended_count s.ending_is) refl refl) _

  falls_failed : (next : Result Statement SqlError) → statement_at script number session ≡ Some next →
      unended_count session.progress ≡ 1 → IsLess (weight script (with_failure world number session)) (weight script world)
  falls_failed next next_is one =
      rw (sessions_ended world number session.transaction rollback)
      (falls_by _ (falls_answered (session_failed session) next next_is one refl refl) _)

  weight_failure : (error : SqlError) → (IsBefore (statement_at script number session) session
      ⊎ (IsRefused (statement_at script number session) session error
      ⊎ IsFailing script world number (statement_at script number session) session error)) →
      IsLess (weight script (with_failure world number session)) (weight script world)
  weight_failure error (inl s) = falls_failed s.next s.next_is (ap unended_count s.idle_is)
  weight_failure error (inr (inl s)) = falls_failed (Ok s.statement) s.statement_is (ap unended_count s.inside_is)
  weight_failure error (inr (inr f)) =
      let s = failing_inside script world number (statement_at script number session) session error f in
      falls_failed (Ok s.1.statement) s.1.statement_is (ap unended_count s.1.inside_is)

  weight_closure : IsAtEnd (statement_at script number session) session →
      IsLess (weight script (with_closure world number session)) (weight script world)
  weight_closure s =
      rw (sessions_ended world number session.transaction rollback) (falls_by _ (rw s.idle_is (inl (omega arith, refl))) _)

  weight_act : (act : EntryAct) → item_at world.waits number ≡ Some None →
      Needs script world number (statement_at script number session) session act →
      IsLess (weight script (act_effect world number (statement_at script number session) session act)) (weight script world)
  weight_act (entry.Snapped commits) free needs = weight_snapshot commits needs.0
  weight_act (entry.Found candidate) free needs = weight_candidate candidate needs.0 needs.1 needs.2
  weight_act (entry.Placed table row) free needs = weight_placed table row needs.0
  weight_act (entry.Locked table row strength) free needs = weight_locked table row strength needs.0
  weight_act (entry.Inserted table row) free needs = weight_inserted table row needs
  weight_act (entry.Updated table row) free needs =
      weight_changed table row (Some (values_set (statement_at script number session) world.tables session.progress)) (entry.Updated table row) needs
  weight_act (entry.Deleted table row) free needs = weight_changed table row None (entry.Deleted table row) needs
  weight_act entry.Passed free needs = weight_passed needs
  weight_act (entry.Waits other) free needs = weight_wait (until_end other) free
  weight_act entry.Committed free needs = weight_commit needs.0 needs.1
  weight_act entry.RolledBack free needs = weight_rollback needs.1
  weight_act (entry.Replied reply) free needs = weight_reply reply.tag needs
  weight_act (entry.Failed error) free needs = weight_failure error needs
  weight_act entry.Closed free needs = weight_closure needs

-- each permitted entry makes the weight less, in every world
pub weight_falls : (script : Script) (world : World) (entry : Entry) → IsPermitted script world entry →
    IsLess (weight script (effect script world entry)) (weight script world)
weight_falls script world entry move =
    let m = move_of script world entry move in
    rw m.is (weight_act script world entry.session m.session m.is entry.act m.free m.needs)
