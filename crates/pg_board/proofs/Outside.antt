-- A session between statements makes the first of its moves.
use Rattle.std.proofs.Common.{◌≡◌, ◌+◌, ◌⊎◌, inl, inr, ℕ, Bool, true, false, Option, Some, None, slice_get, refl, sym, ap, ◌∙◌, subst}
use Rattle.std.specs.Prelude.{Result, Ok, Err}
use Rattle.pg_xacts.specs.Snapshots.{WasTakenOf, snapshot_of}
use Rattle.pg_model.specs.declared.error.SqlError.{SqlError}
use Rattle.pg_model.specs.declared.journal.Entry.{Entry}
use Rattle.pg_model.specs.declared.journal.EntryAct.{EntryAct}
use Rattle.pg_model.specs.declared.journal.EntryAct.TheVariants as entry
use Rattle.pg_model.specs.declared.script.Script.{Script}
use Rattle.pg_model.specs.declared.statement.Statement.{Statement}
use Rattle.pg_model.specs.declared.statement.Statement.TheVariants as statement
use Rattle.pg_world.specs.Changes.{row_at, table_at}
use Rattle.pg_world.specs.declared.session.Block.{Block}
use Rattle.pg_world.specs.declared.session.Block.TheVariants.{NoBlock as no_block, OpenBlock as open_block, FailedBlock as failed_block}
use Rattle.pg_world.specs.declared.session.Progress.TheVariants.{Inside as inside}
use Rattle.pg_world.specs.declared.session.Running.{Running}
use Rattle.pg_world.specs.declared.session.SessionView.{SessionView}
use Rattle.pg_world.specs.Worlds.{World}
use Rattle.pg_relation.specs.Effect.{act_effect, effect}
use Rattle.pg_relation.specs.Lines.{statement_at}
use Rattle.pg_relation.specs.Moves.{beginning_moves, block_moves, commit_moves, ending_moves, ends_block, idle_moves, moves_of, rollback_moves, session_moves}
use Rattle.pg_relation.specs.Needs.{Needs}
use Rattle.pg_relation.specs.Stepped.{first_of_list}
use Rattle.pg_relation.proofs.Journals.{first_contained}
use Rattle.pg_relation.proofs.Needs.{move_of}
use Rattle.pg_relation.proofs.HeldStays.{held_stays}
use Rattle.pg_relation.proofs.LockingKept.{IsSteady}
use Rattle.pg_board.specs.Counts.{HasFew}
use Rattle.pg_board.specs.declared.server.Server.{Server}
use Rattle.pg_board.specs.declared.session.Machine.{Machine}
use Rattle.pg_board.specs.declared.session.Place.{Place}
use Rattle.pg_board.specs.declared.session.Place.TheVariants as place_of
use Rattle.pg_board.specs.declared.session.Session.{Session}
use Rattle.pg_board.specs.Kept.{HasMovedOutside, TakesSnapshot, act_kept, outside_moves}
use Rattle.pg_board.specs.Servers.{IsProgressOf, IsServerOf, IsSessionOf, has_staged, kept_progress, kept_session, kept_world}
use Rattle.pg_board.specs.Steps.{HasActed}
use Rattle.pg_board.proofs.Acts.{closed, committed, failed, replied, rolled_back, snapped}
use Rattle.pg_board.proofs.FewKept.{few_closed, few_committed, few_failed, few_replied, few_rolled_back, few_snapped}
use Rattle.pg_board.proofs.Lifting.{HoldsStay}
use Rattle.pg_board.proofs.Rooms.{pair_of}

-- moves between statements read of the world no more than how many commits there are
module _ (one other : World) (same : one.transactions ≡ other.transactions) (session : SessionView) where
  beginning_same : (given : Result Statement SqlError) → beginning_moves one session given ≡ beginning_moves other session given
  beginning_same (Ok statement.Begin) = refl
  beginning_same (Ok statement.Commit) = refl
  beginning_same (Ok statement.Rollback) = refl
  beginning_same (Ok (statement.Select select)) = rw same refl
  beginning_same (Ok (statement.Insert insert)) = rw same refl
  beginning_same (Ok (statement.Change change)) = rw same refl
  beginning_same (Err error) = refl

  block_same : (given : Result Statement SqlError) (block : Block) (ends : Bool) →
      block_moves one session given block ends ≡ block_moves other session given block ends
  block_same given no_block ends = beginning_same given
  block_same given open_block ends = beginning_same given
  block_same given failed_block true = beginning_same given
  block_same given failed_block false = refl

  pub outside_same : (given : Option (Result Statement SqlError)) (place : Place) →
      outside_moves one session given place ≡ outside_moves other session given place
  outside_same None place_of.Idle = refl
  outside_same (Some given) place_of.Idle = block_same given session.block (ends_block given)
  outside_same given (place_of.Inside machine) = refl
  outside_same given (place_of.Ending tag) = refl
  outside_same given place_of.Closed = refl

-- only a statement that takes a snapshot has it for its first move
module _ (world : World) (session : SessionView) (commits : ℕ) where
  snapped_begins : (own : Statement) →
      first_of_list (beginning_moves world session (Ok own)) ≡ Some (entry.Snapped commits) →
      TakesSnapshot own × (commits ≡ world.transactions.commits)
  snapped_begins statement.Begin is = absurd (cc is)
  snapped_begins statement.Commit is = at session.transaction is
    where
      at : (transaction : Option ℕ) →
          first_of_list (commit_moves session.block transaction) ≡ Some (entry.Snapped commits) →
          TakesSnapshot statement.Commit × (commits ≡ world.transactions.commits)
      at None e = absurd (cc e)
      at (Some xact) e = absurd (cc e)
  snapped_begins statement.Rollback is = at session.transaction is
    where
      at : (transaction : Option ℕ) →
          first_of_list (rollback_moves transaction) ≡ Some (entry.Snapped commits) →
          TakesSnapshot statement.Rollback × (commits ≡ world.transactions.commits)
      at None e = absurd (cc e)
      at (Some xact) e = absurd (cc e)
  snapped_begins (statement.Select select) is = (tt, let e : entry.Snapped world.transactions.commits ≡ entry.Snapped commits = cc is in sym (cc e))
  snapped_begins (statement.Insert insert) is = (tt, let e : entry.Snapped world.transactions.commits ≡ entry.Snapped commits = cc is in sym (cc e))
  snapped_begins (statement.Change change) is = (tt, let e : entry.Snapped world.transactions.commits ≡ entry.Snapped commits = cc is in sym (cc e))

  snapped_blocks : (own : Statement) (block : Block) (ends : Bool) →
      first_of_list (block_moves world session (Ok own) block ends) ≡ Some (entry.Snapped commits) →
      TakesSnapshot own × (commits ≡ world.transactions.commits)
  snapped_blocks own no_block ends is = snapped_begins own is
  snapped_blocks own open_block ends is = snapped_begins own is
  snapped_blocks own failed_block true is = snapped_begins own is
  snapped_blocks own failed_block false is = absurd (cc is)

  pub snapped_takes : (own : Statement) (given : Option (Result Statement SqlError)) (place : Place) → given ≡ Some (Ok own) →
      first_of_list (outside_moves world session given place) ≡ Some (entry.Snapped commits) →
      TakesSnapshot own × (commits ≡ world.transactions.commits)
  snapped_takes own given place_of.Idle given_is is =
      snapped_blocks own session.block (ends_block (Ok own))
      (ap (λ g. first_of_list (idle_moves world session g)) (sym given_is) ∙ is)
  snapped_takes own given (place_of.Inside machine) given_is is = absurd (cc is)
  snapped_takes own given (place_of.Ending tag) given_is is =
      absurd (let e = ap (λ g. first_of_list (ending_moves tag g)) (sym given_is) ∙ is in cc e)
  snapped_takes own given place_of.Closed given_is is = absurd (cc is)

  -- without a statement there is none
  snapped_given : (given : Option (Result Statement SqlError)) (place : Place) →
      first_of_list (outside_moves world session given place) ≡ Some (entry.Snapped commits) →
      (own : Statement) × (given ≡ Some (Ok own))
  snapped_given (Some (Ok own)) place is = (own, refl)
  snapped_given None place_of.Idle is = absurd (cc is)
  snapped_given None (place_of.Inside machine) is = absurd (cc is)
  snapped_given None (place_of.Ending tag) is = absurd (cc is)
  snapped_given None place_of.Closed is = absurd (cc is)
  snapped_given (Some (Err error)) place_of.Idle is = at session.block is
    where
      at : (block : Block) → first_of_list (block_moves world session (Err error) block false) ≡ Some (entry.Snapped commits) →
          (own : Statement) × (Some (Err error) ≡ Some (Ok own))
      at no_block e = absurd (cc e)
      at open_block e = absurd (cc e)
      at failed_block e = absurd (cc e)
  snapped_given (Some (Err error)) (place_of.Inside machine) is = absurd (cc is)
  snapped_given (Some (Err error)) (place_of.Ending tag) is = absurd (cc is)
  snapped_given (Some (Err error)) place_of.Closed is = absurd (cc is)

module _ (script : Script) (server new : Server) (world : World) (number : ℕ) (kept : Session)
    (is_kept : slice_get server.sessions number ≡ Some kept) (serves : IsServerOf script server world) (steady : IsSteady script world)
    (free : slice_get world.waits number ≡ Some None) (act : EntryAct) (moved : HasMovedOutside server new number (statement_at script number (kept_session kept)) kept act) where
  abbrev given : Option (Result Statement SqlError)
  given = statement_at script number (kept_session kept)

  -- it is in no statement with a snapshot
  not_inside : (machine : Machine) → kept.place ≡ place_of.Inside machine → ⊥
  not_inside machine is =
      let e : None ≡ Some act = ap (λ p. first_of_list (outside_moves (kept_world server) (kept_session kept) given p)) (sym is) ∙ moved.first in cc e

  -- so it stands in the world as it is kept
  stands_as_kept : (shown : SessionView) → IsSessionOf script server.tables server.xacts number kept shown → shown ≡ kept_session kept
  stands_as_kept shown is = is.rest ∙ ap (λ p. record (kept_session kept) { progress = p }) (at kept.place refl is.progress)
    where
      at : (place : Place) → kept.place ≡ place → IsProgressOf server.tables server.xacts (statement_at script number shown) place shown.progress →
          shown.progress ≡ kept_progress place
      at place_of.Idle e p = p
      at (place_of.Inside machine) e p = absurd (not_inside machine e)
      at (place_of.Ending tag) e p = p
      at place_of.Closed e p = p

  is_shown : slice_get world.sessions number ≡ Some (kept_session kept)
  is_shown =
      let shown = pair_of server.sessions world.sessions number kept serves.count is_kept in
      shown.1 ∙ ap Some (stands_as_kept shown.0 (serves.each number kept shown.0 is_kept shown.1))

  moves_are : moves_of script world number ≡ outside_moves world (kept_session kept) given kept.place
  moves_are = rw (is_shown, free) (at kept.place refl)
    where
      at : (place : Place) → kept.place ≡ place →
          session_moves script world number (kept_session kept) given (kept_progress place) ≡ outside_moves world (kept_session kept) given place
      at place_of.Idle e = refl
      at (place_of.Inside machine) e = absurd (not_inside machine e)
      at (place_of.Ending tag) e = refl
      at place_of.Closed e = refl

  first_in_world : first_of_list (outside_moves world (kept_session kept) given kept.place) ≡ Some act
  first_in_world =
      ap first_of_list (sym (outside_same (kept_world server) world serves.transactions (kept_session kept) given kept.place)) ∙ moved.first

  nothing_inside : (running : Running) → (kept_session kept).progress ≡ inside running → ⊥
  nothing_inside running = at kept.place refl
    where
      at : (place : Place) → kept.place ≡ place → kept_progress place ≡ inside running → ⊥
      at place_of.Idle e p = cc p
      at (place_of.Inside machine) e p = not_inside machine e
      at (place_of.Ending tag) e p = cc p
      at place_of.Closed e p = cc p

  unstaged : (machine : Machine) → kept.place ≡ place_of.Inside machine → has_staged machine ≡ false
  unstaged machine is = absurd (not_inside machine is)

  -- what an act makes of the server it makes of the world, and no table gets a version
  pub record IsLeft (one : EntryAct) : Type 0 where
    pub served : IsServerOf script (act_kept server number given kept one) (act_effect world number given (kept_session kept) one)
    pub few : (most : ℕ) → HasFew most server → HasFew (most + 1) (act_kept server number given kept one)

  lifts : (one : EntryAct) → first_of_list (outside_moves world (kept_session kept) given kept.place) ≡ Some one →
      Needs script world number given (kept_session kept) one →
      HoldsStay script world (act_effect world number given (kept_session kept) one).tables number →
      ((commits : ℕ) (own : Statement) → one ≡ entry.Snapped commits → given ≡ Some (Ok own) → WasTakenOf server.xacts (snapshot_of server.xacts)) →
      IsLeft one
  lifts (entry.Snapped commits) first needs stay taken =
      let given_is = snapped_given world (kept_session kept) commits given kept.place first in
      let takes = snapped_takes world (kept_session kept) commits given_is.0 given kept.place given_is.1 first in
      record {
        served = rw given_is.1
            (snapped script server world number kept is_kept is_shown serves steady.stable unstaged given_is.0 commits given_is.1 takes.0 takes.1
            (taken commits given_is.0 refl given_is.1));
        few = rw given_is.1 (few_snapped server number kept is_kept given_is.0);
      }
  lifts entry.Committed first needs stay taken = record {
    served = committed script server world number kept is_kept is_shown serves steady.stable unstaged (λ machine e. absurd (not_inside machine e)) stay;
    few = few_committed server number kept is_kept;
  }
  lifts entry.RolledBack first needs stay taken = record {
    served = rolled_back script server world number kept is_kept is_shown serves steady.stable unstaged (λ machine e. absurd (not_inside machine e)) stay;
    few = few_rolled_back server number kept is_kept;
  }
  lifts (entry.Replied reply) first needs stay taken = record {
    served = replied script server world number kept is_kept is_shown serves steady.stable unstaged reply.tag;
    few = few_replied server number kept is_kept reply.tag;
  }
  lifts (entry.Failed error) first needs stay taken = record {
    served = failed script server world number kept is_kept is_shown serves steady.stable unstaged stay;
    few = few_failed server number kept is_kept;
  }
  lifts entry.Closed first needs stay taken = record {
    served = closed script server world number kept is_kept is_shown serves steady.stable unstaged stay;
    few = few_closed server number kept is_kept;
  }
  lifts (entry.Found candidate) first needs stay taken = absurd (nothing_inside needs.0.opened.running needs.0.opened.inside_is)
  lifts (entry.Locked table row strength) first needs stay taken = absurd (nothing_inside needs.0.opened.running needs.0.opened.inside_is)
  lifts (entry.Placed table row) first needs stay taken = absurd (nothing_inside needs.0.opened.running needs.0.opened.inside_is)
  lifts (entry.Inserted table row) first needs stay taken = absurd (nothing_inside needs.opened.running needs.opened.inside_is)
  lifts (entry.Updated table row) first needs stay taken = absurd (nothing_inside needs.1.opened.running needs.1.opened.inside_is)
  lifts (entry.Deleted table row) first needs stay taken = absurd (nothing_inside needs.1.opened.running needs.1.opened.inside_is)
  lifts entry.Passed first (inl needs) stay taken = absurd (nothing_inside needs.opened.running needs.opened.inside_is)
  lifts entry.Passed first (inr needs) stay taken = absurd (nothing_inside needs.1.opened.running needs.1.opened.inside_is)
  lifts (entry.Waits other) first needs stay taken = absurd (nothing_inside needs.chosen.opened.running needs.chosen.opened.inside_is)

  effect_is : (one : EntryAct) → effect script world (record { session = number; act = one }) ≡ act_effect world number given (kept_session kept) one
  effect_is one = rw is_shown refl

  -- a permitted act leaves the rows that others hold
  stays : (one : EntryAct) → first_of_list (moves_of script world number) ≡ Some one →
      HoldsStay script world (act_effect world number given (kept_session kept) one).tables number
  stays one first other table row apart holds =
      let entry : Entry = record { session = number; act = one } in
      let h = held_stays script world entry steady (first_contained _ _ first) other table row holds (λ e. apart (sym e)) in
      ap (λ w. row_at (table_at w.tables table) row) (sym (effect_is one)) ∙ h.same_row

  pub outside_step : HasActed script number world server new act
  outside_step =
      let first : first_of_list (moves_of script world number) ≡ Some act = ap first_of_list moves_are ∙ first_in_world in
      let m = move_of script world (record { session = number; act = act }) (first_contained _ _ first) in
      let same : m.session ≡ kept_session kept = let e : Some m.session ≡ Some (kept_session kept) = sym m.is ∙ is_shown in cc e in
      let left =
      lifts act first_in_world (subst (λ s. Needs script world number (statement_at script number s) s act) same m.needs) (stays act first) moved.taken in
      record {
        first = first;
        serves = subst (λ s. IsServerOf script s (effect script world (record { session = number; act = act }))) (sym moved.new_is)
            (subst (λ w. IsServerOf script (act_kept server number given kept act) w) (sym (effect_is act)) left.served);
        few = subst (λ s. (most : ℕ) → HasFew most server → HasFew (most + 1) s) (sym moved.new_is) left.few;
      }
