-- What a session does outside its machine is what its entry makes of the world.
use Rattle.std.proofs.Common.{◌≡◌, ℕ, true, false, List, map, Option, Some, None, slice_get, slice_set, refl, sym, ap, ◌∙◌, subst}
use Rattle.std.specs.Prelude.{Ok}
use Rattle.pg_waits.specs.Effects.{wait_begun}
use Rattle.pg_xacts.specs.declared.me.Me.{Me}
use Rattle.pg_xacts.specs.Snapshots.{WasTakenOf, snapshot_of}
use Rattle.pg_xacts.specs.Transactions.{Transactions}
use Rattle.pg_xacts.proofs.Snapshots.{taken_begun}
use Rattle.pg_model.specs.declared.journal.Tag.{Tag}
use Rattle.pg_model.specs.declared.journal.Tag.TheVariants as tag
use Rattle.pg_model.specs.declared.script.Script.{Script}
use Rattle.pg_model.specs.declared.statement.Statement.{Statement}
use Rattle.pg_model.specs.declared.statement.Statement.TheVariants as statement
use Rattle.pg_world.specs.Candidates.{candidates_over, seen_of_table, tables_read}
use Rattle.pg_world.specs.Sessions.{first_running}
use Rattle.pg_world.specs.Tables.{TransactionEnd, commit, rollback}
use Rattle.pg_world.specs.Worlds.{World, until_end, with_end_of, with_wait}
use Rattle.pg_relation.specs.Effect.{me_for, progress_ended, session_replied, session_snapped, transactions_opened, with_closure, with_commit, with_failure, with_open, with_reply, with_rollback, with_snapshot, without_transaction}
use Rattle.pg_relation.specs.Lines.{statement_at}
use Rattle.pg_relation.proofs.Sound.{sessions_left}
use Rattle.pg_relation.proofs.Spares.{IsStable}
use Rattle.pg_scans.proofs.Bounds.{first_reading}
use Rattle.pg_table.specs.States.{TableState}
use Rattle.pg_board.specs.declared.server.Server.{Server}
use Rattle.pg_board.specs.declared.session.Machine.{Machine}
use Rattle.pg_board.specs.declared.session.Machine.TheVariants as machine_of
use Rattle.pg_board.specs.declared.session.Place.{Place}
use Rattle.pg_board.specs.declared.session.Place.TheVariants as place_of
use Rattle.pg_board.specs.declared.session.Session.{Session}
use Rattle.pg_board.specs.Kept.{TakesSnapshot, machine_for, place_ended, server_closed, server_committed, server_failed, server_replied, server_rolled_back, server_snapped, session_left, with_end_in}
use Rattle.pg_board.specs.Machines.{IsPlanned}
use Rattle.pg_board.specs.Servers.{AreDrafts, IsMachineOf, IsOfKind, IsProgressOf, IsServerOf, IsStagedBy, has_staged, kept_progress, kept_session, running_of}
use Rattle.pg_board.proofs.Ending.{ended_before, ended_shown, ended_tables, ended_waits, ended_xacts, kept_left, leaves_all, leaves_ended, leaves_opened, no_drafts}
use Rattle.pg_board.proofs.Lifting.{HoldsStay, drafts_left, lifted}

-- a machine that has staged nothing says nothing of the tables
pub unstaged_by : (tables : List TableState) (transactions : Transactions) (own : Statement) (machine : Machine) → has_staged machine ≡ false →
    IsStagedBy tables transactions own machine
unstaged_by tables transactions (statement.Change change) (machine_of.Change machine) off =
    λ on. let e : true ≡ false = sym on ∙ off in absurd (cc e)
unstaged_by tables transactions (statement.Change change) (machine_of.Insert machine) off = tt
unstaged_by tables transactions (statement.Change change) (machine_of.Select machine) off = tt
unstaged_by tables transactions (statement.Select select) machine off = tt
unstaged_by tables transactions (statement.Insert insert) machine off = tt
unstaged_by tables transactions statement.Begin machine off = tt
unstaged_by tables transactions statement.Commit machine off = tt
unstaged_by tables transactions statement.Rollback machine off = tt

-- a session whose statement has its candidates, and has staged nothing, stands in the world as it is kept
module _ (script : Script) (server : Server) (world : World) (number : ℕ) (kept : Session)
    (is_kept : slice_get server.sessions number ≡ Some kept)
    (is_shown : slice_get world.sessions number ≡ Some (kept_session kept))
    (serves : IsServerOf script server world) (stable : IsStable script world)
    (unstaged : (machine : Machine) → kept.place ≡ place_of.Inside machine → has_staged machine ≡ false) where
  -- all that is staged is of the others
  pub stays_staged : (after : Session) → AreDrafts script server.tables (slice_set server.sessions number after)
  stays_staged after =
      drafts_left script server world number serves stable server.tables after (λ table row draft is. is)
      (λ table row draft is of. no_drafts server number kept is_kept unstaged script table draft of)

  -- where the session leaves its statement, or is in none
  module _ (end : TransactionEnd) (after : Session) (stay : HoldsStay script world (with_end_of world number kept.transaction end).tables number) where
    left : IsProgressOf (with_end_in server number kept.transaction end).tables (with_end_in server number kept.transaction end).xacts
        (statement_at script number (kept_session after)) after.place (kept_progress after.place) →
        IsServerOf script
        (record (with_end_in server number kept.transaction end) { sessions = slice_set (with_end_in server number kept.transaction end).sessions number after })
        (record (with_end_of world number kept.transaction end) { sessions = slice_set (with_end_of world number kept.transaction end).sessions number (kept_session after) })
    left stands =
        lifted script server world number serves stable
        (record (with_end_in server number kept.transaction end) { sessions = slice_set (with_end_in server number kept.transaction end).sessions number after })
        (record (with_end_of world number kept.transaction end) { sessions = slice_set (with_end_of world number kept.transaction end).sessions number (kept_session after) })
        after (kept_session after)
        (ap (λ s. slice_set s number after) (kept_left server number kept.transaction end))
        (ap (λ s. slice_set s number (kept_session after)) (sessions_left world number kept.transaction end))
        (ended_shown script server world number kept is_shown serves stable kept.transaction end)
        (ended_xacts script server world number kept is_shown serves stable kept.transaction end)
        (ended_waits script server world number kept is_shown serves stable kept.transaction end)
        (ended_tables server number kept.transaction end serves.valid)
        (leaves_ended script server world number kept is_shown serves stable kept.transaction end refl stay) (record { rest = refl; progress = stands })
        (subst (λ s. AreDrafts script (with_end_in server number kept.transaction end).tables (slice_set s number after))
        (sym (kept_left server number kept.transaction end))
        (drafts_left script server world number serves stable (with_end_in server number kept.transaction end).tables after
        (λ table row draft is. ended_before server number kept.transaction end table row draft is)
        (λ table row draft is of. no_drafts server number kept is_kept unstaged script table draft of)))

  -- a session that is inside a statement is in one that is done
  module _ (done : (machine : Machine) → kept.place ≡ place_of.Inside machine →
      (own : Statement) × (statement_at script number (kept_session kept) ≡ Some (Ok own)) × IsOfKind machine own × IsPlanned machine) where
    ends : (given : Tag) (tables : List TableState) (transactions : Transactions) (place : Place) → kept.place ≡ place →
        IsProgressOf tables transactions (statement_at script number (kept_session kept)) (place_ended given place)
        (progress_ended given (kept_progress place))
    ends given tables transactions place_of.Idle is = refl
    ends given tables transactions (place_of.Inside machine) is =
        let d = done machine is in (
          d.0,
          d.1,
          running_of machine,
          refl,
          record {
            kind = d.2;
            running = rw d.3 refl;
            staged = unstaged_by tables transactions d.0 machine (unstaged machine is);
          },
        )
    ends given tables transactions (place_of.Ending other) is = refl
    ends given tables transactions place_of.Closed is = refl

    progress_same : (given : Tag) (place : Place) → kept_progress (place_ended given place) ≡ progress_ended given (kept_progress place)
    progress_same given place_of.Idle = refl
    progress_same given (place_of.Inside machine) = refl
    progress_same given (place_of.Ending other) = refl
    progress_same given place_of.Closed = refl

    ended : (given : Tag) (end : TransactionEnd) → HoldsStay script world (with_end_of world number kept.transaction end).tables number →
        IsServerOf script
        (record (with_end_in server number kept.transaction end) {
          sessions = slice_set (with_end_in server number kept.transaction end).sessions number (session_left kept (place_ended given kept.place));
        })
        (record (with_end_of world number kept.transaction end) {
          sessions = slice_set (with_end_of world number kept.transaction end).sessions number
              (without_transaction (kept_session kept) (progress_ended given (kept_progress kept.place)));
        })
    ended given end stay =
        let same = progress_same given kept.place in
        subst (λ p. IsServerOf script
        (record (with_end_in server number kept.transaction end) {
          sessions = slice_set (with_end_in server number kept.transaction end).sessions number (session_left kept (place_ended given kept.place));
        })
        (record (with_end_of world number kept.transaction end) {
          sessions = slice_set (with_end_of world number kept.transaction end).sessions number (without_transaction (kept_session kept) p);
        })) same
        (left end (session_left kept (place_ended given kept.place)) stay
        (subst (λ p. IsProgressOf (with_end_in server number kept.transaction end).tables (with_end_in server number kept.transaction end).xacts
        (statement_at script number (kept_session kept)) (place_ended given kept.place) p) (sym same)
        (ends given _ _ kept.place refl)))

    pub committed : HoldsStay script world (with_end_of world number kept.transaction commit).tables number →
        IsServerOf script (server_committed server number kept) (with_commit world number (kept_session kept))
    committed stay = ended tag.Commit commit stay

    pub rolled_back : HoldsStay script world (with_end_of world number kept.transaction rollback).tables number →
        IsServerOf script (server_rolled_back server number kept) (with_rollback world number (kept_session kept))
    rolled_back stay = ended tag.Rollback rollback stay

  pub failed : HoldsStay script world (with_end_of world number kept.transaction rollback).tables number →
      IsServerOf script (server_failed server number kept) (with_failure world number (kept_session kept))
  failed stay = left rollback _ stay refl

  pub closed : HoldsStay script world (with_end_of world number kept.transaction rollback).tables number →
      IsServerOf script (server_closed server number kept) (with_closure world number (kept_session kept))
  closed stay = left rollback _ stay refl

  pub replied : (given : Tag) → IsServerOf script (server_replied server number kept given) (with_reply world number (kept_session kept) given)
  replied given =
      lifted script server world number serves stable (server_replied server number kept given) (with_reply world number (kept_session kept) given)
      _ (session_replied (kept_session kept) given) refl refl serves.tables serves.transactions serves.waits serves.valid
      (leaves_all script server world number kept is_shown serves stable)
      (record { rest = refl; progress = refl }) (stays_staged _)

  pub waited : (other : ℕ) →
      IsServerOf script (record server { waits = wait_begun server.waits number (until_end other) }) (with_wait world number (until_end other))
  waited other = record {
    tables = serves.tables;
    transactions = serves.transactions;
    valid = serves.valid;
    count = serves.count;
    each = serves.each;
    waits = ap (λ slots. wait_begun slots number (until_end other)) serves.waits;
    drafts = serves.drafts;
  }

  -- the statement that takes its snapshot
  snapped_progress : (own : Statement) (me : Me) (commits : ℕ) → TakesSnapshot own → server.xacts.commits ≡ commits →
      WasTakenOf (transactions_opened server.xacts number kept.transaction) (snapshot_of server.xacts) →
      IsMachineOf server.tables (transactions_opened server.xacts number kept.transaction) own
      (machine_for own me (snapshot_of server.xacts))
      (first_running me commits (candidates_over own (map
      (seen_of_table world.tables (transactions_opened world.transactions number kept.transaction) commits me)
      (tables_read own))))
  unfolding candidates_over
  snapped_progress (statement.Select select) me commits takes all taken = record {
    kind = tt;
    running = record {
      reads = record {
        tables_are = refl;
        collected = first_reading server.tables _ me (snapshot_of server.xacts) _ taken;
        begun = refl;
      };
      shown_is = rw (← all) refl;
    };
    staged = tt;
  }
  snapped_progress (statement.Change change) me commits takes all taken = record {
    kind = tt;
    running = record {
      reads = record {
        tables_are = refl;
        collected = first_reading server.tables _ me (snapshot_of server.xacts) _ taken;
        begun = refl;
      };
      shown_is = rw (← all) refl;
    };
    staged = λ on. absurd (cc on);
  }
  snapped_progress (statement.Insert insert) me commits takes all taken = record { kind = tt; running = rw (← all) refl; staged = tt }
  snapped_progress statement.Begin me commits takes all taken = absurd takes
  snapped_progress statement.Commit me commits takes all taken = absurd takes
  snapped_progress statement.Rollback me commits takes all taken = absurd takes

  taken_opened : (transaction : Option ℕ) → WasTakenOf server.xacts (snapshot_of server.xacts) →
      WasTakenOf (transactions_opened server.xacts number transaction) (snapshot_of server.xacts)
  taken_opened None taken = taken_begun server.xacts (snapshot_of server.xacts) number taken
  taken_opened (Some xact) taken = taken

  pub snapped : (own : Statement) (commits : ℕ) → statement_at script number (kept_session kept) ≡ Some (Ok own) →
      TakesSnapshot own → commits ≡ world.transactions.commits → WasTakenOf server.xacts (snapshot_of server.xacts) →
      IsServerOf script (server_snapped server number own kept)
      (with_snapshot world number (Some (Ok own)) (kept_session kept) commits)
  snapped own commits given takes all taken =
      let me = me_for server.xacts number (kept_session kept) in
      lifted script server world number serves stable (server_snapped server number own kept)
      (with_snapshot world number (Some (Ok own)) (kept_session kept) commits) _
      (session_snapped (with_open world number (kept_session kept)) (Some (Ok own)) (kept_session kept) commits
      (me_for world.transactions number (kept_session kept))) refl refl serves.tables
      (rw serves.transactions refl) serves.waits serves.valid (leaves_opened script server world number kept is_shown serves stable kept.transaction)
      (record {
        rest = rw serves.transactions refl;
        progress = (
          own,
          given,
          _,
          refl,
          subst (λ t. IsMachineOf server.tables (transactions_opened server.xacts number kept.transaction) own
              (machine_for own me (snapshot_of server.xacts))
              (first_running (me_for t number (kept_session kept)) commits (candidates_over own (map
              (seen_of_table world.tables (transactions_opened world.transactions number kept.transaction) commits
              (me_for t number (kept_session kept))) (tables_read own))))) serves.transactions
              (snapped_progress own me commits takes (ap (λ t. t.commits) serves.transactions ∙ sym all)
              (taken_opened kept.transaction taken)),
        );
      })
      (stays_staged _)
