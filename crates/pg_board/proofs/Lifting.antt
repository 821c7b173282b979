-- A server stands for the next world when one of its sessions has moved and the others stay.
use Rattle.std.proofs.Common.{◌≡◌, ◌⊎◌, inl, inr, ℕ, zero, suc, Bool, true, false, List, [], ◌∷◌, length, map, Option, Some, None, slice_get, slice_set, sym, ap, ◌∙◌, subst, length-set}
use Rattle.std.proofs.lemmas.Bool.{cases_eq}
use Rattle.std.specs.Prelude.{Ok}
use Rattle.std.proofs.Math.Nat.{suc_inj}
use Rattle.pg_xacts.specs.Transactions.{Transactions, beginner_of}
use Rattle.pg_model.specs.declared.script.Script.{Script}
use Rattle.pg_model.specs.declared.statement.Change.{Change}
use Rattle.pg_model.specs.declared.statement.Statement.{Statement}
use Rattle.pg_model.specs.declared.statement.Statement.TheVariants as statement
use Rattle.pg_world.specs.Changes.{row_at, table_at}
use Rattle.pg_world.specs.declared.placed.PlacedRow.{PlacedRow}
use Rattle.pg_world.specs.declared.session.Progress.TheVariants.{Inside as inside}
use Rattle.pg_world.specs.declared.session.Running.{Running}
use Rattle.pg_world.specs.declared.session.SessionView.{SessionView}
use Rattle.pg_world.specs.declared.table.TableView.{TableView}
use Rattle.pg_world.specs.Worlds.{World}
use Rattle.pg_relation.specs.Holds.{HoldsRow}
use Rattle.pg_relation.specs.Lines.{statement_at}
use Rattle.pg_relation.proofs.Lists.{get_set_other}
use Rattle.pg_relation.proofs.Spares.{IsReading as Stays, IsStable}
use Rattle.pg_scans.specs.Readings.{AreTables, IsReading, ReadingView}
use Rattle.pg_table.specs.States.{TableState, table_shown}
use Rattle.pg_update.specs.Steps.{ChangeView, IsStaged, staged_in, target_in}
use Rattle.pg_board.specs.declared.server.Server.{Server}
use Rattle.pg_board.specs.declared.session.Machine.{Machine}
use Rattle.pg_board.specs.declared.session.Machine.TheVariants as machine_of
use Rattle.pg_board.specs.declared.session.Place.{Place}
use Rattle.pg_board.specs.declared.session.Place.TheVariants as place_of
use Rattle.pg_board.specs.declared.session.Session.{Session}
use Rattle.pg_board.specs.Servers.{AreDrafts, IsDraftOf, IsProgressOf, IsRunningOf, IsServerOf, IsSessionOf, IsStagedBy, kept_session, reading_of, running_of}
use Rattle.pg_board.proofs.Staging.{held_by, staged_same}

-- what holds of each pair of items but one, and of the two that are written there, holds behind it
both_set : {X Y : Type 0} (P : ℕ → X → Y → Type 0) (xs : List X) (ys : List Y) (i : ℕ) (x : X) (y : Y) →
    ((j : ℕ) (a : X) (b : Y) → (j ≡ i → ⊥) → slice_get xs j ≡ Some a → slice_get ys j ≡ Some b → P j a b) → P i x y →
    (j : ℕ) (a : X) (b : Y) → slice_get (slice_set xs i x) j ≡ Some a → slice_get (slice_set ys i y) j ≡ Some b → P j a b
both_set P [] ys i x y each here j a b one other = absurd (cc one)
both_set P (z ∷ xs) [] i x y each here j a b one other = absurd (cc other)
both_set P (z ∷ xs) (w ∷ ys) zero x y each here zero a b one other = let e : x ≡ a = cc one in let f : y ≡ b = cc other in rw (← e, ← f) here
both_set P (z ∷ xs) (w ∷ ys) zero x y each here (suc j) a b one other = each (suc j) a b (λ e. cc e) one other
both_set P (z ∷ xs) (w ∷ ys) (suc i) x y each here zero a b one other = each zero a b (λ e. cc e) one other
both_set P (z ∷ xs) (w ∷ ys) (suc i) x y each here (suc j) a b one other =
    both_set (λ k c d. P (suc k) c d) xs ys i x y (λ k c d apart e f. each (suc k) c d (λ s. apart (suc_inj s)) e f) here j a b one other

-- the rows that other sessions hold are in these tables as they are in the world
abbrev pub HoldsStay : Script → World → List TableView → ℕ → Type 0
HoldsStay script world views number = (other table row : ℕ) → (other ≡ number → ⊥) → HoldsRow script world other table row →
    row_at (table_at views table) row ≡ row_at (table_at world.tables table) row

-- another session has staged that draft, for a row that it holds
pub record HasDrafted (script : Script) (server : Server) (world : World) (number other table row : ℕ) (draft : PlacedRow) : Type 0 where
  pub apart : other ≡ number → ⊥
  pub holds : HoldsRow script world other table row
  pub owned : beginner_of world.transactions draft.me.xact ≡ Some other
  pub there : staged_in server.tables table row ≡ Some draft

-- what a change of the tables and the transactions by one session leaves to the others: what they have read, the rows that they
-- hold, and what they have staged
pub record LeavesOthers (script : Script) (server : Server) (world : World) (number : ℕ) (tables : List TableState)
    (transactions : Transactions) : Type 0 where
  pub reads : (other : ℕ) (session : SessionView) (running : Running) (reading : ReadingView) → (other ≡ number → ⊥) →
      Stays script world other session running → reading.me ≡ running.me → reading.snapshot.commits ≡ running.snapshot →
      IsReading server.tables server.xacts reading → IsReading tables transactions reading
  pub held : HoldsStay script world (map table_shown tables) number
  pub staged : (other table row : ℕ) (draft : PlacedRow) → HasDrafted script server world number other table row draft →
      staged_in tables table row ≡ Some draft

module _ (script : Script) (server : Server) (world : World) (number : ℕ) (serves : IsServerOf script server world)
    (stable : IsStable script world) where
  -- another session stands as before
  module _ (tables : List TableState) (transactions : Transactions) (leaves : LeavesOthers script server world number tables transactions)
      (other : ℕ) (kept : Session) (shown : SessionView) (apart : other ≡ number → ⊥) (there : slice_get server.sessions other ≡ Some kept)
      (shown_there : slice_get world.sessions other ≡ Some shown) (is : IsSessionOf script server.tables server.xacts other kept shown) where
    run : (own : Statement) (running : Running) (kept_one : Running) (reading : Option ReadingView) →
        shown.progress ≡ inside running → IsRunningOf server.tables server.xacts own kept_one reading running →
        IsRunningOf tables transactions own kept_one reading running
    run own running kept_one None stands is = is
    run own running kept_one (Some reading) stands is = record {
      reads = record {
        tables_are = is.reads.tables_are;
        collected = leaves.reads other shown running reading apart ((stable.each other shown shown_there).reading running stands)
            (sym (ap (λ r. r.me) is.shown_is)) (sym (ap (λ r. r.snapshot) is.shown_is)) is.reads.collected;
        begun = is.reads.begun;
      };
      shown_is = is.shown_is;
    }

    -- what it has staged is staged still
    change_stays : (change : Change) (machine : ChangeView) (running : Running) → shown.progress ≡ inside running →
        statement_at script other shown ≡ Some (Ok (statement.Change change)) →
        IsRunningOf server.tables server.xacts (statement.Change change) machine.running machine.reading running →
        IsStaged change server.tables server.xacts machine.running → IsStaged change tables transactions machine.running
    change_stays change machine running stands given runs staged =
        let held = held_by script server world other shown shown_there change given machine running stands runs staged in
        staged_same change server.tables tables server.xacts transactions machine.running staged
        (leaves.held other change.target.table (target_in machine.running) apart held.holds
        ∙ ap (λ views. row_at (table_at views change.target.table) (target_in machine.running)) (sym serves.tables))
        (leaves.staged other change.target.table (target_in machine.running)
        (record { row = target_in machine.running; me = machine.running.me; values = staged.values })
        (record {
          apart = apart;
          holds = held.holds;
          owned = ap (λ r. beginner_of world.transactions r.me.xact) (sym held.running_is)
              ∙ ((stable.each other shown shown_there).reading running stands).owned;
          there = staged.staged;
        }))

    stages : (own : Statement) (machine : Machine) (running : Running) → shown.progress ≡ inside running →
        statement_at script other shown ≡ Some (Ok own) →
        IsRunningOf server.tables server.xacts own (running_of machine) (reading_of machine) running →
        IsStagedBy server.tables server.xacts own machine → IsStagedBy tables transactions own machine
    stages (statement.Change change) (machine_of.Change machine) running stands given runs staged =
        λ on. change_stays change machine running stands given runs (staged on)
    stages (statement.Change change) (machine_of.Insert machine) running stands given runs staged = tt
    stages (statement.Change change) (machine_of.Select machine) running stands given runs staged = tt
    stages (statement.Select select) machine running stands given runs staged = tt
    stages (statement.Insert insert) machine running stands given runs staged = tt
    stages statement.Begin machine running stands given runs staged = tt
    stages statement.Commit machine running stands given runs staged = tt
    stages statement.Rollback machine running stands given runs staged = tt

    other_stays : IsSessionOf script tables transactions other kept shown
    other_stays = record { rest = is.rest; progress = at kept.place is.progress }
      where
        at : (place : Place) → IsProgressOf server.tables server.xacts (statement_at script other shown) place shown.progress →
            IsProgressOf tables transactions (statement_at script other shown) place shown.progress
        at place_of.Idle p = p
        at (place_of.Inside machine) p = (
          p.0,
          p.1,
          p.2,
          p.3,
          record {
            kind = p.4.kind;
            running = run p.0 p.2 (running_of machine) (reading_of machine) p.3 p.4.running;
            staged = stages p.0 machine p.2 p.3 p.1 p.4.running p.4.staged;
          },
        )
        at (place_of.Ending tag) p = p
        at place_of.Closed p = p

  -- the server stands for the next world
  pub lifted : (new : Server) (next : World) (after : Session) (behind : SessionView) →
      new.sessions ≡ slice_set server.sessions number after → next.sessions ≡ slice_set world.sessions number behind →
      map table_shown new.tables ≡ next.tables → new.xacts ≡ next.transactions → new.waits ≡ next.waits → AreTables new.tables →
      LeavesOthers script server world number new.tables new.xacts →
      IsSessionOf script new.tables new.xacts number after behind → AreDrafts script new.tables new.sessions → IsServerOf script new next
  lifted new next after behind kept_are shown_are tables transactions waits valid leaves own drafts = record {
    tables = tables;
    transactions = transactions;
    valid = valid;
    count = ap length kept_are ∙ length-set server.sessions number after ∙ serves.count
        ∙ sym (length-set world.sessions number behind) ∙ sym (ap length shown_are);
    each = rw (kept_are, shown_are)
        (both_set (λ j a b. IsSessionOf script new.tables new.xacts j a b) server.sessions world.sessions number after behind
        (λ j a b apart one other. other_stays new.tables new.xacts leaves j a b apart one other (serves.each j a b one other)) own);
    waits = waits;
    drafts = drafts;
  }

  -- what was staged, but by the session that has moved, is of the sessions behind the move
  pub drafts_left : (tables : List TableState) (after : Session) →
      ((table row : ℕ) (draft : PlacedRow) → staged_in tables table row ≡ Some draft → staged_in server.tables table row ≡ Some draft) →
      ((table row : ℕ) (draft : PlacedRow) → staged_in tables table row ≡ Some draft →
      (of : IsDraftOf script server.sessions table draft) → of.number ≡ number → ⊥) →
      AreDrafts script tables (slice_set server.sessions number after)
  drafts_left tables after before apart table row draft is =
      let of = serves.drafts table row draft (before table row draft is) in
      record {
        number = of.number;
        session = of.session;
        is = get_set_other server.sessions number of.number after (apart table row draft is of) ∙ of.is;
        change = of.change;
        given = of.given;
        machine = of.machine;
        inside = of.inside;
        staged = of.staged;
        table_is = of.table_is;
        row_is = of.row_is;
        me_is = of.me_is;
      }
