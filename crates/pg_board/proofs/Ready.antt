-- What an UPDATE or DELETE finds when it makes a step: the row that it has locked is as it was, and no draft of it waits but its own.
use Rattle.std.proofs.Common.{◌≡◌, ℕ, Bool, true, false, List, [], map, Option, Some, None, slice_get, option_and_then, refl, sym, ap, ◌∙◌, subst}
use Rattle.std.specs.Prelude.{Ok, option_map, unwrap_or}
use Rattle.pg_lists.specs.Numbered.{item_at}
use Rattle.pg_heap.specs.Current.{current, newest}
use Rattle.pg_model.specs.declared.script.Script.{Script}
use Rattle.pg_model.specs.declared.statement.Change.{Change}
use Rattle.pg_model.specs.declared.statement.Statement.TheVariants as statement
use Rattle.pg_world.specs.Changes.{row_at, table_at}
use Rattle.pg_world.specs.declared.placed.PlacedRow.{PlacedRow}
use Rattle.pg_world.specs.declared.session.Stage.{Stage}
use Rattle.pg_world.specs.declared.session.Stage.TheVariants.{Between as between, Found as found, Locked as locked, Placed as placed}
use Rattle.pg_world.specs.declared.session.VersionName.{VersionName}
use Rattle.pg_world.specs.Tables.{empty_table, placed_at}
use Rattle.pg_world.specs.Worlds.{World}
use Rattle.pg_relation.specs.Holds.{HoldsRow}
use Rattle.pg_relation.specs.Lines.{statement_at}
use Rattle.pg_relation.proofs.Held.{held_differ, holding_of}
use Rattle.pg_relation.proofs.HeldFresh.{IsOrderly, fresh_under}
use Rattle.pg_scans.specs.Readings.{ReadingView}
use Rattle.pg_table.specs.States.{TableState, staged_at, table_shown}
use Rattle.pg_table.proofs.Staged.{no_draft}
use Rattle.pg_update.specs.Steps.{ChangeView, HoldsItsRow, IsHolding, IsHoldingAt, IsStagedIf, IsUndrafted, target_in, target_shown}
use Rattle.pg_board.specs.declared.server.Server.{Server}
use Rattle.pg_board.specs.declared.session.Machine.TheVariants as machine_of
use Rattle.pg_board.specs.declared.session.Place.TheVariants as place_of
use Rattle.pg_board.specs.declared.session.Session.{Session}
use Rattle.pg_board.specs.Servers.{IsDraftOf, IsRunningOf, IsServerOf, kept_progress, kept_session}
use Rattle.pg_board.proofs.Drafts.{staged_in_row}
use Rattle.pg_board.proofs.Going.{Stands, session_is, is_shown, shown, stands, there}
use Rattle.pg_board.proofs.Shown.{shown_at}
use Rattle.pg_board.proofs.Staging.{held_by}

module _ (script : Script) (server : Server) (world : World) (serves : IsServerOf script server world) (orderly : IsOrderly script world) where
  -- whose draft it is holds its row
  drafted_holds : (table : ℕ) (draft : PlacedRow) (of : IsDraftOf script server.sessions table draft) → HoldsRow script world of.number table draft.row
  drafted_holds table draft of =
      let stand = stands script server world of.number of.session of.is serves orderly.steady (statement.Change of.change) of.given
      (machine_of.Change of.machine) of.inside in
      let one = shown script server world of.number of.session of.is serves orderly.steady (statement.Change of.change) of.given
      (machine_of.Change of.machine) of.inside in
      let in_world = there script server world of.number of.session of.is serves orderly.steady (statement.Change of.change) of.given
      (machine_of.Change of.machine) of.inside in
      let session = session_is script server world of.number of.session of.is serves orderly.steady (statement.Change of.change) of.given
      (machine_of.Change of.machine) of.inside in
      let given : statement_at script of.number one ≡ Some (Ok (statement.Change of.change)) = rw session.rest of.given in
      let held = held_by script server world of.number one in_world of.change given of.machine stand.running stand.progress stand.machine_is.running
      (stand.machine_is.staged of.staged) in
      subst (λ r. HoldsRow script world of.number table r) of.row_is
      (subst (λ t. HoldsRow script world of.number t (target_in of.machine.running)) of.table_is held.holds)

  module _ (number : ℕ) (kept : Session) (is_kept : slice_get server.sessions number ≡ Some kept) (change : Change)
      (own_is : statement_at script number (kept_session kept) ≡ Some (Ok (statement.Change change))) (machine : ChangeView)
      (inside_is : kept.place ≡ place_of.Inside (machine_of.Change machine)) where
    abbrev target : ℕ
    target = change.target.table

    abbrev row : ℕ
    row = target_in machine.running

    abbrev stand : Stands script server world number kept is_kept serves orderly.steady (statement.Change change) own_is (machine_of.Change machine) inside_is
    stand = stands script server world number kept is_kept serves orderly.steady (statement.Change change) own_is (machine_of.Change machine) inside_is

    -- it has locked a row
    module _ (name : VersionName) (stage_is : machine.running.stage ≡ locked name) where
      planned : machine.reading ≡ None
      planned = at machine.reading refl stand.machine_is.running
        where
          at : (reading : Option ReadingView) → machine.reading ≡ reading →
              IsRunningOf server.tables server.xacts (statement.Change change) machine.running reading stand.running → machine.reading ≡ None
          at None e r = e
          at (Some reading) e r = absurd (let f : locked name ≡ between = sym stage_is ∙ ap (λ r. r.stage) r.reads.begun in cc f)

      own_row : HoldsRow script world number target row
      own_row = record {
        session = kept_session kept;
        is = is_shown script server world number kept is_kept serves orderly.steady (statement.Change change) own_is (machine_of.Change machine) inside_is planned;
        running = machine.running;
        inside_is = ap kept_progress inside_is;
        change = change;
        statement_is = own_is;
        name = name;
        stage_is = stage_is;
        table_is = refl;
        row_is = refl;
      }

      holds_row : HoldsItsRow change server.tables server.xacts machine.running name
      unfolding own_row
      holds_row =
          let h = holding_of script world orderly.steady number target row own_row in
          let same : target_shown change server.tables machine.running ≡ h.row =
          ap (λ views. row_at (table_at views target) row) serves.tables
          ∙ (ap (λ o. row_at (unwrap_or o empty_table) row) h.table_is
          ∙ ap (λ o. unwrap_or o (record { number = row; versions = [] })) h.row_is) in
          record {
            version = h.held.version;
            newest_is = ap newest same ∙ h.held.newest_is;
            current_is = ap (current server.xacts machine.running.me.xact) same
                ∙ (ap (λ t. current t machine.running.me.xact h.row) serves.transactions ∙ h.held.current_is);
            name_is = h.held.name_is;
            there = h.held.there;
          }

      -- the table as the world has it
      view_is : (state : TableState) → item_at server.tables target ≡ Some state → slice_get world.tables target ≡ Some (table_shown state)
      view_is state state_is =
          ap (λ tables. slice_get tables target) (sym serves.tables) ∙ (shown_at server.tables target ∙ ap (λ o. option_map table_shown o) state_is)

      -- nothing is placed under the number of the row
      nothing_placed : (state : TableState) → item_at server.tables target ≡ Some state → placed_at (table_shown state).placed row ≡ None
      nothing_placed state state_is = at (placed_at (table_shown state).placed row) refl
        where
          at : (o : Option PlacedRow) → placed_at (table_shown state).placed row ≡ o → o ≡ None
          at None e = refl
          at (Some one) e =
              let fresh = fresh_under world target row (table_shown state) one orderly.fresh (view_is state state_is) e in
              let none : newest (target_shown change server.tables machine.running) ≡ None =
              ap (λ views. newest (row_at (table_at views target) row)) serves.tables
              ∙ (ap (λ o. newest (row_at (unwrap_or o empty_table) row)) (view_is state state_is)
              ∙ ap (λ o. newest (unwrap_or o (record { number = row; versions = [] }))) fresh) in
              absurd (let f : None ≡ Some holds_row.version = sym none ∙ holds_row.newest_is in cc f)

      -- and nothing is staged for it, where the session has not staged its new values
      nothing_staged : machine.staged ≡ false → (state : TableState) → item_at server.tables target ≡ Some state → staged_at state row ≡ None
      nothing_staged off state state_is = at (staged_at state row) refl
        where
          at : (o : Option PlacedRow) → staged_at state row ≡ o → o ≡ None
          at None e = refl
          at (Some draft) e =
              let in_tables = ap (λ o. option_and_then (λ s. staged_at s row) o) state_is ∙ e in
              let of = serves.drafts target row draft in_tables in
              let holds = subst (λ r. HoldsRow script world of.number target r) (staged_in_row server.tables target row draft in_tables) (drafted_holds target draft of) in
              let same = held_differ script world orderly.steady of.number number target row holds own_row in
              let f : Some kept ≡ Some of.session = sym is_kept ∙ (ap (λ n. slice_get server.sessions n) (sym same) ∙ of.is) in
              let g : kept ≡ of.session = cc f in
              let h : place_of.Inside (machine_of.Change machine) ≡ place_of.Inside (machine_of.Change of.machine) =
              sym inside_is ∙ (ap (λ s. s.place) g ∙ of.inside) in
              let machines : machine ≡ of.machine = cc h in
              absurd (let wrong : true ≡ false = sym of.staged ∙ (ap (λ m. m.staged) (sym machines) ∙ off) in cc wrong)

      undrafted : machine.staged ≡ false → IsUndrafted change server.tables machine.running
      undrafted off state state_is =
          no_draft state row (serves.valid target state state_is) (nothing_placed state state_is) (nothing_staged off state state_is)

      staged_if : (b : Bool) → machine.staged ≡ b → IsStagedIf b change server.tables server.xacts machine.running
      staged_if true on = stand.machine_is.staged on
      staged_if false off = undrafted off

    pub holding : IsHolding change server.tables server.xacts machine
    holding = at machine.running.stage refl
      where
        at : (stage : Stage) → machine.running.stage ≡ stage → IsHoldingAt stage change server.tables server.xacts machine
        at (locked name) is = (holds_row name is, staged_if name is machine.staged refl)
        at between is = tt
        at found is = tt
        at (placed number) is = tt
