-- What an INSERT does, and what a machine does without a change of the tables, is what its entry makes of the world.
use Rattle.std.proofs.Common.{◌≡◌, ℕ, List, map, Option, Some, None, slice_get, slice_set, refl, sym, ap, ◌∙◌, subst}
use Rattle.std.specs.Prelude.{Ok, option_map, false}
use Rattle.std.specs.Option.{option_map_or}
use Rattle.pg_lists.specs.Numbered.{with_changed_item}
use Rattle.pg_values.specs.declared.value.Value.{Value}
use Rattle.pg_xacts.specs.declared.me.Me.{Me}
use Rattle.pg_xacts.specs.Transactions.{Transactions}
use Rattle.pg_model.specs.declared.script.Script.{Script}
use Rattle.pg_model.specs.declared.statement.Insert.{Insert}
use Rattle.pg_model.specs.declared.statement.Statement.{Statement}
use Rattle.pg_model.specs.declared.statement.Statement.TheVariants as statement
use Rattle.pg_world.specs.declared.session.Running.{Running}
use Rattle.pg_world.specs.declared.session.SessionView.{SessionView}
use Rattle.pg_world.specs.declared.session.Progress.TheVariants.{Inside as inside}
use Rattle.pg_world.specs.declared.session.Stage.TheVariants.{Placed as placed}
use Rattle.pg_world.specs.declared.table.TableView.{TableView}
use Rattle.pg_world.specs.Replies.{proposed_values}
use Rattle.pg_world.specs.Tables.{placed_at, row_inserted, row_placed}
use Rattle.pg_world.specs.Worlds.{World}
use Rattle.pg_relation.specs.Effect.{with_candidate, with_inserted_row, with_passed, with_placed_row}
use Rattle.pg_relation.specs.Lines.{statement_at}
use Rattle.pg_relation.specs.Running.{running_acted, running_found, running_passed, running_placed}
use Rattle.pg_relation.proofs.Leaving.{Waits}
use Rattle.pg_relation.proofs.Lists.{each_set}
use Rattle.pg_relation.proofs.Placing.{IsTidy}
use Rattle.pg_relation.proofs.Spares.{IsReading as Stays, IsStable, not_owner}
use Rattle.pg_scans.specs.Readings.{AreTables, IsReading, ReadingView}
use Rattle.pg_scans.proofs.Commits.{running_unseen}
use Rattle.pg_scans.proofs.Kept.{placing_keeps, settling_keeps}
use Rattle.pg_table.specs.States.{IsTable, TableState, row_inserted_in, row_placed_in, staged_at, table_shown}
use Rattle.pg_table.specs.Scanned.{IsUnseen}
use Rattle.pg_table.specs.declared.placing.DraftKind.TheVariants.{First}
use Rattle.pg_table.proofs.Kept.{table_placed, table_settled}
use Rattle.pg_table.proofs.Shown.{inserted_shown, placed_shown}
use Rattle.pg_table.proofs.Staged.{staged_inserted, staged_placed}
use Rattle.pg_board.specs.declared.server.Server.{Server}
use Rattle.pg_board.specs.declared.session.Machine.{Machine}
use Rattle.pg_board.specs.declared.session.Place.TheVariants as place_of
use Rattle.pg_board.specs.declared.session.Session.{Session}
use Rattle.pg_board.specs.Machines.{IsPlanned}
use Rattle.pg_board.specs.Servers.{AreDrafts, IsOfKind, IsServerOf, IsSessionOf, has_staged, kept_progress, kept_session, running_of}
use Rattle.pg_board.specs.Shown.{IsPlacedIn}
use Rattle.pg_board.proofs.Acts.{stays_staged, unstaged_by}
use Rattle.pg_board.proofs.Drafts.{staged_kept}
use Rattle.pg_board.proofs.Ending.{leaves_all, no_drafts, runs}
use Rattle.pg_board.proofs.Lifting.{HoldsStay, LeavesOthers, drafts_left, lifted}
use Rattle.pg_board.proofs.Shown.{changed_in, shown_at}

-- each table is one, also where one of them is changed to one
pub changed_tables : (change : TableState → TableState) (tables : List TableState) (number : ℕ) →
    ((state : TableState) → slice_get tables number ≡ Some state → IsTable state → IsTable (change state)) →
    AreTables tables → AreTables (with_changed_item change tables number)
changed_tables change tables number keeps are = at (slice_get tables number) refl
  where
    at : (one : Option TableState) → slice_get tables number ≡ one →
        AreTables (option_map_or (λ state. slice_set tables number (change state)) one tables)
    at None is = are
    at (Some state) is = each_set (λ n s. IsTable s) tables number (change state) are (keeps state is (are number state is))

module _ (script : Script) (server : Server) (world : World) (number : ℕ) (kept : Session)
    (is_kept : slice_get server.sessions number ≡ Some kept)
    (is_shown : slice_get world.sessions number ≡ Some (kept_session kept))
    (serves : IsServerOf script server world) (stable : IsStable script world)
    (machine behind : Machine) (own : Statement) (inside_is : kept.place ≡ place_of.Inside machine)
    (own_is : statement_at script number (kept_session kept) ≡ Some (Ok own)) (kind : IsOfKind behind own)
    (stays : IsPlanned behind) (off : has_staged behind ≡ false) where
  -- the session with its machine behind the act
  abbrev pub after : Session
  after = record kept { place = place_of.Inside behind }

  abbrev pub at_running : Running → SessionView
  at_running running = record (kept_session kept) { progress = inside running }

  stands : (tables : List TableState) (running : Running) → running_of behind ≡ running →
      IsSessionOf script tables server.xacts number after (at_running running)
  stands tables running is = record {
    rest = refl;
    progress = (
      own,
      own_is,
      running,
      refl,
      record {
        kind = kind;
        running = rw stays (sym is);
        staged = unstaged_by tables server.xacts own behind off;
      },
    );
  }

  -- a machine has changed the tables, and left the others alone
  pub lifts : (tables : List TableState) (views : List TableView) (running : Running) → map table_shown tables ≡ views → AreTables tables →
      LeavesOthers script server world number tables server.xacts →
      AreDrafts script tables (slice_set server.sessions number after) → running_of behind ≡ running →
      IsServerOf script (record server { tables = tables; sessions = slice_set server.sessions number after })
      (record world { tables = views; sessions = slice_set world.sessions number (at_running running) })
  lifts tables views running shown valid leaves drafts is =
      lifted script server world number serves stable (record server { tables = tables; sessions = slice_set server.sessions number after })
      (record world { tables = views; sessions = slice_set world.sessions number (at_running running) })
      after (at_running running) refl refl shown serves.transactions serves.waits valid leaves (stands tables running is) drafts

  -- it had staged nothing
  module _ (unstaged : has_staged machine ≡ false) where
    unstaged_kept : (one : Machine) → kept.place ≡ place_of.Inside one → has_staged one ≡ false
    unstaged_kept one is =
        let e : place_of.Inside machine ≡ place_of.Inside one = sym inside_is ∙ is in
        let f : machine ≡ one = cc e in
        ap has_staged (sym f) ∙ unstaged

    pub plain_lifts : (running : Running) → running_of behind ≡ running →
        IsServerOf script (record server { sessions = slice_set server.sessions number after })
        (record world { sessions = slice_set world.sessions number (at_running running) })
    plain_lifts running is =
        lifts server.tables world.tables running serves.tables serves.valid (leaves_all script server world number kept is_shown serves stable)
        (stays_staged script server world number kept is_kept is_shown serves stable unstaged_kept after) is

    pub found_lifts : (candidate : ℕ) → running_of behind ≡ running_found candidate (running_of machine) →
        IsServerOf script (record server { sessions = slice_set server.sessions number after })
        (with_candidate world number (kept_session kept) candidate)
    found_lifts candidate is = rw inside_is (plain_lifts (running_found candidate (running_of machine)) is)

    pub passed_lifts : running_of behind ≡ running_passed (running_of machine) →
        IsServerOf script (record server { sessions = slice_set server.sessions number after }) (with_passed world number (kept_session kept))
    passed_lifts is = rw inside_is (plain_lifts (running_passed (running_of machine)) is)

    -- one table has changed, and what is staged stays
    module _ (change : TableState → TableState) (table : ℕ)
        (same : (state : TableState) (row : ℕ) → slice_get server.tables table ≡ Some state → staged_at (change state) row ≡ staged_at state row) where
      abbrev pub changed : List TableState
      changed = with_changed_item change server.tables table

      pub drafts_stay : AreDrafts script changed (slice_set server.sessions number after)
      drafts_stay =
          drafts_left script server world number serves stable changed after
          (λ t r draft is. sym (staged_kept change server.tables table same t r) ∙ is)
          (λ t r draft is of. no_drafts server number kept is_kept unstaged_kept script t draft of)

      pub leaves_changed : (views : List TableView) → map table_shown changed ≡ views → HoldsStay script world views number →
          ((other : ℕ) (session : SessionView) (running : Running) (reading : ReadingView) → (other ≡ number → ⊥) →
          Stays script world other session running → reading.me ≡ running.me → reading.snapshot.commits ≡ running.snapshot →
          IsReading server.tables server.xacts reading → IsReading changed server.xacts reading) →
          LeavesOthers script server world number changed server.xacts
      leaves_changed views shown stay reads = record {
        reads = reads;
        held = subst (λ v. HoldsStay script world v number) (sym shown) stay;
        staged = λ other t r draft has. staged_kept change server.tables table same t r ∙ has.there;
      }

    module _ (table row : ℕ)
        (stay : HoldsStay script world
        (with_changed_item (λ view. row_placed view (running_of machine).me (proposed_values (running_of machine))) world.tables table) number) where
      abbrev me_placing : Me
      me_placing = (running_of machine).me

      abbrev values : List Value
      values = proposed_values (running_of machine)

      placing_same : (state : TableState) (r : ℕ) → slice_get server.tables table ≡ Some state →
          staged_at (row_placed_in state me_placing values) r ≡ staged_at state r
      placing_same state r there = staged_placed state me_placing values r (serves.valid table state there)

      placing_shown : map table_shown (with_changed_item (λ state. row_placed_in state me_placing values) server.tables table)
          ≡ with_changed_item (λ view. row_placed view me_placing values) world.tables table
      placing_shown =
          changed_in (λ state. row_placed_in state me_placing values) (λ view. row_placed view me_placing values) server.tables table
          (λ state there. placed_shown state me_placing values (serves.valid table state there))
          ∙ ap (λ tables. with_changed_item (λ view. row_placed view me_placing values) tables table) serves.tables

      pub placed_lifts : running_of behind ≡ running_placed row (running_of machine) →
          IsServerOf script
          (record server {
            tables = with_changed_item (λ state. row_placed_in state me_placing values) server.tables table;
            sessions = slice_set server.sessions number after;
          })
          (with_placed_row world number (kept_session kept) table row)
      placed_lifts is =
          rw inside_is
          (lifts (with_changed_item (λ state. row_placed_in state me_placing values) server.tables table)
          (with_changed_item (λ view. row_placed view me_placing values) world.tables table) (running_placed row (running_of machine))
          placing_shown
          (changed_tables (λ state. row_placed_in state me_placing values) server.tables table
          (λ state there is. table_placed state me_placing values is) serves.valid)
          (leaves_changed (λ state. row_placed_in state me_placing values) table placing_same
          (with_changed_item (λ view. row_placed view me_placing values) world.tables table) placing_shown stay
          (λ other session running reading apart theirs same commits reads.
          placing_keeps server.tables server.xacts reading table me_placing values serves.valid reads))
          (drafts_stay (λ state. row_placed_in state me_placing values) table placing_same) is)

    module _ (insert : Insert) (row : ℕ) (own_insert : own ≡ statement.Insert insert) (stage : (running_of machine).stage ≡ placed row)
        (tidy : IsTidy script world)
        (stay : HoldsStay script world
        (with_changed_item (λ view. row_inserted view (running_of machine).me row) world.tables insert.target.table) number) where
      abbrev me : Me
      me = (running_of machine).me

      abbrev into : ℕ
      into = insert.target.table

      waits : Waits world.tables into row me (proposed_values (running_of machine))
      waits = tidy.waits number (kept_session kept) is_shown (running_of machine) insert row (ap kept_progress inside_is) (own_is ∙ ap (λ s. Some (Ok s)) own_insert) stage

      mine : IsPlacedIn (map table_shown server.tables) into me row
      mine view placed_row there same_row =
          let same : Some waits.0 ≡ Some view = sym waits.1 ∙ (ap (λ tables. slice_get tables into) (sym serves.tables) ∙ there) in
          let e : waits.0 ≡ view = cc same in
          let f : Some (record { row = row; me = me; values = proposed_values (running_of machine) }) ≡ Some placed_row = sym waits.2.placed ∙ (ap (λ v. placed_at v.placed row) e ∙ same_row) in
          let g : record { row = row; me = me; values = proposed_values (running_of machine) } ≡ placed_row = cc f in
          ap (λ p. p.me) (sym g)

      storing_same : (state : TableState) (r : ℕ) → slice_get server.tables into ≡ Some state →
          staged_at (row_inserted_in state row) r ≡ staged_at state r
      storing_same state r there = staged_inserted state row r (serves.valid into state there)

      storing_shown : map table_shown (with_changed_item (λ state. row_inserted_in state row) server.tables into)
          ≡ with_changed_item (λ view. row_inserted view me row) world.tables into
      storing_shown =
          changed_in (λ state. row_inserted_in state row) (λ view. row_inserted view me row) server.tables into
          (λ state there.
          inserted_shown state me (serves.valid into state there) row
          (λ placed_row is. mine (table_shown state) placed_row (shown_at server.tables into ∙ ap (λ o. option_map table_shown o) there) is))
          ∙ ap (λ tables. with_changed_item (λ view. row_inserted view me row) tables into) serves.tables

      pub inserted_lifts : kept.transaction ≡ Some me.xact → running_of behind ≡ running_acted (running_of machine) →
          IsServerOf script
          (record server {
            tables = with_changed_item (λ state. row_inserted_in state row) server.tables into;
            sessions = slice_set server.sessions number after;
          })
          (with_inserted_row world number (kept_session kept) into row)
      inserted_lifts opened is =
          rw inside_is
          (lifts (with_changed_item (λ state. row_inserted_in state row) server.tables into)
          (with_changed_item (λ view. row_inserted view me row) world.tables into) (running_acted (running_of machine))
          storing_shown
          (changed_tables (λ state. row_inserted_in state row) server.tables into (λ state there is. table_settled First state row is) serves.valid)
          (leaves_changed (λ state. row_inserted_in state row) into storing_same
          (with_changed_item (λ view. row_inserted view me row) world.tables into) storing_shown stay
          (λ other session running reading apart theirs same commits reads.
          settling_keeps server.tables server.xacts reading into row serves.valid
          (λ state there found_row same_row.
          subst (λ m. IsUnseen server.xacts reading.snapshot.commits reading.me m.xact)
          (sym (mine (table_shown state) found_row (shown_at server.tables into ∙ ap (λ o. option_map table_shown o) there) same_row))
          (running_unseen server.xacts reading.snapshot.commits reading.me me.xact (runs script server world number kept is_shown serves stable me.xact opened)
          (λ e. not_owner world me.xact running.me.xact other number ((stable.each number (kept_session kept) is_shown).owner me.xact opened).1
          theirs.owned apart (e ∙ ap (λ m. m.xact) same)))) reads))
          (drafts_stay (λ state. row_inserted_in state row) into storing_same) is)
