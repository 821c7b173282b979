-- A machine has come nearer to its next entry: nothing of the world has changed.
use Rattle.std.proofs.Common.{◌≡◌, ◌≢◌, ◌⊎◌, inl, inr, ◌<◌, ◌≤◌, ◌+◌, ℕ, Bool, true, false, cond, List, [], ◌∷◌, map, Option, Some, None, slice_get, slice_set, option_and_then, arith, refl, sym, ap, ◌∙◌, subst, ne_eqb}
use Rattle.std.proofs.lemmas.Bool.{cases_eq}
use Rattle.std.specs.Prelude.{Ok, option_map, unwrap_or}
use Rattle.pg_lists.proofs.Lists.{slice_set_same}
use Rattle.pg_lists.specs.Numbered.{item_at, with_changed_item}
use Rattle.pg_xacts.specs.declared.me.Me.{Me}
use Rattle.pg_heap.specs.Current.{newest}
use Rattle.pg_model.specs.declared.script.Script.{Script}
use Rattle.pg_model.specs.declared.statement.Change.{Change}
use Rattle.pg_model.specs.declared.statement.Statement.{Statement}
use Rattle.pg_model.specs.declared.statement.Statement.TheVariants as statement
use Rattle.pg_world.specs.Candidates.{candidates_of}
use Rattle.pg_world.specs.Changes.{row_at, table_at}
use Rattle.pg_world.specs.declared.placed.PlacedRow.{PlacedRow}
use Rattle.pg_world.specs.declared.session.SessionView.{SessionView}
use Rattle.pg_world.specs.declared.session.Stage.TheVariants.{Locked as locked}
use Rattle.pg_world.specs.declared.session.VersionName.{VersionName}
use Rattle.pg_world.specs.Tables.{empty_table}
use Rattle.pg_world.specs.Worlds.{World}
use Rattle.pg_relation.specs.Holds.{HoldsRow}
use Rattle.pg_relation.specs.Lines.{statement_at}
use Rattle.pg_relation.proofs.Held.{held_differ}
use Rattle.pg_relation.proofs.Lists.{get_set, get_set_other}
use Rattle.pg_relation.proofs.LockingKept.{IsSteady}
use Rattle.pg_scans.specs.Readings.{AreTables}
use Rattle.pg_scans.proofs.Kept.{staging_keeps}
use Rattle.pg_table.specs.States.{TableState, row_staged_in, staged_at, table_shown}
use Rattle.pg_table.proofs.Drafted.{table_staged}
use Rattle.pg_table.proofs.Staged.{staged_more}
use Rattle.pg_update.specs.Steps.{ChangeView, HasStaged, IsHolding, IsHoldingAt, IsStagedIf, IsUndrafted, staged_in, stagings_at, target_in}
use Rattle.pg_board.specs.Counts.{HasFew, machine_draws, place_draws}
use Rattle.pg_board.specs.declared.server.Server.{Server}
use Rattle.pg_board.specs.declared.session.Machine.{Machine}
use Rattle.pg_board.specs.declared.session.Machine.TheVariants as machine_of
use Rattle.pg_board.specs.declared.session.Place.TheVariants as place_of
use Rattle.pg_board.specs.declared.session.Session.{Session}
use Rattle.pg_board.specs.Machines.{GoesOn, HasRead, IsPlanned, IsStaging}
use Rattle.pg_board.specs.Servers.{AreDrafts, IsDraftOf, IsHoldingBy, IsMachineOf, IsServerOf, IsSessionOf, IsStagedBy, has_staged, kept_progress, kept_session}
use Rattle.pg_board.specs.Steps.{HasReadOn}
use Rattle.pg_board.proofs.ChangeActs.{drawn_where}
use Rattle.pg_board.proofs.Drafts.{changed_table, staged_in_row, staged_where}
use Rattle.pg_board.proofs.Ending.{no_drafts}
use Rattle.pg_board.proofs.Few.{Grow, few_moved, grow_none, grow_staged}
use Rattle.pg_board.proofs.Going.{Stands, session_is, is_shown, shown as shown_of, stands, there}
use Rattle.pg_board.proofs.Lifting.{LeavesOthers, drafts_left, lifted}
use Rattle.pg_board.proofs.MachineActs.{changed_tables}
use Rattle.pg_board.proofs.Shown.{shown_at}
use Rattle.pg_board.proofs.Staging.{held_by, updating}

module _ (script : Script) (server : Server) (world : World) (number : ℕ) (kept : Session)
    (is_kept : slice_get server.sessions number ≡ Some kept) (serves : IsServerOf script server world) (steady : IsSteady script world)
    (own : Statement) (own_is : statement_at script number (kept_session kept) ≡ Some (Ok own))
    (machine : Machine) (inside_is : kept.place ≡ place_of.Inside machine) (behind : Machine) (tables : List TableState)
    (goes : GoesOn own server.xacts server.tables tables machine behind) where
  abbrev after : Session
  after = record kept { place = place_of.Inside behind }

  abbrev next : Server
  next = record server { tables = tables; sessions = slice_set server.sessions number after }

  abbrev stand : Stands script server world number kept is_kept serves steady own own_is machine inside_is
  stand = stands script server world number kept is_kept serves steady own own_is machine inside_is

  abbrev shown : SessionView
  shown = shown_of script server world number kept is_kept serves steady own own_is machine inside_is

  shown_there : slice_get world.sessions number ≡ Some shown
  shown_there = there script server world number kept is_kept serves steady own own_is machine inside_is

  stands_for : IsSessionOf script server.tables server.xacts number kept shown
  stands_for = session_is script server world number kept is_kept serves steady own own_is machine inside_is

  given : statement_at script number shown ≡ Some (Ok own)
  given = rw stands_for.rest own_is

  candidates_are : candidates_of own (map table_shown server.tables) server.xacts stand.running.snapshot stand.running.me ≡ stand.running.candidates
  candidates_are =
      ap (λ tables. candidates_of own tables server.xacts stand.running.snapshot stand.running.me) serves.tables
      ∙ ap (λ transactions. candidates_of own world.tables transactions stand.running.snapshot stand.running.me) serves.transactions
      ∙ ((steady.stable.each number shown shown_there).reading stand.running stand.progress).kept own given

  own_stands : IsSessionOf script tables server.xacts number after shown
  own_stands = record {
    rest = stands_for.rest;
    progress = (own, given, stand.running, stand.progress, goes.stands stand.running candidates_are stand.machine_is);
  }

  -- the server stands for the same world, where the tables are shown as before
  same_world : map table_shown tables ≡ map table_shown server.tables → AreTables tables →
      LeavesOthers script server world number tables server.xacts → AreDrafts script tables next.sessions → IsServerOf script next world
  same_world same valid leaves drafts =
      lifted script server world number serves steady.stable next world after shown refl
      (sym (slice_set_same world.sessions number shown shown_there)) (same ∙ serves.tables) serves.transactions serves.waits valid leaves own_stands drafts

  -- it comes nearer
  nearer : IsServerOf script next world → ((most : ℕ) → HasFew most server → HasFew most next) → HasReadOn script number world server next
  nearer stays few = record {
    serves = stays;
    fewer = λ most have. rw (get_set server.sessions number kept after is_kept, is_kept, inside_is) (goes.fewer most have);
    others = λ most other apart. rw (get_set_other server.sessions number other after apart) refl;
    few = few;
  }

  -- no more versions than there may be
  few_with : (grown : ℕ) → Grow server.tables tables grown → grown + machine_draws behind ≤ machine_draws machine →
      (most : ℕ) → HasFew most server → HasFew most next
  few_with grown grow within most few =
      subst (λ n. HasFew n next) (let e : most + 0 ≡ most = omega arith in e)
      (few_moved server next number kept after is_kept refl grown 0 grow
      (subst (λ p. grown + machine_draws behind ≤ place_draws p + 0) (sym inside_is) (omega (arith, within))) most few)

  -- It reads on.
  module _ (read : HasRead server.tables tables machine behind) where
    -- what has staged new values does not read
    nothing_staged : has_staged machine ≡ false
    nothing_staged = at own machine (λ planned. planned) given stand.machine_is
      where
        by : (change : Change) (one : ChangeView) (b : Bool) → one.staged ≡ b → (IsPlanned (machine_of.Change one) → ⊥) →
            statement_at script number shown ≡ Some (Ok (statement.Change change)) →
            IsMachineOf server.tables server.xacts (statement.Change change) (machine_of.Change one) stand.running → b ≡ false
        by change one false is reads asked m = refl
        by change one true is reads asked m =
            absurd (reads (held_by script server world number shown shown_there change asked one stand.running stand.progress m.running (m.staged is)).planned)

        at : (one : Statement) (m : Machine) → (IsPlanned m → IsPlanned machine) → statement_at script number shown ≡ Some (Ok one) →
            IsMachineOf server.tables server.xacts one m stand.running → has_staged m ≡ false
        at one (machine_of.Insert insert) same asked m = refl
        at one (machine_of.Select select) same asked m = refl
        at (statement.Change change) (machine_of.Change view) same asked m =
            by change view view.staged refl (λ planned. read.reads (same planned)) asked m
        at (statement.Select select) (machine_of.Change view) same asked m = absurd m.kind
        at (statement.Insert insert) (machine_of.Change view) same asked m = absurd m.kind
        at statement.Begin (machine_of.Change view) same asked m = absurd m.kind
        at statement.Commit (machine_of.Change view) same asked m = absurd m.kind
        at statement.Rollback (machine_of.Change view) same asked m = absurd m.kind

    unstaged_kept : (one : Machine) → kept.place ≡ place_of.Inside one → has_staged one ≡ false
    unstaged_kept one is =
        let e : place_of.Inside machine ≡ place_of.Inside one = sym inside_is ∙ is in
        let f : machine ≡ one = cc e in
        ap has_staged (sym f) ∙ nothing_staged

    read_on : HasReadOn script number world server next
    read_on =
        nearer
        (same_world (ap (map table_shown) read.tables_are) (subst (λ t. AreTables t) (sym read.tables_are) serves.valid)
        (subst (λ t. LeavesOthers script server world number t server.xacts) (sym read.tables_are) leaves_none)
        (subst (λ t. AreDrafts script t next.sessions) (sym read.tables_are)
        (drafts_left script server world number serves steady.stable server.tables after (λ table row draft is. is)
        (λ table row draft is of. no_drafts server number kept is_kept unstaged_kept script table draft of))))
        (few_with 0 (λ table state there. grow_none server.tables table state (ap (λ t. slice_get t table) (sym read.tables_are) ∙ there))
        (let d = read.draws in omega (arith, d)))
      where
        leaves_none : LeavesOthers script server world number server.tables server.xacts
        leaves_none = record {
          reads = λ other session running reading apart stays me commits reads. reads;
          held = λ other table row apart holds. rw (serves.tables) refl;
          staged = λ other table row draft has. has.there;
        }

-- An UPDATE stages the new values of the row that it has locked.
module _ (script : Script) (server : Server) (world : World) (number : ℕ) (kept : Session)
    (is_kept : slice_get server.sessions number ≡ Some kept) (serves : IsServerOf script server world) (steady : IsSteady script world)
    (change : Change) (own_is : statement_at script number (kept_session kept) ≡ Some (Ok (statement.Change change)))
    (machine behind : ChangeView) (inside_is : kept.place ≡ place_of.Inside (machine_of.Change machine)) (tables : List TableState)
    (goes : GoesOn (statement.Change change) server.xacts server.tables tables (machine_of.Change machine) (machine_of.Change behind))
    (holding : IsHolding change server.tables server.xacts machine) (planned : machine.reading ≡ None)
    (staged : HasStaged change server.tables server.xacts machine behind tables) where
  abbrev me : Me
  me = machine.running.me

  abbrev target : ℕ
  target = change.target.table

  abbrev row : ℕ
  row = target_in machine.running

  abbrev stage_it : TableState → TableState
  stage_it state = row_staged_in state me row staged.values

  abbrev staged_tables : List TableState
  staged_tables = with_changed_item stage_it server.tables target

  at_locked : (name : VersionName) × (machine.running.stage ≡ locked name)
  at_locked = updating change (map table_shown server.tables) server.xacts machine.running target row staged.choice

  held : IsHoldingAt (locked at_locked.0) change server.tables server.xacts machine
  held = subst (λ s. IsHoldingAt s change server.tables server.xacts machine) at_locked.1 holding

  undrafted : IsUndrafted change server.tables machine.running
  undrafted = subst (λ b. IsStagedIf b change server.tables server.xacts machine.running) staged.unstaged held.1

  drawn : (state : TableState) → item_at server.tables target ≡ Some state → (0 < row) × (row ≤ state.store.drawn)
  drawn state there =
      drawn_where state row held.0.version
      (ap (λ view. newest (row_at view row)) (sym (ap (λ o. unwrap_or o empty_table) (shown_at server.tables target ∙ ap (λ o. option_map table_shown o) there)))
      ∙ held.0.newest_is)

  own_row : HoldsRow script world number target row
  own_row = record {
    session = kept_session kept;
    is = is_shown script server world number kept is_kept serves steady (statement.Change change) own_is (machine_of.Change machine) inside_is planned;
    running = machine.running;
    inside_is = ap kept_progress inside_is;
    change = change;
    statement_is = own_is;
    name = at_locked.0;
    stage_is = at_locked.1;
    table_is = refl;
    row_is = refl;
  }

  elsewhere : (table r : ℕ) → (table ≡ target → r ≢ row) → staged_in staged_tables table r ≡ staged_in server.tables table r
  elsewhere table r apart =
      staged_where stage_it server.tables target (λ r. r ≢ row)
      (λ state r there other.
      staged_more state me row staged.values r (serves.valid target state there) (drawn state there)
      ∙ ap (λ b. cond b (Some (record { row = row; me = me; values = staged.values })) (staged_at state r)) (ne_eqb r row other))
      table r apart

  leaves_staged : LeavesOthers script server world number staged_tables server.xacts
  leaves_staged = record {
    reads = λ other session running reading apart stays same commits reads.
        staging_keeps server.tables server.xacts reading target me row staged.values reads;
    held = λ other table r apart holds.
        ap (λ views. row_at (table_at views table) r) (ap (map table_shown) (sym staged.tables_are) ∙ staged.shown ∙ serves.tables);
    staged = λ other table r draft has.
        elsewhere table r (λ same at_row. has.apart (held_differ script world steady other number target row
        (subst (λ t. HoldsRow script world other t row) same (subst (λ n. HoldsRow script world other table n) at_row has.holds)) own_row))
        ∙ has.there;
  }

  abbrev after_staged : Session
  after_staged = record kept { place = place_of.Inside (machine_of.Change behind) }

  -- its own draft, and those of the others
  drafts : AreDrafts script staged_tables (slice_set server.sessions number (record kept { place = place_of.Inside (machine_of.Change behind) }))
  drafts table r draft is = at (cases_eq table target) (cases_eq r row)
    where
      mine : staged_in staged_tables target row ≡ Some draft → table ≡ target → IsDraftOf script (slice_set server.sessions number after_staged) table draft
      mine here same =
          let e : Some (record { row = row; me = me; values = staged.values }) ≡ Some draft =
          sym (subst (λ t. staged_in t target row ≡ Some (record { row = row; me = me; values = staged.values })) staged.tables_are staged.staged) ∙ here in
          let f : record { row = row; me = me; values = staged.values } ≡ draft = cc e in
          record {
            number = number;
            session = after_staged;
            is = get_set server.sessions number kept after_staged is_kept;
            change = change;
            given = own_is_behind;
            machine = behind;
            inside = refl;
            staged = ap (λ m. m.staged) staged.next_is;
            table_is = sym same;
            row_is = ap (λ m. target_in m.running) staged.next_is ∙ ap (λ d. d.row) f;
            me_is = ap (λ m. m.running.me) staged.next_is ∙ ap (λ d. d.me) f;
          }
        where
          own_is_behind : statement_at script number (kept_session after_staged) ≡ Some (Ok (statement.Change change))
          own_is_behind = own_is

      theirs : (table ≡ target → r ≢ row) → IsDraftOf script (slice_set server.sessions number after_staged) table draft
      theirs apart =
          let of = serves.drafts table r draft (sym (elsewhere table r apart) ∙ is) in
          record {
            number = of.number;
            session = of.session;
            is = get_set_other server.sessions number of.number after_staged (not_mine of) ∙ of.is;
            change = of.change;
            given = of.given;
            machine = of.machine;
            inside = of.inside;
            staged = of.staged;
            table_is = of.table_is;
            row_is = of.row_is;
            me_is = of.me_is;
          }
        where
          not_mine : (of : IsDraftOf script server.sessions table draft) → of.number ≡ number → ⊥
          not_mine of same =
              let e : Some kept ≡ Some of.session = sym is_kept ∙ (ap (λ n. slice_get server.sessions n) (sym same) ∙ of.is) in
              let f : kept ≡ of.session = cc e in
              let g : place_of.Inside (machine_of.Change machine) ≡ place_of.Inside (machine_of.Change of.machine) =
              sym inside_is ∙ (ap (λ s. s.place) f ∙ of.inside) in
              let machines : machine ≡ of.machine = cc g in
              let h : true ≡ false = sym of.staged ∙ (ap (λ m. m.staged) (sym machines) ∙ staged.unstaged) in
              cc h

      at : (table ≡ target) ⊎ (table ≡ target → ⊥) → (r ≡ row) ⊎ (r ≡ row → ⊥) → IsDraftOf script (slice_set server.sessions number after_staged) table draft
      at (inl e) (inl f) =
          mine (subst (λ t. staged_in staged_tables t row ≡ Some draft) e (subst (λ n. staged_in staged_tables table n ≡ Some draft) f is)) e
      at (inl e) (inr apart) = theirs (λ same. apart)
      at (inr apart) any = theirs (λ same. absurd (apart same))

  pub staged_on : HasReadOn script number world server
      (record server { tables = tables; sessions = slice_set server.sessions number (record kept { place = place_of.Inside (machine_of.Change behind) }) })
  staged_on =
      nearer script server world number kept is_kept serves steady (statement.Change change) own_is (machine_of.Change machine) inside_is
      (machine_of.Change behind) tables goes
      (same_world script server world number kept is_kept serves steady (statement.Change change) own_is (machine_of.Change machine) inside_is
      (machine_of.Change behind) tables goes staged.shown
      (subst (λ t. AreTables t) (sym staged.tables_are)
      (changed_tables stage_it server.tables target
      (λ state there valid. table_staged state me row staged.values valid (drawn state there) (undrafted state there)) serves.valid))
      (subst (λ t. LeavesOthers script server world number t server.xacts) (sym staged.tables_are) leaves_staged)
      (subst (λ t. AreDrafts script t (slice_set server.sessions number (record kept { place = place_of.Inside (machine_of.Change behind) })))
      (sym staged.tables_are) drafts))
      (few_with script server world number kept is_kept serves steady (statement.Change change) own_is (machine_of.Change machine) inside_is
      (machine_of.Change behind) tables goes 1
      (subst (λ t. Grow server.tables t 1) (sym staged.tables_are) (grow_staged server.tables target me row staged.values))
      (let one = draws in let none = drawn_behind in omega (arith, one, none)))
    where
      draws : machine_draws (machine_of.Change machine) ≡ 1
      draws = ap (λ b. stagings_at machine.running.stage b) staged.unstaged ∙ ap (λ s. stagings_at s false) at_locked.1

      drawn_behind : machine_draws (machine_of.Change behind) ≡ 0
      drawn_behind = ap (λ m. stagings_at m.running.stage m.staged) staged.next_is ∙ ap (λ s. stagings_at s true) at_locked.1

-- a machine that can make a step has come nearer
module _ (script : Script) (server : Server) (world : World) (number : ℕ) (kept : Session)
    (is_kept : slice_get server.sessions number ≡ Some kept) (serves : IsServerOf script server world) (steady : IsSteady script world)
    (tables : List TableState) where
  staging : (own : Statement) (machine behind : Machine) → statement_at script number (kept_session kept) ≡ Some (Ok own) →
      kept.place ≡ place_of.Inside machine → IsHoldingBy server.tables server.xacts own machine →
      GoesOn own server.xacts server.tables tables machine behind → IsStaging own server.tables server.xacts machine behind tables →
      HasReadOn script number world server
      (record server { tables = tables; sessions = slice_set server.sessions number (record kept { place = place_of.Inside behind }) })
  staging (statement.Change change) (machine_of.Change machine) (machine_of.Change behind) own_is inside_is holding goes staged =
      staged_on script server world number kept is_kept serves steady change own_is machine behind inside_is tables goes holding staged.0 staged.1
  staging (statement.Change change) (machine_of.Change machine) (machine_of.Insert behind) own_is inside_is holding goes staged = absurd staged
  staging (statement.Change change) (machine_of.Change machine) (machine_of.Select behind) own_is inside_is holding goes staged = absurd staged
  staging (statement.Change change) (machine_of.Insert machine) behind own_is inside_is holding goes staged = absurd staged
  staging (statement.Change change) (machine_of.Select machine) behind own_is inside_is holding goes staged = absurd staged
  staging (statement.Select select) machine behind own_is inside_is holding goes staged = absurd staged
  staging (statement.Insert insert) machine behind own_is inside_is holding goes staged = absurd staged
  staging statement.Begin machine behind own_is inside_is holding goes staged = absurd staged
  staging statement.Commit machine behind own_is inside_is holding goes staged = absurd staged
  staging statement.Rollback machine behind own_is inside_is holding goes staged = absurd staged

  pub nearer_step : (own : Statement) (machine behind : Machine) → statement_at script number (kept_session kept) ≡ Some (Ok own) →
      kept.place ≡ place_of.Inside machine → IsHoldingBy server.tables server.xacts own machine →
      GoesOn own server.xacts server.tables tables machine behind →
      HasReadOn script number world server
      (record server { tables = tables; sessions = slice_set server.sessions number (record kept { place = place_of.Inside behind }) })
  nearer_step own machine behind own_is inside_is holding goes = at goes.reached
    where
      at : HasRead server.tables tables machine behind ⊎ IsStaging own server.tables server.xacts machine behind tables →
          HasReadOn script number world server
          (record server { tables = tables; sessions = slice_set server.sessions number (record kept { place = place_of.Inside behind }) })
      at (inl read) = read_on script server world number kept is_kept serves steady own own_is machine inside_is behind tables goes read
      at (inr staged) = staging own machine behind own_is inside_is holding goes staged
