-- A step of a session, in the world that a legal journal leaves.
use Rattle.std.proofs.Common.{◌≡◌, ◌⊎◌, inl, inr, ℕ, Bool, true, false, List, [], ◌∷◌, length, Option, Some, None, option_map, slice_get, slice_set, arith, refl, sym, ap, ◌∙◌, subst}
use Rattle.std.specs.Prelude.{Result, Ok}
use Rattle.std.specs.Option.{option_map_or}
use Rattle.std.proofs.lemmas.Option.{slice_get_within}
use Rattle.pg_waits.specs.Slots.{wait_of}
use Rattle.pg_model.specs.declared.error.SqlError.{SqlError}
use Rattle.pg_model.specs.declared.journal.Entry.{Entry}
use Rattle.pg_model.specs.declared.journal.EntryAct.{EntryAct}
use Rattle.pg_model.specs.declared.journal.EntryAct.TheVariants as entry
use Rattle.pg_model.specs.declared.script.Script.{Script}
use Rattle.pg_model.specs.declared.statement.Change.{Change}
use Rattle.pg_model.specs.declared.statement.Statement.{Statement}
use Rattle.pg_model.specs.declared.statement.Statement.TheVariants as statement
use Rattle.pg_world.specs.Choosing.{Choice, does, fails, waits}
use Rattle.pg_world.specs.declared.session.Progress.TheVariants.{Closed as closed}
use Rattle.pg_world.specs.declared.session.SessionView.{SessionView}
use Rattle.pg_world.specs.Worlds.{World, until_end}
use Rattle.pg_relation.specs.Journals.{IsLegal, world_after}
use Rattle.pg_relation.specs.Lines.{statement_at}
use Rattle.pg_relation.specs.Moves.{moves_of, session_moves}
use Rattle.pg_relation.specs.Schedules.{is_closed}
use Rattle.pg_relation.specs.Sound.{IsSound}
use Rattle.pg_relation.specs.Stepped.{first_of_list}
use Rattle.pg_relation.proofs.First.{first_move, free_slot}
use Rattle.pg_relation.proofs.HeldFresh.{IsOrderly, orderly_after}
use Rattle.pg_relation.proofs.LockingKept.{IsSteady, steady_after}
use Rattle.pg_relation.proofs.Sound.{sound_after}
use Rattle.pg_scans.specs.Readings.{ReadingView}
use Rattle.pg_update.specs.Steps.{ChangeView, IsStaged, target_in}
use Rattle.pg_board.specs.declared.server.Server.{Server}
use Rattle.pg_board.specs.declared.session.Machine.{Machine}
use Rattle.pg_board.specs.declared.session.Machine.TheVariants as machine_of
use Rattle.pg_board.specs.declared.session.Place.{Place}
use Rattle.pg_board.specs.declared.session.Place.TheVariants as place_of
use Rattle.pg_board.specs.declared.session.Session.{Session}
use Rattle.pg_board.specs.Inside.{CanRunGiven, CanWait, HasStopped, IsInside, IsInsideStep, is_place_inside}
use Rattle.pg_board.specs.Kept.{CanMove, HasMovedOutside, outside_moves}
use Rattle.pg_board.specs.Machines.{IsPlanned, machine_choices}
use Rattle.pg_board.specs.Servers.{IsHoldingBy, IsOfKind, IsProgressOf, IsReady, IsReadingOf, IsRunningOf, IsServerOf, IsSessionOf, IsStagedBy, has_staged, kept_progress, kept_session, kept_world, reading_of, running_of}
use Rattle.pg_board.specs.Steps.{HasActed, HasReadOn, IsServing, IsStepIn, stands_at_end}
use Rattle.pg_board.proofs.Done.{blocked_step, fails_step, finished_step}
use Rattle.pg_board.proofs.Entries.{entry_step}
use Rattle.pg_board.proofs.Going.{Stands, choices_are, is_shown, stands}
use Rattle.pg_board.proofs.Nearer.{nearer_step}
use Rattle.pg_board.proofs.Outside.{outside_same, outside_step}
use Rattle.pg_board.proofs.Ready.{holding}
use Rattle.pg_board.proofs.Rooms.{shown_session, stands_for}
use Rattle.pg_board.proofs.Waiting.{waits_for_another}

module _ (script : Script) (server : Server) (number : ℕ) (kept : Session) (there : slice_get server.sessions number ≡ Some kept)
    (serving : IsServing script server) where
  abbrev world : World
  world = world_after script serving.journal

  orderly : IsOrderly script world
  orderly = orderly_after script serving.journal serving.legal

  -- its machine can make a step
  module _ (own : Statement) (own_is : statement_at script number (kept_session kept) ≡ Some (Ok own)) (machine : Machine)
      (inside_is : kept.place ≡ place_of.Inside machine) where
    abbrev stand : Stands script server world number kept there serving.serves orderly.steady own own_is machine inside_is
    stand = stands script server world number kept there serving.serves orderly.steady own own_is machine inside_is

    pub can_run : IsReady server.tables server.xacts own machine
    can_run = record {
      kind = stand.machine_is.kind;
      reading = reads (reading_of machine) stand.machine_is.running;
      holding = holds own machine own_is inside_is;
    }
      where
        reads : (reading : Option ReadingView) → IsRunningOf server.tables server.xacts own (running_of machine) reading stand.running →
            IsReadingOf server.tables server.xacts own (running_of machine) reading
        reads None r = tt
        reads (Some reading) r = r.reads

        holds : (one : Statement) (m : Machine) → statement_at script number (kept_session kept) ≡ Some (Ok one) → kept.place ≡ place_of.Inside m →
            IsHoldingBy server.tables server.xacts one m
        holds (statement.Change change) (machine_of.Change view) given inside =
            holding script server world serving.serves orderly number kept there change given view inside
        holds (statement.Change change) (machine_of.Insert view) given inside = tt
        holds (statement.Change change) (machine_of.Select view) given inside = tt
        holds (statement.Select select) m given inside = tt
        holds (statement.Insert insert) m given inside = tt
        holds statement.Begin m given inside = tt
        holds statement.Commit m given inside = tt
        holds statement.Rollback m given inside = tt

    -- where it has to wait, it can ask for the wait
    pub can_wait : wait_of server.waits number ≡ None → (other : ℕ) → IsPlanned machine →
        machine_choices own server.tables server.xacts machine ≡ waits other ∷ [] → CanWait server number (until_end other)
    can_wait free other planned only =
        let sound = sound_after script serving.journal serving.legal in
        let another =
        waits_for_another script serving.journal serving.legal number other (kept_session kept)
        (is_shown script server world number kept there serving.serves orderly.steady own own_is machine inside_is planned) own own_is (running_of machine)
        (ap kept_progress inside_is)
        (sym (choices_are script server world number kept there serving.serves orderly.steady own own_is machine inside_is planned) ∙ only) in
        let sessions = sound.sessions in
        let slots = sound.waits in
        let same = ap length serving.serves.waits in
        let count = serving.serves.count in
        let within = slice_get_within server.sessions number kept there in
        let least = another.0 in
        record {
          mine = omega (arith, sessions, slots, same, count, within);
          other = omega (arith, sessions, slots, same, least);
          free = ap (option_map (λ on. on.session)) free;
          apart = another.1;
          until_is = refl;
        }

  -- between statements it has a move
  module _ (free : wait_of server.waits number ≡ None) where
    abbrev shown : SessionView
    shown = (shown_session script server serving number kept there).0

    shown_there : slice_get world.sessions number ≡ Some shown
    shown_there = (shown_session script server serving number kept there).1

    is : IsSessionOf script server.tables server.xacts number kept shown
    is = stands_for script server serving number kept there

    abbrev given : Option (Result Statement SqlError)
    given = statement_at script number (kept_session kept)

    -- where it stands in the world as it is kept
    plain : (place : Place) → kept.place ≡ place → shown.progress ≡ kept_progress place → (shown.progress ≡ closed → ⊥) →
        session_moves script world number (kept_session kept) given (kept_progress place) ≡ outside_moves world (kept_session kept) given place →
        CanMove server kept given
    plain place e p unended same =
        let as_kept : shown ≡ kept_session kept = is.rest ∙ ap (λ q. record (kept_session kept) { progress = q }) (p ∙ sym (ap kept_progress e)) in
        let sound = sound_after script serving.journal serving.legal in
        let waiting : wait_of world.waits number ≡ None = ap (λ slots. wait_of slots number) (sym serving.serves.waits) ∙ free in
        let first = first_move script world number shown sound shown_there unended waiting in
        let slot = free_slot world.waits number
        (let within = slice_get_within world.sessions number shown shown_there in omega (arith, sound.sessions, sound.waits, within)) waiting in
        let moves : moves_of script world number ≡ outside_moves world (kept_session kept) given kept.place =
        rw (shown_there, as_kept, slot, e) same in
        record {
          act = first.act;
          first = ap first_of_list (outside_same (kept_world server) world serving.serves.transactions (kept_session kept) given kept.place ∙ sym moves) ∙ first.first;
        }

    pub can_move : stands_at_end server number ≡ false → is_place_inside kept.place ≡ false → CanMove server kept given
    can_move unended outside = go kept.place refl is.progress
      where
        not_closed : kept.place ≡ place_of.Closed → ⊥
        not_closed e =
            let h : is_closed (kept_progress kept.place) ≡ false = ap (λ o. option_map_or (λ s. is_closed (kept_progress s.place)) o false) (sym there) ∙ unended in
            let f : true ≡ false = ap (λ p. is_closed (kept_progress p)) (sym e) ∙ h in cc f

        go : (place : Place) → kept.place ≡ place → IsProgressOf server.tables server.xacts (statement_at script number shown) place shown.progress →
            CanMove server kept given
        go place_of.Idle e p = plain place_of.Idle e p (λ f. let g : kept_progress place_of.Idle ≡ closed = sym p ∙ f in cc g) refl
        go (place_of.Ending tag) e p = plain (place_of.Ending tag) e p (λ f. let g : kept_progress (place_of.Ending tag) ≡ closed = sym p ∙ f in cc g) refl
        go place_of.Closed e p = absurd (not_closed e)
        go (place_of.Inside machine) e p = absurd (let f : true ≡ false = ap is_place_inside (sym e) ∙ outside in cc f)

-- a session that does not wait has an empty slot in the world
slot_of : (script : Script) (server : Server) (world : World) (number : ℕ) (kept : Session) → slice_get server.sessions number ≡ Some kept →
    IsServerOf script server world → IsSound script world → wait_of server.waits number ≡ None → slice_get world.waits number ≡ Some None
slot_of script server world number kept there serves sound free =
    let sessions = sound.sessions in
    let slots = sound.waits in
    let count = serves.count in
    let within = slice_get_within server.sessions number kept there in
    free_slot world.waits number (omega (arith, sessions, slots, count, within)) (ap (λ slots. wait_of slots number) (sym serves.waits) ∙ free)

-- what the step of a session outside a statement comes to
pub outside_is_step : (script : Script) (server new : Server) (number : ℕ) (kept : Session) (act : EntryAct) →
    slice_get server.sessions number ≡ Some kept → wait_of server.waits number ≡ None →
    HasMovedOutside server new number (statement_at script number (kept_session kept)) kept act →
    (journal : List Entry) → IsLegal script journal → IsServerOf script server (world_after script journal) →
    IsStepIn script number (world_after script journal) server new (Some act)
outside_is_step script server new number kept act there free moved journal legal serves =
    outside_step script server new (world_after script journal) number kept there serves (steady_after script journal legal)
    (slot_of script server (world_after script journal) number kept there serves (sound_after script journal legal) free) act moved

-- and of one inside a statement
module _ (script : Script) (server new : Server) (number : ℕ) (kept : Session) (own : Statement)
    (there : slice_get server.sessions number ≡ Some kept) (free : wait_of server.waits number ≡ None)
    (own_is : statement_at script number (kept_session kept) ≡ Some (Ok own)) (journal : List Entry) (legal : IsLegal script journal)
    (serves : IsServerOf script server (world_after script journal)) where
  abbrev here : World
  here = world_after script journal

  steady : IsSteady script here
  steady = steady_after script journal legal

  slot : slice_get here.waits number ≡ Some None
  slot = slot_of script server here number kept there serves (sound_after script journal legal) free

  serving : IsServing script server
  serving = record { journal = journal; legal = legal; serves = serves }

  ready : (machine : Machine) → kept.place ≡ place_of.Inside machine → IsReady server.tables server.xacts own machine
  ready machine inside_is = can_run script server number kept there serving own own_is machine inside_is

  stood : (machine : Machine) (inside_is : kept.place ≡ place_of.Inside machine) → Stands script server here number kept there serves steady own own_is machine inside_is
  stood machine inside_is = stands script server here number kept there serves steady own own_is machine inside_is

  -- a machine whose only choice is not to write new values has staged none
  off_by : (machine : Machine) (inside_is : kept.place ≡ place_of.Inside machine) (given : List Choice) →
      machine_choices own server.tables server.xacts machine ≡ given →
      ((table row : ℕ) → given ≡ does (entry.Updated table row) ∷ [] → ⊥) → has_staged machine ≡ false
  off_by machine inside_is given only not_written = at own machine (stood machine inside_is).machine_is.kind (stood machine inside_is).machine_is.staged only
    where
      by : (change : Change) (view : ChangeView) (b : Bool) → view.staged ≡ b → (view.staged ≡ true → IsStaged change server.tables server.xacts view.running) →
          machine_choices (statement.Change change) server.tables server.xacts (machine_of.Change view) ≡ given → b ≡ false
      by change view false staged_is staged only = refl
      by change view true staged_is staged only =
          absurd (not_written change.target.table (target_in view.running) (sym only ∙ (staged staged_is).choice))

      at : (one : Statement) (m : Machine) → IsOfKind m one → IsStagedBy server.tables server.xacts one m →
          machine_choices one server.tables server.xacts m ≡ given → has_staged m ≡ false
      at one (machine_of.Insert view) kind staged only = refl
      at one (machine_of.Select view) kind staged only = refl
      at (statement.Change change) (machine_of.Change view) kind staged only = by change view view.staged refl staged only
      at (statement.Select select) (machine_of.Change view) kind staged only = absurd kind
      at (statement.Insert insert) (machine_of.Change view) kind staged only = absurd kind
      at statement.Begin (machine_of.Change view) kind staged only = absurd kind
      at statement.Commit (machine_of.Change view) kind staged only = absurd kind
      at statement.Rollback (machine_of.Change view) kind staged only = absurd kind

  stopped : (act : EntryAct) → HasStopped script server new number own kept act → IsStepIn script number here server new (Some act)
  stopped act (inl done) =
      subst (λ s. HasActed script number here server s act) (sym done.new_is)
      (finished_step script server here number kept there serves steady own own_is done.machine done.inside done.planned
      (off_by done.machine done.inside [] done.done (λ table row e. cc e)) slot act done.done done.first)
  stopped act (inr (inl failed)) =
      subst (λ a. HasActed script number here server new a) (sym failed.act_is)
      (subst (λ s. HasActed script number here server s (entry.Failed failed.error)) (sym failed.new_is)
      (fails_step script server here number kept there serves steady own own_is failed.machine failed.inside failed.planned
      (off_by failed.machine failed.inside (fails failed.error ∷ []) failed.choice (λ table row e. cc e)) slot failed.error failed.choice))
  stopped act (inr (inr blocked)) =
      subst (λ s. HasActed script number here server s act) (sym blocked.new_is)
      (blocked_step script server here number kept there serves steady own own_is blocked.machine blocked.inside blocked.planned
      (off_by blocked.machine blocked.inside (waits blocked.other ∷ []) blocked.choice (λ table row e. cc e)) slot blocked.other act blocked.choice blocked.act_is)

  pub inside_is_step : (acted : Option EntryAct) → IsInsideStep script server new number own kept acted → IsStepIn script number here server new acted
  inside_is_step None ran =
      subst (λ s. HasReadOn script number here server s) (sym ran.new_is)
      (nearer_step script server here number kept there serves steady new.tables own ran.machine ran.behind own_is ran.inside
      (ready ran.machine ran.inside).holding ran.step)
  inside_is_step (Some act) (inl ran) =
      subst (λ s. HasActed script number here server s act) (sym ran.new_is)
      (entry_step script server here number kept there serves steady slot own ran.machine own_is ran.inside
      (stood ran.machine ran.inside).machine_is.kind (stood ran.machine ran.inside).machine_is.staged (ready ran.machine ran.inside).holding
      ran.behind new.tables act ran.step)
  inside_is_step (Some act) (inr has_stopped) = stopped act has_stopped

-- a session inside a statement is so inside one of its lines
module _ (script : Script) (server : Server) (number : ℕ) (kept : Session) (there : slice_get server.sessions number ≡ Some kept)
    (serving : IsServing script server) (free : wait_of server.waits number ≡ None) (inside_is : is_place_inside kept.place ≡ true) where
  pub inside_statement : (own : Statement) × (statement_at script number (kept_session kept) ≡ Some (Ok own))
  inside_statement = at kept.place refl (stands_for script server serving number kept there).progress
    where
      at : (place : Place) → kept.place ≡ place →
          IsProgressOf server.tables server.xacts (statement_at script number (shown_session script server serving number kept there).0) place
          (shown_session script server serving number kept there).0.progress →
          (own : Statement) × (statement_at script number (kept_session kept) ≡ Some (Ok own))
      at place_of.Idle e p = absurd (let f : false ≡ true = ap is_place_inside (sym e) ∙ inside_is in cc f)
      at (place_of.Ending tag) e p = absurd (let f : false ≡ true = ap is_place_inside (sym e) ∙ inside_is in cc f)
      at place_of.Closed e p = absurd (let f : false ≡ true = ap is_place_inside (sym e) ∙ inside_is in cc f)
      at (place_of.Inside machine) e p =
          (p.0, sym (ap (statement_at script number) ((stands_for script server serving number kept there).rest)) ∙ p.1)

  pub place_inside : IsInside kept.place
  place_inside = at kept.place inside_is
    where
      at : (place : Place) → is_place_inside place ≡ true → IsInside place
      at place_of.Idle e = absurd (cc e)
      at (place_of.Ending tag) e = absurd (cc e)
      at place_of.Closed e = absurd (cc e)
      at (place_of.Inside machine) e = tt

  -- its machine can make a step for what is given
  pub can_run_given : (given : Option (Result Statement SqlError)) → given ≡ statement_at script number (kept_session kept) →
      CanRunGiven server number given
  can_run_given given given_is = record {
    gives = (inside_statement.0, given_is ∙ inside_statement.1);
    inside = λ session one.
        let same : kept ≡ session = let e : Some kept ≡ Some session = sym there ∙ one in cc e in
        subst (λ (s : Session). IsInside s.place) same place_inside;
    runs = λ session machine one inside.
        let same : kept ≡ session = let e : Some kept ≡ Some session = sym there ∙ one in cc e in
        can_run script server number kept there serving inside_statement.0 inside_statement.1 machine (ap (λ s. s.place) same ∙ inside);
    waits = λ session machine other one inside planned only.
        let same : kept ≡ session = let e : Some kept ≡ Some session = sym there ∙ one in cc e in
        can_wait script server number kept there serving inside_statement.0 inside_statement.1 machine (ap (λ s. s.place) same ∙ inside) free other planned only;
  }
