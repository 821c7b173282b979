-- What the parts of a step come to, for the session that was found.
use Rattle.std.proofs.Common.{◌≡◌, ◌<◌, inl, inr, ℕ, Bool, true, false, List, Option, Some, None, length, slice_get, refl, sym, ap, ◌∙◌, subst}
use Rattle.std.specs.Prelude.{IfOk, Result, Ok, Err}
use Rattle.std.specs.Option.{option_map_or}
use Rattle.pg_waits.specs.Chains.{ring_of}
use Rattle.pg_waits.specs.Slots.{wait_of}
use Rattle.pg_xacts.specs.declared.on.On.{On}
use Rattle.pg_xacts.specs.Snapshots.{WasTakenOf, snapshot_of}
use Rattle.pg_model.specs.declared.error.SqlError.{SqlError}
use Rattle.pg_model.specs.declared.journal.Entry.{Entry}
use Rattle.pg_model.specs.declared.journal.EntryAct.{EntryAct}
use Rattle.pg_model.specs.declared.journal.EntryAct.TheVariants as entry
use Rattle.pg_model.specs.declared.journal.Reply.{Reply}
use Rattle.pg_model.specs.declared.script.Script.{Script}
use Rattle.pg_model.specs.declared.statement.Statement.{Statement}
use Rattle.pg_world.specs.declared.session.Block.{Block}
use Rattle.pg_world.specs.declared.session.Block.TheVariants.{NoBlock as no_block, OpenBlock as open_block, FailedBlock as failed_block}
use Rattle.pg_world.specs.Replies.{reply_of}
use Rattle.pg_plans.specs.declared.act.Act.TheVariants as answer
use Rattle.pg_relation.specs.Journals.{IsLegal, world_after}
use Rattle.pg_relation.specs.Lines.{statement_at}
use Rattle.pg_relation.specs.Moves.{done_moves, waiting_act}
use Rattle.pg_relation.specs.Stepped.{first_of_list}
use Rattle.pg_relation.proofs.Lists.{slice_get_some}
use Rattle.pg_board.specs.declared.server.Server.{Server}
use Rattle.pg_board.specs.declared.session.Machine.{Machine}
use Rattle.pg_board.specs.declared.session.Place.TheVariants as place_of
use Rattle.pg_board.specs.declared.session.Session.{Session}
use Rattle.pg_board.specs.Inside.{CanRunAt, CanRunGiven, CanWait, CanWaitAt, HasRun, IsInsideStep, commits_first, is_place_inside}
use Rattle.pg_board.specs.Kept.{CanMove, HasMovedOutside, act_kept, at_kept, outside_moves, server_failed}
use Rattle.pg_board.specs.Machines.{IsPlanned}
use Rattle.pg_board.specs.Servers.{IsOfKind, IsServerOf, kept_session, kept_world, running_of}
use Rattle.pg_board.specs.Steps.{IsServing, IsStepIn, stands_at_end}
use Rattle.pg_board.proofs.Stepping.{can_move, can_run_given, inside_is_step, outside_is_step}

-- the session that is found twice is one
same_found : {X : Type 0} (xs : List X) (i : ℕ) (x y : X) → slice_get xs i ≡ Some x → slice_get xs i ≡ Some y → x ≡ y
same_found xs i x y one other = let e : Some x ≡ Some y = sym one ∙ other in cc e

-- what is made for the session that is there
at_found : (server : Server) (number : ℕ) (make : Session → Server) (session : Session) → slice_get server.sessions number ≡ Some session →
    at_kept server number make ≡ make session
at_found server number make session there = ap (λ o. option_map_or make o server) there

-- a statement that does not commit first is answered
pub done_replied : (block : Block) (transaction : Option ℕ) (reply : Reply) → commits_first block transaction ≡ false →
    first_of_list (done_moves block transaction reply) ≡ Some (entry.Replied reply)
done_replied no_block None reply is = refl
done_replied no_block (Some xact) reply is = absurd (cc is)
done_replied open_block transaction reply is = refl
done_replied failed_block transaction reply is = refl

-- a session that can move has a move
pub moves_on : (server : Server) (session : Session) (given : Option (Result Statement SqlError)) → CanMove server session given →
    first_of_list (outside_moves (kept_world server) (kept_session session) given session.place) ≡ None → ⊥
moves_on server session given can none = let e : None ≡ Some can.act = sym none ∙ can.first in cc e

-- it has made the first of them
pub moved_outside : (old new : Server) (number : ℕ) (given : Option (Result Statement SqlError)) (kept : Session) (act : EntryAct) →
    first_of_list (outside_moves (kept_world old) (kept_session kept) given kept.place) ≡ Some act →
    slice_get old.sessions number ≡ Some kept → new ≡ at_kept old number (λ session. act_kept old number given session act) →
    ((commits : ℕ) (own : Statement) → act ≡ entry.Snapped commits → given ≡ Some (Ok own) → WasTakenOf old.xacts (snapshot_of old.xacts)) →
    (session : Session) → slice_get old.sessions number ≡ Some session → HasMovedOutside old new number given session act
moved_outside old new number given kept act first there is taken session one =
    subst (λ s. HasMovedOutside old new number given s act) (same_found old.sessions number kept session there one)
    (record { first = first; new_is = is ∙ at_found old number (λ session. act_kept old number given session act) kept there; taken = taken })

-- a session that can run what is given can run that statement
pub run_given : (server : Server) (number : ℕ) (given : Option (Result Statement SqlError)) (own : Statement) → CanRunGiven server number given →
    given ≡ Some (Ok own) → CanRunAt server number own
run_given server number given own can is =
    subst (λ s. CanRunAt server number s)
    (let e : Some (Ok can.gives.0) ≡ Some (Ok own) = sym can.gives.1 ∙ is in cc e) can.runs

-- and can wait for what it has to wait for
pub wait_given : (server : Server) (number : ℕ) (given : Option (Result Statement SqlError)) (own : Statement) → CanRunGiven server number given →
    given ≡ Some (Ok own) → CanWaitAt server number own
wait_given server number given own can is =
    subst (λ s. CanWaitAt server number s)
    (let e : Some (Ok can.gives.0) ≡ Some (Ok own) = sym can.gives.1 ∙ is in cc e) can.waits

-- the wait that a machine asks for can begin
pub blocked_can : (old new : Server) (number : ℕ) (own : Statement) (on : On) →
    ((session : Session) → slice_get old.sessions number ≡ Some session → HasRun old new number own session (answer.Blocked on)) → new ≡ old →
    CanWaitAt old number own → number < length old.sessions → CanWait new number on
blocked_can old new number own on ran same can within =
    let session = slice_get_some old.sessions number within in
    let run = ran session.0 session.1 in
    subst (λ s. CanWait s number on) (sym same)
    (subst (λ o. CanWait old number o) (sym run.step.4) (can session.0 run.machine on.session session.1 run.inside run.step.2 run.step.3))

-- a statement waits, or has failed with the cycle
pub blocked_is : (script : Script) (old new behind : Server) (number : ℕ) (own : Statement) (on : On) (act : EntryAct) →
    ((session : Session) → slice_get old.sessions number ≡ Some session → HasRun old new number own session (answer.Blocked on)) → new ≡ old →
    act ≡ waiting_act script on.session (ring_of new.waits number on.session) →
    ((given : Option (Result Statement SqlError)) → behind ≡ at_kept new number (λ session. act_kept new number given session act)) →
    (session : Session) → slice_get old.sessions number ≡ Some session → IsInsideStep script old behind number own session (Some act)
blocked_is script old new behind number own on act ran same act_is is session there =
    let run = ran session there in
    inr (inr (inr (record {
      machine = run.machine;
      other = on.session;
      inside = run.inside;
      planned = run.step.2;
      choice = run.step.3;
      act_is = act_is ∙ ap (λ s. waiting_act script on.session (ring_of s.waits number on.session)) same;
      new_is = is (Some (Ok own)) ∙ ap (λ s. at_kept s number (λ session. act_kept s number (Some (Ok own)) session act)) same
          ∙ at_found old number (λ session. act_kept old number (Some (Ok own)) session act) session there;
    })))

-- a machine that is done has its candidates
pub done_planned : (old new : Server) (number : ℕ) (own : Statement) →
    ((session : Session) → slice_get old.sessions number ≡ Some session → HasRun old new number own session answer.Done) → new ≡ old →
    CanRunAt old number own → (session : Session) (machine : Machine) → slice_get new.sessions number ≡ Some session →
    session.place ≡ place_of.Inside machine → IsOfKind machine own × IsPlanned machine
done_planned old new number own ran same can session machine there inside =
    let one : slice_get old.sessions number ≡ Some session = ap (λ s. slice_get s.sessions number) (sym same) ∙ there in
    let run = ran session one in
    let machines : run.machine ≡ machine = let e : place_of.Inside run.machine ≡ place_of.Inside machine = sym run.inside ∙ inside in cc e in
    ((can session machine one inside).kind, subst (λ m. IsPlanned m) machines run.step.2)

-- a statement has failed
pub failed_is : (script : Script) (old new behind : Server) (number : ℕ) (own : Statement) (error : SqlError) →
    ((session : Session) → slice_get old.sessions number ≡ Some session → HasRun old new number own session (answer.Failed error)) → new ≡ old →
    behind ≡ at_kept new number (λ session. server_failed new number session) →
    (session : Session) → slice_get old.sessions number ≡ Some session → IsInsideStep script old behind number own session (Some (entry.Failed error))
failed_is script old new behind number own error ran same is session there =
    let run = ran session there in
    inr (inr (inl (record {
      machine = run.machine;
      error = error;
      inside = run.inside;
      planned = run.step.2;
      choice = run.step.3;
      act_is = refl;
      new_is = is ∙ ap (λ s. at_kept s number (λ session. server_failed s number session)) same
          ∙ at_found old number (λ session. server_failed old number session) session there;
    })))

-- a statement is done
pub finished_is : (script : Script) (old new behind : Server) (number : ℕ) (own : Statement) (act : EntryAct) →
    ((session : Session) → slice_get old.sessions number ≡ Some session → HasRun old new number own session answer.Done) → new ≡ old →
    ((session : Session) (machine : Machine) → slice_get new.sessions number ≡ Some session → session.place ≡ place_of.Inside machine →
    (first_of_list (done_moves session.block session.transaction (reply_of own (running_of machine))) ≡ Some act)
    × (behind ≡ act_kept new number (Some (Ok own)) session act)) →
    (session : Session) → slice_get old.sessions number ≡ Some session → IsInsideStep script old behind number own session (Some act)
finished_is script old new behind number own act ran same ends session there =
    let run = ran session there in
    let end = ends session run.machine (ap (λ s. slice_get s.sessions number) same ∙ there) run.inside in
    inr (inl (record {
      machine = run.machine;
      inside = run.inside;
      planned = run.step.2;
      done = run.step.3;
      first = end.0;
      new_is = end.1 ∙ ap (λ s. act_kept s number (Some (Ok own)) session act) same;
    }))

-- a step of the session of a number, by what it is given
module _ (script : Script) (server : Server) (number : ℕ) (given : Option (Result Statement SqlError)) (serving : IsServing script server)
    (within : number < length server.sessions) (free : wait_of server.waits number ≡ None)
    (given_is : (session : Session) → slice_get server.sessions number ≡ Some session → given ≡ statement_at script number (kept_session session))
    (snapshot : Bool)
    (snapshot_is : (session : Session) → slice_get server.sessions number ≡ Some session → snapshot ≡ is_place_inside session.place) where
  abbrev kept : Session
  kept = (slice_get_some server.sessions number within).0

  there : slice_get server.sessions number ≡ Some kept
  there = (slice_get_some server.sessions number within).1

  pub runs_given : snapshot ≡ true → CanRunGiven server number given
  runs_given is = can_run_given script server number kept there serving free (sym (snapshot_is kept there) ∙ is) given (given_is kept there)

  pub moves_given : snapshot ≡ false → stands_at_end server number ≡ false →
      (session : Session) → slice_get server.sessions number ≡ Some session → CanMove server session given
  moves_given is unended session one =
      subst (λ g. CanMove server session g) (sym (given_is session one))
      (can_move script server number session one serving free unended (sym (snapshot_is session one) ∙ is))

  pub statement_step : (new : Server) (acted : Option EntryAct) → snapshot ≡ true →
      ((session : Session) (own : Statement) → slice_get server.sessions number ≡ Some session → given ≡ Some (Ok own) →
      IsInsideStep script server new number own session acted) →
      (journal : List Entry) → IsLegal script journal → IsServerOf script server (world_after script journal) →
      IsStepIn script number (world_after script journal) server new acted
  statement_step new acted is stepped journal legal serves =
      let can = runs_given is in
      inside_is_step script server new number kept can.gives.0 there free (sym (given_is kept there) ∙ can.gives.1) journal legal serves acted
      (stepped kept can.gives.0 there can.gives.1)

  pub statement_steps : {E : Type 0} (result : Result (Option EntryAct) E) (new : Server) → snapshot ≡ true →
      IfOk result (λ acted. (session : Session) (own : Statement) → slice_get server.sessions number ≡ Some session → given ≡ Some (Ok own) →
      IsInsideStep script server new number own session acted) →
      IfOk result (λ acted. (journal : List Entry) → IsLegal script journal → IsServerOf script server (world_after script journal) →
      IsStepIn script number (world_after script journal) server new acted)
  statement_steps (Ok acted) new is stepped = statement_step new acted is stepped
  statement_steps (Err error) new is stepped = tt

  pub outside_given : (new : Server) (act : EntryAct) →
      ((session : Session) → slice_get server.sessions number ≡ Some session → HasMovedOutside server new number given session act) →
      (journal : List Entry) → IsLegal script journal → IsServerOf script server (world_after script journal) →
      IsStepIn script number (world_after script journal) server new (Some act)
  outside_given new act moved journal legal serves =
      outside_is_step script server new number kept act there free
      (subst (λ g. HasMovedOutside server new number g kept act) (given_is kept there) (moved kept there)) journal legal serves
