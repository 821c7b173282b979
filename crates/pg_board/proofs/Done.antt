-- A statement that is done, fails, or has to wait.
use Rattle.std.proofs.Common.{◌≡◌, ◌+◌, ℕ, false, List, [], ◌∷◌, map, Option, Some, None, slice_get, refl, sym, ap, ◌∙◌, subst}
use Rattle.std.specs.Prelude.{Ok}
use Rattle.pg_waits.specs.Chains.{ring_of}
use Rattle.pg_model.specs.Printed.{session_name}
use Rattle.pg_model.specs.declared.error.SqlError.{SqlError}
use Rattle.pg_model.specs.declared.error.SqlError.TheVariants.{Deadlock}
use Rattle.pg_model.specs.declared.journal.EntryAct.{EntryAct}
use Rattle.pg_model.specs.declared.journal.EntryAct.TheVariants as entry
use Rattle.pg_model.specs.declared.journal.Reply.{Reply}
use Rattle.pg_model.specs.declared.script.Script.{Script}
use Rattle.pg_model.specs.declared.statement.Statement.{Statement}
use Rattle.pg_world.specs.Choosing.{fails, waits}
use Rattle.pg_world.specs.Replies.{reply_of}
use Rattle.pg_world.specs.Tables.{commit, rollback}
use Rattle.pg_world.specs.declared.session.Block.{Block}
use Rattle.pg_world.specs.declared.session.Block.TheVariants.{NoBlock as no_block, OpenBlock as open_block, FailedBlock as failed_block}
use Rattle.pg_world.specs.Worlds.{World, until_end}
use Rattle.pg_relation.specs.Effect.{act_effect}
use Rattle.pg_relation.specs.Lines.{statement_at}
use Rattle.pg_relation.specs.Moves.{done_moves, moves_of, waiting_act}
use Rattle.pg_relation.specs.Stepped.{first_of_list}
use Rattle.pg_relation.proofs.LockingKept.{IsSteady}
use Rattle.pg_board.specs.Counts.{HasFew}
use Rattle.pg_board.specs.declared.server.Server.{Server}
use Rattle.pg_board.specs.declared.session.Machine.{Machine}
use Rattle.pg_board.specs.declared.session.Place.TheVariants as place_of
use Rattle.pg_board.specs.declared.session.Session.{Session}
use Rattle.pg_board.specs.Kept.{act_kept}
use Rattle.pg_board.specs.Machines.{IsPlanned, machine_choices}
use Rattle.pg_board.specs.Servers.{IsOfKind, IsServerOf, has_staged, kept_session, running_of}
use Rattle.pg_board.specs.Steps.{HasActed}
use Rattle.pg_board.proofs.Acts.{committed, failed, replied, waited}
use Rattle.pg_board.proofs.FewKept.{few_committed, few_failed, few_replied, few_waited}
use Rattle.pg_board.proofs.Going.{choices_are, effect_is, first_chosen, first_done, is_shown, stands, stay}

module _ (script : Script) (server : Server) (world : World) (number : ℕ) (kept : Session)
    (is_kept : slice_get server.sessions number ≡ Some kept) (serves : IsServerOf script server world) (steady : IsSteady script world)
    (own : Statement) (own_is : statement_at script number (kept_session kept) ≡ Some (Ok own))
    (machine : Machine) (inside_is : kept.place ≡ place_of.Inside machine) (planned : IsPlanned machine) (off : has_staged machine ≡ false)
    (free : slice_get world.waits number ≡ Some None) where
  unstaged : (one : Machine) → kept.place ≡ place_of.Inside one → has_staged one ≡ false
  unstaged one is =
      let e : place_of.Inside machine ≡ place_of.Inside one = sym inside_is ∙ is in
      let f : machine ≡ one = cc e in
      ap has_staged (sym f) ∙ off

  shown_there : slice_get world.sessions number ≡ Some (kept_session kept)
  shown_there = is_shown script server world number kept is_kept serves steady own own_is machine inside_is planned

  -- what an act makes of the server, it makes of the world
  acted : (act : EntryAct) → first_of_list (moves_of script world number) ≡ Some act →
      IsServerOf script (act_kept server number (Some (Ok own)) kept act) (act_effect world number (Some (Ok own)) (kept_session kept) act) →
      ((most : ℕ) → HasFew most server → HasFew (most + 1) (act_kept server number (Some (Ok own)) kept act)) →
      HasActed script number world server (act_kept server number (Some (Ok own)) kept act) act
  acted act first lifts few = record {
    first = first;
    serves = subst (λ w. IsServerOf script (act_kept server number (Some (Ok own)) kept act) w)
        (sym (effect_is script server world number kept is_kept serves steady own own_is machine inside_is planned act)) lifts;
    few = few;
  }

  -- it fails
  pub failed_step : (error : SqlError) → first_of_list (moves_of script world number) ≡ Some (entry.Failed error) →
      HasActed script number world server (act_kept server number (Some (Ok own)) kept (entry.Failed error)) (entry.Failed error)
  failed_step error first =
      acted (entry.Failed error) first
      (failed script server world number kept is_kept shown_there serves steady.stable unstaged
      (stay script server world number kept is_kept serves steady own own_is machine inside_is planned (entry.Failed error) first))
      (few_failed server number kept is_kept)

  pub fails_step : (error : SqlError) → machine_choices own server.tables server.xacts machine ≡ fails error ∷ [] →
      HasActed script number world server (act_kept server number (Some (Ok own)) kept (entry.Failed error)) (entry.Failed error)
  fails_step error only =
      failed_step error
      (first_chosen script server world number kept is_kept serves steady own own_is machine inside_is planned free (fails error)
      (sym (choices_are script server world number kept is_kept serves steady own own_is machine inside_is planned) ∙ only))

  -- it is done
  answered : (act : EntryAct) (reply : Reply) → entry.Replied reply ≡ act → first_of_list (moves_of script world number) ≡ Some act →
      HasActed script number world server (act_kept server number (Some (Ok own)) kept act) act
  answered act reply e first =
      acted act first
      (subst (λ a. IsServerOf script (act_kept server number (Some (Ok own)) kept a) (act_effect world number (Some (Ok own)) (kept_session kept) a)) e
      (replied script server world number kept is_kept shown_there serves steady.stable unstaged reply.tag))
      (subst (λ a. (most : ℕ) → HasFew most server → HasFew (most + 1) (act_kept server number (Some (Ok own)) kept a)) e
      (few_replied server number kept is_kept reply.tag))

  finished : (act : EntryAct) (block : Block) (transaction : Option ℕ) (reply : Reply) →
      first_of_list (done_moves block transaction reply) ≡ Some act → first_of_list (moves_of script world number) ≡ Some act →
      HasActed script number world server (act_kept server number (Some (Ok own)) kept act) act
  finished act no_block (Some xact) reply is first =
      let e : entry.Committed ≡ act = cc is in
      subst (λ a. HasActed script number world server (act_kept server number (Some (Ok own)) kept a) a) e
      (acted entry.Committed (first ∙ ap Some (sym e))
      (committed script server world number kept is_kept shown_there serves steady.stable unstaged
      (λ one at. let same : machine ≡ one = let f : place_of.Inside machine ≡ place_of.Inside one = sym inside_is ∙ at in cc f in (
        own,
        own_is,
        subst (λ m. IsOfKind m own) same (stands script server world number kept is_kept serves steady own own_is machine inside_is).machine_is.kind,
        subst (λ m. IsPlanned m) same planned,
      ))
      (stay script server world number kept is_kept serves steady own own_is machine inside_is planned entry.Committed (first ∙ ap Some (sym e))))
      (few_committed server number kept is_kept))
  finished act no_block None reply is first = answered act reply (cc is) first
  finished act open_block transaction reply is first = answered act reply (cc is) first
  finished act failed_block transaction reply is first = answered act reply (cc is) first

  pub finished_step : (act : EntryAct) → machine_choices own server.tables server.xacts machine ≡ [] →
      first_of_list (done_moves kept.block kept.transaction (reply_of own (running_of machine))) ≡ Some act →
      HasActed script number world server (act_kept server number (Some (Ok own)) kept act) act
  finished_step act none first =
      finished act kept.block kept.transaction (reply_of own (running_of machine)) first
      (first_done script server world number kept is_kept serves steady own own_is machine inside_is planned free act
      (sym (choices_are script server world number kept is_kept serves steady own own_is machine inside_is planned) ∙ none) first)

  -- it has to wait for a session
  pub blocked_step : (other : ℕ) (act : EntryAct) → machine_choices own server.tables server.xacts machine ≡ waits other ∷ [] →
      act ≡ waiting_act script other (ring_of server.waits number other) →
      HasActed script number world server (act_kept server number (Some (Ok own)) kept act) act
  blocked_step other act only act_is = at (ring_of world.waits number other) refl
    where
      first : first_of_list (moves_of script world number) ≡ Some (waiting_act script other (ring_of world.waits number other))
      first =
          first_chosen script server world number kept is_kept serves steady own own_is machine inside_is planned free (waits other)
          (sym (choices_are script server world number kept is_kept serves steady own own_is machine inside_is planned) ∙ only)

      act_in_world : act ≡ waiting_act script other (ring_of world.waits number other)
      act_in_world = act_is ∙ ap (λ slots. waiting_act script other (ring_of slots number other)) serves.waits

      at : (ring : Option (List ℕ)) → ring_of world.waits number other ≡ ring →
          HasActed script number world server (act_kept server number (Some (Ok own)) kept act) act
      at None is =
          let e : act ≡ entry.Waits other = act_in_world ∙ ap (waiting_act script other) is in
          subst (λ a. HasActed script number world server (act_kept server number (Some (Ok own)) kept a) a) (sym e)
          (acted (entry.Waits other) (first ∙ ap (λ r. Some (waiting_act script other r)) is)
          (waited script server world number kept is_kept shown_there serves steady.stable unstaged other)
          (few_waited server number other))
      at (Some ring) is =
          let error : SqlError = Deadlock (map (session_name script) ring) in
          let e : act ≡ entry.Failed error = act_in_world ∙ ap (waiting_act script other) is in
          subst (λ a. HasActed script number world server (act_kept server number (Some (Ok own)) kept a) a) (sym e)
          (failed_step error (first ∙ ap (λ r. Some (waiting_act script other r)) is))
