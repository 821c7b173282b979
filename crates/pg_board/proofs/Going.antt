-- A session inside a statement, in the world that its server stands for: where its machine holds its candidates, what it may do next.
use Rattle.std.proofs.Common.{◌≡◌, ◌⊎◌, inl, inr, ℕ, List, [], ◌∷◌, map, Option, Some, None, slice_get, refl, sym, ap, ◌∙◌, subst}
use Rattle.std.specs.Prelude.{Result, Ok}
use Rattle.pg_model.specs.declared.journal.Entry.{Entry}
use Rattle.pg_model.specs.declared.journal.EntryAct.{EntryAct}
use Rattle.pg_model.specs.declared.script.Script.{Script}
use Rattle.pg_model.specs.declared.statement.Statement.{Statement}
use Rattle.pg_world.specs.Changes.{row_at, table_at}
use Rattle.pg_world.specs.Choices.{choices}
use Rattle.pg_world.specs.Choosing.{Choice}
use Rattle.pg_world.specs.Replies.{reply_of}
use Rattle.pg_world.specs.declared.session.Progress.TheVariants.{Inside as inside}
use Rattle.pg_world.specs.declared.session.Running.{Running}
use Rattle.pg_world.specs.declared.session.SessionView.{SessionView}
use Rattle.pg_world.specs.Worlds.{World}
use Rattle.pg_relation.specs.Effect.{act_effect, effect}
use Rattle.pg_relation.specs.Lines.{statement_at}
use Rattle.pg_relation.specs.Moves.{act_of, chosen_or_done, done_moves, moves_of}
use Rattle.pg_relation.specs.Stepped.{first_of_list}
use Rattle.pg_relation.proofs.HeldStays.{held_stays}
use Rattle.pg_relation.proofs.Journals.{first_contained}
use Rattle.pg_relation.proofs.LockingKept.{IsSteady}
use Rattle.pg_scans.specs.Readings.{ReadingView}
use Rattle.pg_table.specs.States.{table_shown}
use Rattle.pg_board.specs.declared.server.Server.{Server}
use Rattle.pg_board.specs.declared.session.Machine.{Machine}
use Rattle.pg_board.specs.declared.session.Place.{Place}
use Rattle.pg_board.specs.declared.session.Place.TheVariants as place_of
use Rattle.pg_board.specs.declared.session.Session.{Session}
use Rattle.pg_board.specs.Machines.{IsPlanned, machine_choices}
use Rattle.pg_board.specs.Servers.{IsMachineOf, IsProgressOf, IsRunningOf, IsServerOf, IsSessionOf, kept_progress, kept_session, reading_of, running_of}
use Rattle.pg_board.proofs.Lifting.{HoldsStay}
use Rattle.pg_board.proofs.Rooms.{pair_of}

module _ (script : Script) (server : Server) (world : World) (number : ℕ) (kept : Session)
    (is_kept : slice_get server.sessions number ≡ Some kept) (serves : IsServerOf script server world) (steady : IsSteady script world)
    (own : Statement) (own_is : statement_at script number (kept_session kept) ≡ Some (Ok own))
    (machine : Machine) (inside_is : kept.place ≡ place_of.Inside machine) where
  abbrev pub shown : SessionView
  shown = (pair_of server.sessions world.sessions number kept serves.count is_kept).0

  pub there : slice_get world.sessions number ≡ Some shown
  there = (pair_of server.sessions world.sessions number kept serves.count is_kept).1

  pub session_is : IsSessionOf script server.tables server.xacts number kept shown
  session_is = serves.each number kept shown is_kept there

  -- how far its statement has come in the world
  pub record Stands : Type 0 where
    pub running : Running
    pub progress : shown.progress ≡ inside running
    pub machine_is : IsMachineOf server.tables server.xacts own machine running

  pub stands : Stands
  stands = at kept.place inside_is session_is.progress
    where
      at : (place : Place) → place ≡ place_of.Inside machine →
          IsProgressOf server.tables server.xacts (statement_at script number shown) place shown.progress → Stands
      at place_of.Idle e p = absurd (cc e)
      at (place_of.Ending tag) e p = absurd (cc e)
      at place_of.Closed e p = absurd (cc e)
      at (place_of.Inside one) e p =
          let same : one ≡ machine = cc e in
          let given : statement_at script number shown ≡ Some (Ok own) = rw session_is.rest own_is in
          let both : Some (Ok p.0) ≡ Some (Ok own) = sym p.1 ∙ given in
          let statements : p.0 ≡ own = cc both in
          record {
            running = p.2;
            progress = p.3;
            machine_is = subst (λ m. IsMachineOf server.tables server.xacts own m p.2) same
                (subst (λ s. IsMachineOf server.tables server.xacts s one p.2) statements p.4);
          }

  -- where its machine holds its candidates, it stands in the world as it is kept
  module _ (planned : IsPlanned machine) where
    abbrev pub running : Running
    running = running_of machine

    as_kept : stands.running ≡ running
    as_kept = at (reading_of machine) planned stands.machine_is.running
      where
        at : (reading : Option ReadingView) → reading ≡ None →
            IsRunningOf server.tables server.xacts own running reading stands.running → stands.running ≡ running
        at None e r = r
        at (Some one) e r = absurd (cc e)

    pub shown_is : shown ≡ kept_session kept
    shown_is =
        session_is.rest ∙ ap (λ p. record (kept_session kept) { progress = p })
        (stands.progress ∙ ap inside as_kept ∙ sym (ap kept_progress inside_is))

    pub is_shown : slice_get world.sessions number ≡ Some (kept_session kept)
    is_shown = there ∙ ap Some shown_is

    abbrev pub world_choices : List Choice
    world_choices = choices own world.tables world.transactions running

    pub choices_are : machine_choices own server.tables server.xacts machine ≡ world_choices
    choices_are =
        ap (λ tables. choices own tables server.xacts running) serves.tables
        ∙ ap (λ transactions. choices own world.tables transactions running) serves.transactions

    pub effect_is : (act : EntryAct) → effect script world (record { session = number; act = act })
        ≡ act_effect world number (Some (Ok own)) (kept_session kept) act
    effect_is act = rw (is_shown, own_is) refl

    -- its transaction is open while it has something to do
    pub opened : (world_choices ≡ [] → ⊥) → kept.transaction ≡ Some running.me.xact
    opened going = at ((steady.stable.each number (kept_session kept) is_shown).reading running (ap kept_progress inside_is)).opened
      where
        at : ((kept_session kept).transaction ≡ Some running.me.xact)
            ⊎ ((own : Statement) → statement_at script number (kept_session kept) ≡ Some (Ok own) →
            choices own world.tables world.transactions running ≡ []) → kept.transaction ≡ Some running.me.xact
        at (inl same) = same
        at (inr none) = absurd (going (none own own_is))

    -- a permitted act leaves the rows that others hold
    pub stay : (act : EntryAct) → first_of_list (moves_of script world number) ≡ Some act →
        HoldsStay script world (act_effect world number (Some (Ok own)) (record (kept_session kept) { progress = inside running }) act).tables number
    stay act first other table row apart holds =
        let entry : Entry = record { session = number; act = act } in
        let h = held_stays script world entry steady (first_contained _ _ first) other table row holds (λ e. apart (sym e)) in
        ap (λ s. row_at (table_at (act_effect world number (Some (Ok own)) s act).tables table) row)
        (ap (λ p. record (kept_session kept) { progress = p }) (sym (ap kept_progress inside_is)))
        ∙ (ap (λ w. row_at (table_at w.tables table) row) (sym (effect_is act)) ∙ h.same_row)

    -- while it does not wait it makes its choice
    module _ (free : slice_get world.waits number ≡ Some None) where
      pub moves_are : moves_of script world number
          ≡ chosen_or_done (act_of script world number) world_choices (done_moves kept.block kept.transaction (reply_of own running))
      moves_are = rw (is_shown, free, own_is, inside_is) refl

      pub first_chosen : (choice : Choice) → world_choices ≡ choice ∷ [] →
          first_of_list (moves_of script world number) ≡ Some (act_of script world number choice)
      first_chosen choice only =
          ap first_of_list
          (moves_are
          ∙ ap (λ cs. chosen_or_done (act_of script world number) cs (done_moves kept.block kept.transaction (reply_of own running))) only)

      pub first_done : (act : EntryAct) → world_choices ≡ [] →
          first_of_list (done_moves kept.block kept.transaction (reply_of own running)) ≡ Some act →
          first_of_list (moves_of script world number) ≡ Some act
      first_done act none first =
          ap first_of_list
          (moves_are
          ∙ ap (λ cs. chosen_or_done (act_of script world number) cs (done_moves kept.block kept.transaction (reply_of own running))) none)
          ∙ first
