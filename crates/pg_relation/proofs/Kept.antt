-- What each entry of a legal journal keeps: that transactions are at home, and that waits are sound.
use Rattle.std.proofs.Common.{◌≡◌, ◌+◌, ℕ, List, [], ◌∷◌, ◌++◌, Option, Some, None, slice_get, refl, sym, ap, ◌∙◌, subst}
use Rattle.std.specs.Prelude.{Result, option_map}
use Rattle.std.specs.Option.{option_map_or}
use Rattle.pg_waits.specs.Slots.{waits_for}
use Rattle.pg_waits.proofs.Acyclic.{none_is_free}
use Rattle.std.proofs.lemmas.Option.{slice_get_within}
use Rattle.pg_xacts.specs.declared.transaction.XStatus.TheVariants.{Committed as IsCommitted, RolledBack as IsRolledBack}
use Rattle.pg_model.specs.declared.error.SqlError.{SqlError}
use Rattle.pg_model.specs.declared.journal.Entry.{Entry}
use Rattle.pg_model.specs.declared.journal.EntryAct.{EntryAct}
use Rattle.pg_model.specs.declared.journal.EntryAct.TheVariants as entry
use Rattle.pg_model.specs.declared.script.Script.{Script}
use Rattle.pg_model.specs.declared.statement.Statement.{Statement}
use Rattle.pg_world.specs.declared.session.Progress.{Progress}
use Rattle.pg_world.specs.declared.session.Running.{Running}
use Rattle.pg_world.specs.declared.session.SessionView.{SessionView}
use Rattle.pg_world.specs.declared.session.Progress.TheVariants.{Idle as idle, Inside as inside, Ending as ending, Closed as closed}
use Rattle.pg_world.specs.Tables.{TransactionEnd, commit, rollback}
use Rattle.pg_world.specs.Worlds.{World, until_end, with_end_of}
use Rattle.pg_relation.specs.Effect.{act_effect, effect, transaction_for, transactions_opened, with_running}
use Rattle.pg_relation.specs.Journals.{IsLegal, IsLegalFrom, world_after, world_from}
use Rattle.pg_relation.specs.Lines.{statement_at}
use Rattle.pg_relation.specs.Moves.{IsPermitted}
use Rattle.pg_relation.specs.Needs.{IsBlocked, Needs}
use Rattle.pg_relation.specs.Setup.{first_world}
use Rattle.pg_relation.specs.Sound.{HasSoundWaits, IsSound}
use Rattle.pg_relation.proofs.Blocked.{AreLocksRunning, held_apart, held_open, waits_first, waits_kept, waits_more, waits_over}
use Rattle.pg_relation.proofs.Waited.{blocked_open, locks_after}
use Rattle.pg_relation.proofs.Homes.{AreAtHome, home_begun, home_ended, home_first, home_kept}
use Rattle.pg_relation.proofs.Journals.{holds_from, legal_from_more, world_from-more}
use Rattle.pg_relation.proofs.Needs.{move_of}
use Rattle.pg_relation.proofs.Acted.{acted, closing, sessions_acted}
use Rattle.pg_relation.proofs.Sound.{sound_after}

-- a statement that goes on has the transaction that it had
going_open : (session : SessionView) (change : Running → Running) (p : Progress) →
    (with_running change session p).transaction ≡ session.transaction
going_open session change idle = refl
going_open session change (inside running) = refl
going_open session change (ending tag) = refl
going_open session change closed = refl

module _ (script : Script) (world : World) (number : ℕ) (session : SessionView) (is : slice_get world.sessions number ≡ Some session) where
  abbrev given : Option (Result Statement SqlError)
  given = statement_at script number session

  -- transactions at home
  home_of : (act : EntryAct) → AreAtHome world →
      (act_effect world number given session act).transactions ≡ world.transactions →
      (acted world number given session act).transaction ≡ session.transaction → AreAtHome (act_effect world number given session act)
  home_of act homes same opens =
      home_kept world (act_effect world number given session act) number session (acted world number given session act) is
      (sessions_acted world number given session act is) homes same opens

  home_snapped : (commits : ℕ) (t : Option ℕ) → session.transaction ≡ t → AreAtHome world →
      AreAtHome (act_effect world number given session (entry.Snapped commits))
  home_snapped commits None none homes =
      home_begun world (act_effect world number given session (entry.Snapped commits)) number session
      (acted world number given session (entry.Snapped commits)) is
      (sessions_acted world number given session (entry.Snapped commits) is) homes
      (ap (λ t. transactions_opened world.transactions number t) none) none
      (ap (λ t. Some (transaction_for world.transactions t)) none)
  home_snapped commits (Some xact) opens homes =
      home_of (entry.Snapped commits) homes (ap (λ t. transactions_opened world.transactions number t) opens)
      (ap (λ t. Some (transaction_for world.transactions t)) opens ∙ sym opens)

  home_over : (act : EntryAct) (end : TransactionEnd) (t : Option ℕ) → session.transaction ≡ t →
      (act_effect world number given session act).transactions ≡ (with_end_of world number session.transaction end).transactions →
      (acted world number given session act).transaction ≡ None → AreAtHome world → AreAtHome (act_effect world number given session act)
  home_over act end None none same over homes =
      home_of act homes (same ∙ ap (λ t. (with_end_of world number t end).transactions) none) (over ∙ sym none)
  home_over act commit (Some xact) opens same over homes =
      home_ended world (act_effect world number given session act) number session (acted world number given session act) is
      (sessions_acted world number given session act is) homes xact (IsCommitted (world.transactions.commits + 1)) (λ e. absurd (cc e)) opens
      (ap (λ t. t.list) (same ∙ ap (λ t. (with_end_of world number t commit).transactions) opens))
  home_over act rollback (Some xact) opens same over homes =
      home_ended world (act_effect world number given session act) number session (acted world number given session act) is
      (sessions_acted world number given session act is) homes xact IsRolledBack (λ e. absurd (cc e)) opens
      (ap (λ t. t.list) (same ∙ ap (λ t. (with_end_of world number t rollback).transactions) opens))

  home_act : (act : EntryAct) → AreAtHome world → AreAtHome (act_effect world number given session act)
  home_act (entry.Snapped commits) homes = home_snapped commits session.transaction refl homes
  home_act (entry.Found candidate) homes = home_of (entry.Found candidate) homes refl (going_open session _ session.progress)
  home_act (entry.Placed table row) homes = home_of (entry.Placed table row) homes refl (going_open session _ session.progress)
  home_act (entry.Locked table row strength) homes =
      home_of (entry.Locked table row strength) homes refl (going_open session _ session.progress)
  home_act (entry.Inserted table row) homes = home_of (entry.Inserted table row) homes refl (going_open session _ session.progress)
  home_act (entry.Updated table row) homes = home_of (entry.Updated table row) homes refl (going_open session _ session.progress)
  home_act (entry.Deleted table row) homes = home_of (entry.Deleted table row) homes refl (going_open session _ session.progress)
  home_act entry.Passed homes = home_of entry.Passed homes refl (going_open session _ session.progress)
  home_act (entry.Waits other) homes = home_of (entry.Waits other) homes refl refl
  home_act entry.Committed homes = home_over entry.Committed commit session.transaction refl refl refl homes
  home_act entry.RolledBack homes = home_over entry.RolledBack rollback session.transaction refl refl refl homes
  home_act (entry.Replied reply) homes = home_of (entry.Replied reply) homes refl refl
  home_act (entry.Failed error) homes = home_over (entry.Failed error) rollback session.transaction refl refl refl homes
  home_act entry.Closed homes = home_over entry.Closed rollback session.transaction refl refl refl homes

  -- waits are sound
  module _ (free : slice_get world.waits number ≡ Some None) (sound : HasSoundWaits world) where
    waits_of : (act : EntryAct) → Needs script world number given session act → (act ≡ entry.Closed → ⊥) →
        (act_effect world number given session act).waits ≡ world.waits →
        ((xact : ℕ) → session.transaction ≡ Some xact → (acted world number given session act).transaction ≡ Some xact) →
        HasSoundWaits (act_effect world number given session act)
    waits_of act needs other same opens =
        waits_kept world (act_effect world number given session act) number session (acted world number given session act) is free sound
        (sessions_acted world number given session act is) same
        (λ xact own. (opens xact own, λ ended. other (closing world number script given session act needs ended)))

    waits_going : (act : EntryAct) (change : Running → Running) → Needs script world number given session act → (act ≡ entry.Closed → ⊥) →
        (act_effect world number given session act).waits ≡ world.waits →
        acted world number given session act ≡ with_running change session session.progress →
        HasSoundWaits (act_effect world number given session act)
    waits_going act change needs other same going =
        waits_of act needs other same (λ xact own. ap (λ s. s.transaction) going ∙ (going_open session change session.progress ∙ own))

    waits_ended_by : (act : EntryAct) (end : TransactionEnd) (t : Option ℕ) → session.transaction ≡ t →
        (act_effect world number given session act).waits ≡ (with_end_of world number session.transaction end).waits →
        HasSoundWaits (act_effect world number given session act)
    waits_ended_by act end None none same =
        waits_kept world (act_effect world number given session act) number session (acted world number given session act) is free sound
        (sessions_acted world number given session act is) (same ∙ ap (λ t. (with_end_of world number t end).waits) none)
        (λ xact own. absurd (let e : None ≡ Some xact = sym none ∙ own in cc e))
    waits_ended_by act end (Some xact) opens same =
        waits_over world (act_effect world number given session act) number session (acted world number given session act) is free sound
        (sessions_acted world number given session act is) (same ∙ ap (λ t. (with_end_of world number t end).waits) opens)

    waits_blocked : (other : ℕ) → IsSound script world → AreAtHome world → AreLocksRunning world →
        (blocked : IsBlocked world number given session other None) → session.transaction ≡ Some blocked.chosen.opened.running.me.xact →
        HasSoundWaits (act_effect world number given session (entry.Waits other))
    waits_blocked other stands homes locks blocked own =
        let apart = held_apart script world number other session None is stands homes locks blocked own in
        let idle : waits_for world.waits number ≡ None =
        ap (λ o. option_map (λ on. on.session) (option_map_or (λ slot. slot) o None)) free in
        waits_more world (act_effect world number given session (entry.Waits other)) number other free sound refl refl
        (record {
          session = session;
          is = is;
          running = blocked.chosen.opened.running;
          inside_is = blocked.chosen.opened.inside_is;
          stage_is = blocked.stage_is;
        })
        (held_open script world number other session None is stands homes locks blocked) apart
        (none_is_free world.waits number (until_end other) sound.acyclic (slice_get_within world.waits number None free) idle apart blocked.cycle_is)

    waits_act : (act : EntryAct) → IsSound script world → AreAtHome world → AreLocksRunning world →
        ((other : ℕ) (blocked : IsBlocked world number given session other None) →
        session.transaction ≡ Some blocked.chosen.opened.running.me.xact) →
        Needs script world number given session act → HasSoundWaits (act_effect world number given session act)
    waits_act (entry.Snapped commits) stands homes locks own needs =
        waits_of (entry.Snapped commits) needs (λ e. absurd (cc e)) refl
        (λ xact opens. ap (λ t. Some (transaction_for world.transactions t)) opens)
    waits_act (entry.Found candidate) stands homes locks own needs = waits_going (entry.Found candidate) _ needs (λ e. absurd (cc e)) refl refl
    waits_act (entry.Placed table row) stands homes locks own needs =
        waits_going (entry.Placed table row) _ needs (λ e. absurd (cc e)) refl refl
    waits_act (entry.Locked table row strength) stands homes locks own needs =
        waits_going (entry.Locked table row strength) _ needs (λ e. absurd (cc e)) refl refl
    waits_act (entry.Inserted table row) stands homes locks own needs =
        waits_going (entry.Inserted table row) _ needs (λ e. absurd (cc e)) refl refl
    waits_act (entry.Updated table row) stands homes locks own needs =
        waits_going (entry.Updated table row) _ needs (λ e. absurd (cc e)) refl refl
    waits_act (entry.Deleted table row) stands homes locks own needs =
        waits_going (entry.Deleted table row) _ needs (λ e. absurd (cc e)) refl refl
    waits_act entry.Passed stands homes locks own needs = waits_going entry.Passed _ needs (λ e. absurd (cc e)) refl refl
    waits_act (entry.Waits other) stands homes locks own needs = waits_blocked other stands homes locks needs (own other needs)
    waits_act entry.Committed stands homes locks own needs = waits_ended_by entry.Committed commit session.transaction refl refl
    waits_act entry.RolledBack stands homes locks own needs = waits_ended_by entry.RolledBack rollback session.transaction refl refl
    waits_act (entry.Replied reply) stands homes locks own needs =
        waits_of (entry.Replied reply) needs (λ e. absurd (cc e)) refl (λ xact opens. opens)
    waits_act (entry.Failed error) stands homes locks own needs = waits_ended_by (entry.Failed error) rollback session.transaction refl refl
    waits_act entry.Closed stands homes locks own needs = waits_ended_by entry.Closed rollback session.transaction refl refl

-- what holds of a world that a legal journal leaves
pub record IsReached (script : Script) (world : World) : Type 0 where
  pub journal : List Entry
  pub legal : IsLegal script journal
  pub left : world ≡ world_after script journal
  pub homes : AreAtHome world
  pub waits : HasSoundWaits world

reached_more : (script : Script) (world : World) (entry : Entry) → IsReached script world → IsPermitted script world entry →
    IsReached script (effect script world entry)
reached_more script world entry reached move =
    let m = move_of script world entry move in
    let sound : IsSound script world = rw reached.left (sound_after script reached.journal reached.legal) in
    let locks : AreLocksRunning world = rw reached.left (locks_after script reached.journal reached.legal) in
    record {
      journal = reached.journal ++ entry ∷ [];
      legal =
          legal_from_more script (first_world script) reached.journal entry reached.legal
          (subst (λ w. IsPermitted script w entry) reached.left move);
      left =
          ap (λ w. effect script w entry) reached.left
          ∙ sym (world_from-more script (first_world script) reached.journal entry);
      homes = rw m.is (home_act script world entry.session m.session m.is entry.act reached.homes);
      waits =
          rw m.is (waits_act script world entry.session m.session m.is m.free reached.waits entry.act sound reached.homes locks
          (own world reached.left m.session m.is) m.needs);
    }
  where
    own : (w : World) → w ≡ world_after script reached.journal → (session : SessionView) → slice_get w.sessions entry.session ≡ Some session →
        (other : ℕ) (blocked : IsBlocked w entry.session (statement_at script entry.session session) session other None) →
        session.transaction ≡ Some blocked.chosen.opened.running.me.xact
    own w left session is = subst
        (λ v. slice_get v.sessions entry.session ≡ Some session →
        (other : ℕ) (blocked : IsBlocked v entry.session (statement_at script entry.session session) session other None) →
        session.transaction ≡ Some blocked.chosen.opened.running.me.xact) (sym left)
        (λ here other blocked. blocked_open script reached.journal entry.session other session None reached.legal here blocked) is

none_legal : (script : Script) → IsLegal script []
unfolding IsLegalFrom
none_legal script = tt

start_left : (script : Script) → first_world script ≡ world_after script []
unfolding world_from
start_left script = refl

pub reached_after : (script : Script) (journal : List Entry) → IsLegal script journal → IsReached script (world_after script journal)
reached_after script journal legal =
    holds_from script (λ world. IsReached script world) (λ world entry reached move. reached_more script world entry reached move)
    (first_world script) journal
    (record { journal = []; legal = none_legal script; left = start_left script; homes = home_first script; waits = waits_first script }) legal

pub waits_after : (script : Script) (journal : List Entry) → IsLegal script journal → HasSoundWaits (world_after script journal)
waits_after script journal legal = (reached_after script journal legal).waits
