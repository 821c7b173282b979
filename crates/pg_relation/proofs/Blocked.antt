-- Who waits, and who is waited for, in the world that an entry leaves.
use Rattle.std.proofs.Common.{◌≡◌, ◌⊎◌, ℕ, Bool, true, false, cond, nat_eq, List, [], ◌∷◌, length, Option, Some, None, slice_get, slice_set, refl, sym, ap, ◌∙◌, subst, inl, inr, eq-eqb}
use Rattle.std.specs.Prelude.{find, option_map, unwrap_or}
use Rattle.std.specs.Option.{option_map_or}
use Rattle.std.proofs.lemmas.Bool.{cases_eq}
use Rattle.std.proofs.lemmas.Option.{slice_get_within}
use Rattle.pg_multi.specs.declared.row_lock.RowLock.{RowLock}
use Rattle.pg_multi.specs.declared.strength.Strength.{Strength}
use Rattle.pg_multi.specs.Locks.{blocker, is_blocking}
use Rattle.pg_waits.specs.Cycles.{HasNoCycle}
use Rattle.pg_waits.specs.Effects.{is_for, slot_left, wait_begun, waits_ended}
use Rattle.pg_waits.specs.Slots.{wait_of}
use Rattle.pg_waits.proofs.Acyclic.{ended_acyclic, none_acyclic}
use Rattle.pg_waits.proofs.Ends.{none_waits, wait_ended, wait_ended_own}
use Rattle.pg_waits.proofs.Lists.{wait_other, wait_written}
use Rattle.pg_xacts.specs.declared.on.On.{On}
use Rattle.pg_xacts.specs.declared.on.Until.TheVariants.{Transaction}
use Rattle.pg_xacts.specs.declared.transaction.XStatus.TheVariants.{Running as IsRunning}
use Rattle.pg_xacts.specs.Transactions.{status_of}
use Rattle.pg_model.specs.declared.script.Script.{Script}
use Rattle.pg_world.specs.declared.session.SessionView.{SessionView}
use Rattle.pg_world.specs.declared.session.Progress.TheVariants.{Closed as closed}
use Rattle.pg_world.specs.Changes.{table_at}
use Rattle.pg_world.specs.Tables.{locks_on}
use Rattle.pg_world.specs.Worlds.{World, until_end}
use Rattle.pg_relation.specs.Needs.{IsBlocked}
use Rattle.pg_relation.specs.Setup.{first_world}
use Rattle.pg_relation.specs.Sound.{HasOpen, HasSoundWaits, IsAtFound, IsSound}
use Rattle.pg_relation.proofs.Homes.{AreAtHome}
use Rattle.pg_relation.proofs.Lists.{get_set, get_set_other}
use Rattle.pg_relation.specs.Lines.{statement_at}

-- nobody waits for a lock of its own
never_own : (locks : List RowLock) (me : ℕ) (strength : Strength) → blocker locks me strength ≡ Some me → ⊥
never_own [] me strength is = cc is
never_own (lock ∷ locks) me strength is = at (is_blocking me strength lock) refl is (never_own locks me strength)
  where
    at : (b : Bool) → is_blocking me strength lock ≡ b →
        option_map (λ l. l.xact) (cond b (Some lock) (find (is_blocking me strength) locks)) ≡ Some me →
        (blocker locks me strength ≡ Some me → ⊥) → ⊥
    at true blocks is behind =
        let same : lock.xact ≡ me = cc is in
        let e : false ≡ true = rw (eq-eqb lock.xact me same) at blocks in
        cc e
    at false blocks is behind = behind is

-- none waits at the start
pub waits_first : (script : Script) → HasSoundWaits (first_world script)
waits_first script = record {
  standing = λ number on is. absurd (none number on is);
  for_open = λ number on is. absurd (none number on is);
  until_is = λ number on is. absurd (none number on is);
  acyclic = none_acyclic (length script.sessions);
}
  where
    none : (number : ℕ) (on : On) → wait_of (first_world script).waits number ≡ Some on → ⊥
    none number on is = let e : None ≡ Some on = sym (none_waits (length script.sessions) number) ∙ is in cc e

-- a wait that stands behind the end of a session's transaction stood before, and is for another
record Stood (slots : List (Option On)) (ended number : ℕ) (on : On) : Type 0 where
  before : wait_of slots number ≡ Some on
  other : on.session ≡ ended → ⊥

wait_stood : (slots : List (Option On)) (ended number : ℕ) (on : On) → wait_of (waits_ended slots ended) number ≡ Some on →
    Stood slots ended number on
wait_stood slots ended number on is = at (cases_eq number ended)
  where
    by : (slot : Option On) → wait_of slots number ≡ slot → slot_left (is_for ended) slot ≡ Some on → Stood slots ended number on
    by None here left = absurd (cc left)
    by (Some one) here left = test (nat_eq one.session ended) refl left
      where
        test : (b : Bool) → nat_eq one.session ended ≡ b → cond b None (Some one) ≡ Some on → Stood slots ended number on
        test true b left = absurd (cc left)
        test false b left =
            let same : one ≡ on = cc left in
            record {
              before = here ∙ ap (λ o. Some o) same;
              other = λ e.
                  let t : nat_eq one.session ended ≡ true = eq-eqb one.session ended (ap (λ o. o.session) same ∙ e) in
                  let f : false ≡ true = sym b ∙ t in
                  cc f;
            }

    at : (number ≡ ended) ⊎ (number ≡ ended → ⊥) → Stood slots ended number on
    at (inl same) =
        let e : None ≡ Some on = sym (wait_ended_own slots ended) ∙ subst (λ n. wait_of (waits_ended slots ended) n ≡ Some on) same is in
        absurd (cc e)
    at (inr apart) = by (wait_of slots number) refl (sym (wait_ended slots ended number apart) ∙ is)

module _ (world new : World) (number : ℕ) (session other : SessionView) (is : slice_get world.sessions number ≡ Some session)
    (free : slice_get world.waits number ≡ Some None) (sound : HasSoundWaits world)
    (sessions : new.sessions ≡ slice_set world.sessions number other) where
  -- who makes an entry does not wait
  who_waits : (waiting : ℕ) (on : On) → wait_of world.waits waiting ≡ Some on → waiting ≡ number → ⊥
  who_waits waiting on waits same =
      let none : wait_of world.waits number ≡ None = ap (λ o. option_map_or (λ slot. slot) o None) free in
      let e : None ≡ Some on = sym none ∙ subst (λ n. wait_of world.waits n ≡ Some on) same waits in
      cc e

  stays : (waiting : ℕ) → (waiting ≡ number → ⊥) → slice_get new.sessions waiting ≡ slice_get world.sessions waiting
  stays waiting apart = ap (λ l. slice_get l waiting) sessions ∙ get_set_other world.sessions number waiting other apart

  found_kept : (waiting : ℕ) → (waiting ≡ number → ⊥) → IsAtFound world waiting → IsAtFound new waiting
  found_kept waiting apart at_found = record {
    session = at_found.session;
    is = stays waiting apart ∙ at_found.is;
    running = at_found.running;
    inside_is = at_found.inside_is;
    stage_is = at_found.stage_is;
  }

  open_other : (held : ℕ) → (held ≡ number → ⊥) → HasOpen world held → HasOpen new held
  open_other held apart opens = record {
    session = opens.session;
    is = stays held apart ∙ opens.is;
    xact = opens.xact;
    open_is = opens.open_is;
    unended = opens.unended;
  }

  -- an entry that ends no transaction
  pub waits_kept : new.waits ≡ world.waits →
      ((xact : ℕ) → session.transaction ≡ Some xact → (other.transaction ≡ Some xact) × (other.progress ≡ closed → ⊥)) →
      HasSoundWaits new
  waits_kept waits opens = record {
    standing = λ waiting on w.
        let old = subst (λ s. wait_of s waiting ≡ Some on) waits w in
        found_kept waiting (who_waits waiting on old) (sound.standing waiting on old);
    for_open = λ waiting on w.
        let old = subst (λ s. wait_of s waiting ≡ Some on) waits w in
        kept on.session (sound.for_open waiting on old) (cases_eq on.session number);
    until_is = λ waiting on w. sound.until_is waiting on (subst (λ s. wait_of s waiting ≡ Some on) waits w);
    acyclic = rw waits sound.acyclic;
  }
    where
      kept : (held : ℕ) → HasOpen world held → (held ≡ number) ⊎ (held ≡ number → ⊥) → HasOpen new held
      kept held was (inl same) =
          let here : slice_get world.sessions held ≡ Some session = rw same is in
          let both : Some was.session ≡ Some session = sym was.is ∙ here in
          let own : was.session ≡ session = cc both in
          let now = opens was.xact (rw (← own) was.open_is) in
          record {
            session = other;
            is = rw (sessions, same) (get_set world.sessions number session other is);
            xact = was.xact;
            open_is = now.0;
            unended = now.1;
          }
      kept held was (inr apart) = open_other held apart was

  -- an entry that ends the session's transaction
  pub waits_over : new.waits ≡ waits_ended world.waits number → HasSoundWaits new
  waits_over waits = record {
    standing = λ waiting on w.
        let old = stood waiting on w in
        found_kept waiting (who_waits waiting on old.before) (sound.standing waiting on old.before);
    for_open = λ waiting on w.
        let old = stood waiting on w in
        open_other on.session old.other (sound.for_open waiting on old.before);
    until_is = λ waiting on w. sound.until_is waiting on (stood waiting on w).before;
    acyclic = rw waits (ended_acyclic world.waits number sound.acyclic);
  }
    where
      stood : (waiting : ℕ) (on : On) → wait_of new.waits waiting ≡ Some on → Stood world.waits number waiting on
      stood waiting on w = wait_stood world.waits number waiting on (subst (λ s. wait_of s waiting ≡ Some on) waits w)

-- the session begins to wait for another, which has a transaction open
pub waits_more : (world new : World) (number held : ℕ) → slice_get world.waits number ≡ Some None → HasSoundWaits world →
    new.sessions ≡ world.sessions → new.waits ≡ wait_begun world.waits number (until_end held) → IsAtFound world number →
    HasOpen world held → (number ≡ held → ⊥) → HasNoCycle (wait_begun world.waits number (until_end held)) → HasSoundWaits new
waits_more world new number held free sound sessions waits at_found opens apart acyclic = record {
  standing = λ waiting on w. found_same waiting (standing waiting on w (cases_eq waiting number));
  for_open = λ waiting on w. open_same on.session (for_open waiting on w (cases_eq waiting number));
  until_is = λ waiting on w. until waiting on w (cases_eq waiting number);
  acyclic = rw waits acyclic;
}
  where
    found_same : (waiting : ℕ) → IsAtFound world waiting → IsAtFound new waiting
    found_same waiting f = record {
      session = f.session;
      is = rw sessions f.is;
      running = f.running;
      inside_is = f.inside_is;
      stage_is = f.stage_is;
    }

    open_same : (one : ℕ) → HasOpen world one → HasOpen new one
    open_same one o = record { session = o.session; is = rw sessions o.is; xact = o.xact; open_is = o.open_is; unended = o.unended }

    own : (waiting : ℕ) (on : On) → wait_of new.waits waiting ≡ Some on → waiting ≡ number → until_end held ≡ on
    own waiting on w same =
        let here : wait_of (wait_begun world.waits number (until_end held)) waiting ≡ Some (until_end held) =
        rw same (wait_written world.waits number (Some (until_end held)) (slice_get_within world.waits number None free)) in
        let both : Some (until_end held) ≡ Some on = sym here ∙ subst (λ s. wait_of s waiting ≡ Some on) waits w in
        cc both

    old : (waiting : ℕ) (on : On) → wait_of new.waits waiting ≡ Some on → (waiting ≡ number → ⊥) → wait_of world.waits waiting ≡ Some on
    old waiting on w other =
        sym (wait_other world.waits number waiting (Some (until_end held)) other) ∙ subst (λ s. wait_of s waiting ≡ Some on) waits w

    standing : (waiting : ℕ) (on : On) → wait_of new.waits waiting ≡ Some on → (waiting ≡ number) ⊎ (waiting ≡ number → ⊥) →
        IsAtFound world waiting
    standing waiting on w (inl same) = subst (λ n. IsAtFound world n) (sym same) at_found
    standing waiting on w (inr other) = sound.standing waiting on (old waiting on w other)

    for_open : (waiting : ℕ) (on : On) → wait_of new.waits waiting ≡ Some on → (waiting ≡ number) ⊎ (waiting ≡ number → ⊥) →
        HasOpen world on.session
    for_open waiting on w (inl same) = subst (λ o. HasOpen world o.session) (own waiting on w same) opens
    for_open waiting on w (inr other) = sound.for_open waiting on (old waiting on w other)

    until : (waiting : ℕ) (on : On) → wait_of new.waits waiting ≡ Some on → (waiting ≡ number) ⊎ (waiting ≡ number → ⊥) →
        on.until ≡ Transaction
    until waiting on w (inl same) = ap (λ o. o.until) (sym (own waiting on w same))
    until waiting on w (inr other) = sound.until_is waiting on (old waiting on w other)

-- each lock on a row is of a transaction that runs
abbrev pub AreLocksRunning : World → Type 0
AreLocksRunning world = (table row xact holder : ℕ) (strength : Strength) →
    blocker (locks_on (table_at world.tables table) row) xact strength ≡ Some holder →
    status_of world.transactions holder ≡ Some IsRunning

-- who has to wait, waits for another session, which has a transaction open
module _ (script : Script) (world : World) (number other : ℕ) (session : SessionView) (cycle : Option (List ℕ))
    (is : slice_get world.sessions number ≡ Some session) (sound : IsSound script world) (homes : AreAtHome world) (locks : AreLocksRunning world)
    (blocked : IsBlocked world number (statement_at script number session) session other cycle) where
  pub held_open : HasOpen world other
  held_open =
      let runs = locks blocked.held.table blocked.held.row blocked.chosen.opened.running.me.xact blocked.held.holder blocked.held.strength blocked.held.held in
      let home = homes blocked.held.holder runs in
      let who : other ≡ home.number = blocked.held.beginner ∙ ap (λ o. unwrap_or o 0) home.begun in
      record {
        session = home.session;
        is = rw who home.is;
        xact = blocked.held.holder;
        open_is = home.open_is;
        unended = λ ended.
            let none = sound.ended home.number home.session home.is ended in
            let e : None ≡ Some blocked.held.holder = sym none ∙ home.open_is in
            cc e;
      }

  pub held_apart : session.transaction ≡ Some blocked.chosen.opened.running.me.xact → number ≡ other → ⊥
  held_apart own same =
      let runs = locks blocked.held.table blocked.held.row blocked.chosen.opened.running.me.xact blocked.held.holder blocked.held.strength blocked.held.held in
      let home = homes blocked.held.holder runs in
      let who : other ≡ home.number = blocked.held.beginner ∙ ap (λ o. unwrap_or o 0) home.begun in
      let here : slice_get world.sessions home.number ≡ Some session = rw (← who, ← same) is in
      let both : Some home.session ≡ Some session = sym home.is ∙ here in
      let mine : home.session ≡ session = cc both in
      let opens : Some blocked.held.holder ≡ Some blocked.chosen.opened.running.me.xact =
      sym home.open_is ∙ (ap (λ s. s.transaction) mine ∙ own) in
      let holder : blocked.held.holder ≡ blocked.chosen.opened.running.me.xact = cc opens in
      never_own (locks_on (table_at world.tables blocked.held.table) blocked.held.row) blocked.chosen.opened.running.me.xact
      blocked.held.strength (blocked.held.held ∙ ap (λ x. Some x) holder)
