-- A session behind one of its acts, and what its acts need of it.
use Rattle.std.proofs.Common.{◌≡◌, ◌+◌, ◌⊎◌, ◌==◌, ℕ, true, false, cond, Option, Some, None, slice_get, slice_set, refl, sym, ap, ◌∙◌, subst, inl, inr, arith, eqb-true, eq-eqb}
use Rattle.std.specs.Prelude.{Result}
use Rattle.pg_model.specs.declared.error.SqlError.{SqlError}
use Rattle.pg_model.specs.declared.journal.Entry.{Entry}
use Rattle.pg_model.specs.declared.journal.EntryAct.{EntryAct}
use Rattle.pg_model.specs.declared.journal.EntryAct.TheVariants as entry
use Rattle.pg_model.specs.declared.journal.EntryAct.TheVariants.{Closed}
use Rattle.pg_model.specs.declared.journal.Tag.{Tag}
use Rattle.pg_model.specs.declared.journal.Tag.TheVariants as tag
use Rattle.pg_model.specs.declared.script.Script.{Script}
use Rattle.pg_model.specs.declared.statement.Statement.{Statement}
use Rattle.pg_world.specs.declared.session.Progress.{Progress}
use Rattle.pg_world.specs.declared.session.Running.{Running}
use Rattle.pg_world.specs.declared.session.SessionView.{SessionView}
use Rattle.pg_world.specs.declared.session.Progress.TheVariants.{Idle as idle, Inside as inside, Ending as ending, Closed as closed}
use Rattle.pg_world.specs.declared.session.Stage.TheVariants.{Found as found}
use Rattle.pg_world.specs.Tables.{TransactionEnd, commit, rollback}
use Rattle.pg_world.specs.Worlds.{World, with_end_of}
use Rattle.pg_relation.specs.Effect.{with_open, session_snapped, session_after_act, me_for, with_running, without_transaction, progress_ended, session_replied, session_failed, act_effect, effect}
use Rattle.pg_relation.specs.Lines.{statement_at}
use Rattle.pg_relation.specs.Journals.{is_reply}
use Rattle.pg_relation.specs.Moves.{IsPermitted}
use Rattle.pg_relation.specs.Needs.{IsAtStage, IsBefore, IsDone, IsFailing, IsLockedFor, IsRefused, IsEnding, Needs}
use Rattle.pg_relation.proofs.Lists.{get_set, get_set_other, set_same}
use Rattle.pg_relation.proofs.Needs.{failing_inside, move_of}
use Rattle.pg_relation.proofs.Sound.{sessions_left}

-- the session behind its act
abbrev pub acted : World → ℕ → Option (Result Statement SqlError) → SessionView → EntryAct → SessionView
acted world number given session (entry.Snapped commits) =
    session_snapped (with_open world number session) given session commits (me_for world.transactions number session)
acted world number given session (entry.Found candidate) = session_after_act world session (entry.Found candidate)
acted world number given session (entry.Placed table row) = session_after_act world session (entry.Placed table row)
acted world number given session (entry.Locked table row strength) = session_after_act world session (entry.Locked table row strength)
acted world number given session (entry.Inserted table row) = session_after_act world session (entry.Inserted table row)
acted world number given session (entry.Updated table row) = session_after_act world session (entry.Updated table row)
acted world number given session (entry.Deleted table row) = session_after_act world session (entry.Deleted table row)
acted world number given session entry.Passed = session_after_act world session entry.Passed
acted world number given session (entry.Waits other) = session
acted world number given session entry.Committed = without_transaction session (progress_ended tag.Commit session.progress)
acted world number given session entry.RolledBack = without_transaction session (progress_ended tag.Rollback session.progress)
acted world number given session (entry.Replied reply) = session_replied session reply.tag
acted world number given session (entry.Failed error) = session_failed session
acted world number given session entry.Closed = without_transaction session closed

ended_acted : (world : World) (number : ℕ) (session other : SessionView) (end : TransactionEnd) →
    slice_set (with_end_of world number session.transaction end).sessions number other ≡ slice_set world.sessions number other
ended_acted world number session other end =
    ap (λ s. slice_set s number other) (sessions_left world number session.transaction end)

pub sessions_acted : (world : World) (number : ℕ) (given : Option (Result Statement SqlError)) (session : SessionView) (act : EntryAct) →
    slice_get world.sessions number ≡ Some session →
    (act_effect world number given session act).sessions ≡ slice_set world.sessions number (acted world number given session act)
sessions_acted world number given session (entry.Snapped commits) is = refl
sessions_acted world number given session (entry.Found candidate) is = refl
sessions_acted world number given session (entry.Placed table row) is = refl
sessions_acted world number given session (entry.Locked table row strength) is = refl
sessions_acted world number given session (entry.Inserted table row) is = refl
sessions_acted world number given session (entry.Updated table row) is = refl
sessions_acted world number given session (entry.Deleted table row) is = refl
sessions_acted world number given session entry.Passed is = refl
sessions_acted world number given session (entry.Waits other) is = sym (set_same world.sessions number session is)
sessions_acted world number given session entry.Committed is = ended_acted world number session _ commit
sessions_acted world number given session entry.RolledBack is = ended_acted world number session _ rollback
sessions_acted world number given session (entry.Replied reply) is = refl
sessions_acted world number given session (entry.Failed error) is = ended_acted world number session _ rollback
sessions_acted world number given session entry.Closed is = ended_acted world number session _ rollback

-- an entry changes the record of its own session alone
pub effect_own : (script : Script) (world : World) (entry : Entry) (session : SessionView) →
    slice_get world.sessions entry.session ≡ Some session →
    slice_get (effect script world entry).sessions entry.session
    ≡ Some (acted world entry.session (statement_at script entry.session session) session entry.act)
effect_own script world entry session is =
    rw is (rw (sessions_acted world entry.session (statement_at script entry.session session) session entry.act is)
    (get_set world.sessions entry.session session (acted world entry.session (statement_at script entry.session session) session entry.act) is))

pub effect_other : (script : Script) (world : World) (entry : Entry) (number : ℕ) → (number ≡ entry.session → ⊥) →
    slice_get (effect script world entry).sessions number ≡ slice_get world.sessions number
effect_other script world entry number other = at (slice_get world.sessions entry.session) refl
  where
    at : (o : Option SessionView) → slice_get world.sessions entry.session ≡ o →
        slice_get (effect script world entry).sessions number ≡ slice_get world.sessions number
    at None is = rw is refl
    at (Some session) is =
        rw is (rw (sessions_acted world entry.session (statement_at script entry.session session) session entry.act is)
        (get_set_other world.sessions entry.session number (acted world entry.session (statement_at script entry.session session) session entry.act) other))

-- 1 for a reply, and 0 for any other act
abbrev pub reply_count : EntryAct → ℕ
reply_count act = cond (is_reply act) 1 0

going : (session : SessionView) (change : Running → Running) (p : Progress) →
    (with_running change session p).answered ≡ session.answered + 0
going session change idle = omega arith
going session change (inside running) = omega arith
going session change (ending tag) = omega arith
going session change closed = omega arith

-- a reply counts a line as answered, and no other act does
pub answered_acted : (world : World) (number : ℕ) (given : Option (Result Statement SqlError)) (session : SessionView) (act : EntryAct) →
    (acted world number given session act).answered ≡ session.answered + reply_count act
answered_acted world number given session (entry.Snapped commits) = omega arith
answered_acted world number given session (entry.Found candidate) = going session _ session.progress
answered_acted world number given session (entry.Placed table row) = going session _ session.progress
answered_acted world number given session (entry.Locked table row strength) = going session _ session.progress
answered_acted world number given session (entry.Inserted table row) = going session _ session.progress
answered_acted world number given session (entry.Updated table row) = going session _ session.progress
answered_acted world number given session (entry.Deleted table row) = going session _ session.progress
answered_acted world number given session entry.Passed = going session _ session.progress
answered_acted world number given session (entry.Waits other) = omega arith
answered_acted world number given session entry.Committed = omega arith
answered_acted world number given session entry.RolledBack = omega arith
answered_acted world number given session (entry.Replied reply) = refl
answered_acted world number given session (entry.Failed error) = refl
answered_acted world number given session entry.Closed = omega arith

-- a session that is not an entry's own, and one that is, behind the entry
pub another : (number : ℕ) (entry : Entry) → (entry.session == number) ≡ false → number ≡ entry.session → ⊥
another number entry other is = let t : true ≡ false = sym (eq-eqb entry.session number (sym is)) ∙ other in cc t

pub own_behind : (script : Script) (world : World) (entry : Entry) (number : ℕ) (session : SessionView) →
    (entry.session == number) ≡ true → slice_get world.sessions number ≡ Some session →
    slice_get (effect script world entry).sessions number ≡ Some (acted world entry.session (statement_at script entry.session session) session entry.act)
own_behind script world entry number session own is =
    let s : entry.session ≡ number = eqb-true entry.session number own in
    let here : slice_get world.sessions entry.session ≡ Some session = rw s is in
    subst (λ n. slice_get (effect script world entry).sessions n ≡ Some (acted world entry.session (statement_at script entry.session session) session entry.act)) s
    (effect_own script world entry session here)

-- only Closed ends a session
pub closing : (world : World) (number : ℕ) (script : Script) (given : Option (Result Statement SqlError)) (session : SessionView) (made : EntryAct) →
    Needs script world number given session made → (acted world number given session made).progress ≡ closed → made ≡ entry.Closed
closing world number script given session (entry.Snapped commits) needs ended = absurd (cc ended)
closing world number script given session (entry.Found candidate) needs ended = absurd (let e = rw needs.0.opened.inside_is at ended in cc e)
closing world number script given session (entry.Placed table row) needs ended = absurd (let e = rw needs.0.opened.inside_is at ended in cc e)
closing world number script given session (entry.Locked table row strength) needs ended = absurd (let e = rw needs.0.opened.inside_is at ended in cc e)
closing world number script given session (entry.Inserted table row) needs ended = absurd (let e = rw needs.opened.inside_is at ended in cc e)
closing world number script given session (entry.Updated table row) needs ended = absurd (let e = rw needs.1.opened.inside_is at ended in cc e)
closing world number script given session (entry.Deleted table row) needs ended = absurd (let e = rw needs.1.opened.inside_is at ended in cc e)
closing world number script given session entry.Passed needs ended = at needs
  where
    at : (IsAtStage world given session found entry.Passed ⊎ IsLockedFor world given session entry.Passed) → entry.Passed ≡ entry.Closed
    at (inl s) = absurd (let e = rw s.opened.inside_is at ended in cc e)
    at (inr s) = absurd (let e = rw s.1.opened.inside_is at ended in cc e)
closing world number script given session (entry.Waits other) needs ended =
    absurd (let e = rw needs.chosen.opened.inside_is at ended in cc e)
closing world number script given session entry.Committed needs ended = at needs.1
  where
    at : (IsBefore given session ⊎ IsDone world given session) → entry.Committed ≡ entry.Closed
    at (inl s) = absurd (let e = rw s.idle_is at ended in cc e)
    at (inr s) = absurd (let e = rw s.opened.inside_is at ended in cc e)
closing world number script given session entry.RolledBack needs ended = absurd (let e = rw needs.1.idle_is at ended in cc e)
closing world number script given session (entry.Replied reply) needs ended = absurd (cc ended)
closing world number script given session (entry.Failed error) needs ended = absurd (cc ended)
closing world number script given session entry.Closed needs ended = refl

-- a session that has ended is not elsewhere
module _ (session : SessionView) (ended : session.progress ≡ closed) where
  not_idle : session.progress ≡ idle → ⊥
  not_idle is = let e : closed ≡ idle = sym ended ∙ is in cc e

  not_inside : (running : Running) → session.progress ≡ inside running → ⊥
  not_inside running is = let e : closed ≡ inside running = sym ended ∙ is in cc e

  not_ending : (given : Tag) → session.progress ≡ ending given → ⊥
  not_ending given is = let e : closed ≡ ending given = sym ended ∙ is in cc e

-- and does nothing
pub ended_needs : (script : Script) (world : World) (number : ℕ) (given : Option (Result Statement SqlError)) (session : SessionView)
    (act : EntryAct) → session.progress ≡ closed → Needs script world number given session act → ⊥
ended_needs script world number given session (entry.Snapped commits) ended needs = not_idle session ended needs.0.idle_is
ended_needs script world number given session (entry.Found candidate) ended needs = not_inside session ended _ needs.0.opened.inside_is
ended_needs script world number given session (entry.Placed table row) ended needs = not_inside session ended _ needs.0.opened.inside_is
ended_needs script world number given session (entry.Locked table row strength) ended needs =
    not_inside session ended _ needs.0.opened.inside_is
ended_needs script world number given session (entry.Inserted table row) ended needs = not_inside session ended _ needs.opened.inside_is
ended_needs script world number given session (entry.Updated table row) ended needs = not_inside session ended _ needs.1.opened.inside_is
ended_needs script world number given session (entry.Deleted table row) ended needs = not_inside session ended _ needs.1.opened.inside_is
ended_needs script world number given session entry.Passed ended needs = at needs
  where
    at : (IsAtStage world given session found entry.Passed ⊎ IsLockedFor world given session entry.Passed) → ⊥
    at (inl s) = not_inside session ended _ s.opened.inside_is
    at (inr s) = not_inside session ended _ s.1.opened.inside_is
ended_needs script world number given session (entry.Waits other) ended needs =
    not_inside session ended _ needs.chosen.opened.inside_is
ended_needs script world number given session entry.Committed ended needs = at needs.1
  where
    at : (IsBefore given session ⊎ IsDone world given session) → ⊥
    at (inl s) = not_idle session ended s.idle_is
    at (inr s) = not_inside session ended _ s.opened.inside_is
ended_needs script world number given session entry.RolledBack ended needs = not_idle session ended needs.1.idle_is
ended_needs script world number given session (entry.Replied reply) ended needs = at needs
  where
    at : (IsBefore given session ⊎ (IsDone world given session ⊎ IsEnding given session)) → ⊥
    at (inl s) = not_idle session ended s.idle_is
    at (inr (inl s)) = not_inside session ended _ s.opened.inside_is
    at (inr (inr s)) = not_ending session ended s.tag s.ending_is
ended_needs script world number given session (entry.Failed error) ended needs = at needs
  where
    at : (IsBefore given session ⊎ (IsRefused given session error ⊎ IsFailing script world number given session error)) → ⊥
    at (inl s) = not_idle session ended s.idle_is
    at (inr (inl s)) = not_inside session ended _ s.inside_is
    at (inr (inr f)) =
        let s = failing_inside script world number given session error f in not_inside session ended _ s.1.inside_is
ended_needs script world number given session entry.Closed ended needs = not_idle session ended needs.idle_is

-- what a permitted entry needs of its own session
pub own_needs : (script : Script) (world : World) (entry : Entry) (number : ℕ) (session : SessionView) →
    (entry.session == number) ≡ true → slice_get world.sessions number ≡ Some session → IsPermitted script world entry →
    Needs script world entry.session (statement_at script entry.session session) session entry.act
own_needs script world entry number session own is move =
    let s : entry.session ≡ number = eqb-true entry.session number own in
    let m = move_of script world entry move in
    let both : Some m.session ≡ Some session = sym m.is ∙ (ap (λ n. slice_get world.sessions n) s ∙ is) in
    let e : m.session ≡ session = cc in
    subst (λ z. Needs script world entry.session (statement_at script entry.session z) z entry.act) e m.needs
