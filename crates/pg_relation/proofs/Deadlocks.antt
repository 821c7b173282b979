-- A statement that fails with a deadlock names the cycle that its session's wait would close.
use Rattle.std.proofs.Common.{◌≡◌, ◌⊎◌, ℕ, List, map, Option, Some, None, slice_get, refl, sym, ap, ◌∙◌, subst, inl, inr}
use Rattle.std.specs.Prelude.{Result, Ok, option_map}
use Rattle.std.specs.Option.{option_map_or}
use Rattle.std.proofs.lemmas.Option.{slice_get-map}
use Rattle.pg_waits.specs.Chains.{Leads}
use Rattle.pg_waits.specs.Slots.{waits_for}
use Rattle.pg_waits.proofs.Rings.{none_leads, ring_sound}
use Rattle.pg_xacts.specs.declared.me.Me.{Me}
use Rattle.pg_model.specs.declared.error.SqlError.{SqlError}
use Rattle.pg_model.specs.declared.error.SqlError.TheVariants.{Deadlock}
use Rattle.pg_model.specs.declared.journal.Entry.{Entry}
use Rattle.pg_model.specs.declared.journal.EntryAct.{EntryAct}
use Rattle.pg_model.specs.declared.journal.EntryAct.TheVariants as acts
use Rattle.pg_model.specs.declared.journal.Tag.{Tag}
use Rattle.pg_model.specs.declared.script.Script.{Script}
use Rattle.pg_model.specs.declared.statement.Statement.{Statement}
use Rattle.pg_model.specs.Printed.{session_name}
use Rattle.pg_world.specs.Candidates.{seen_by}
use Rattle.pg_world.specs.declared.session.Progress.{Progress}
use Rattle.pg_world.specs.declared.session.Running.{Running}
use Rattle.pg_world.specs.declared.session.SessionView.{SessionView}
use Rattle.pg_world.specs.declared.session.Progress.TheVariants.{Idle as idle, Inside as inside, Ending as ending, Closed as closed}
use Rattle.pg_world.specs.Sessions.{first_running, fresh_session}
use Rattle.pg_world.specs.Worlds.{World}
use Rattle.pg_relation.specs.Effect.{candidates_at, effect, me_for, progress_ended, with_open, with_running}
use Rattle.pg_relation.specs.Journals.{IsLegal, world_after}
use Rattle.pg_relation.specs.Laws.{IsCycleNamed}
use Rattle.pg_relation.specs.Lines.{statement_at}
use Rattle.pg_relation.specs.Moves.{IsPermitted}
use Rattle.pg_relation.specs.Needs.{IsBefore, IsFailing, IsRefused, Needs}
use Rattle.pg_relation.specs.Setup.{first_world}
use Rattle.pg_relation.proofs.Honest.{Honest, IsNoDeadlock, choice_honest, honest_candidates}
use Rattle.pg_relation.proofs.Journals.{holds_from}
use Rattle.pg_relation.proofs.Lists.{each_set}
use Rattle.pg_relation.proofs.Needs.{move_of}
use Rattle.pg_relation.proofs.Acted.{acted, sessions_acted}

-- the candidates of an open statement have no deadlock for their error
abbrev pub IsHonest : SessionView → Type 0
IsHonest session = (running : Running) → session.progress ≡ inside running → Honest running.candidates

abbrev pub AreHonest : World → Type 0
AreHonest world = (number : ℕ) (session : SessionView) → slice_get world.sessions number ≡ Some session → IsHonest session

honest_going : (session : SessionView) (change : Running → Running) (p : Progress) → session.progress ≡ p →
    ((r : Running) → (change r).candidates ≡ r.candidates) → IsHonest session → IsHonest (with_running change session p)
honest_going session change idle p same honest = honest
honest_going session change (inside r) p same honest = λ running is.
    let e : change r ≡ running = cc is in
    let c : running.candidates ≡ r.candidates = ap (λ x. x.candidates) (sym e) ∙ same r in
    subst (λ c. Honest c) (sym c) (honest r p)
honest_going session change (ending tag) p same honest = honest
honest_going session change closed p same honest = honest

honest_ended : (session : SessionView) (given : Tag) (p : Progress) → session.progress ≡ p → IsHonest session →
    (running : Running) → progress_ended given p ≡ inside running → Honest running.candidates
honest_ended session given idle p honest = λ running is. absurd (cc is)
honest_ended session given (inside r) p honest = λ running is.
    let e : r ≡ running = cc is in honest running (p ∙ ap (λ x. inside x) e)
honest_ended session given (ending tag) p honest = λ running is. absurd (cc is)
honest_ended session given closed p honest = λ running is. absurd (cc is)

honest_snapped : (world : World) (given : Option (Result Statement SqlError)) (own : Statement) (commits : ℕ) (me : Me) →
    given ≡ Some (Ok own) → Honest (candidates_at given world commits me)
honest_snapped world given own commits me is =
    subst (λ g. Honest (candidates_at g world commits me)) (sym is)
    (honest_candidates own (seen_by own world.tables world.transactions commits me))

honest_acted : (script : Script) (world : World) (number : ℕ) (given : Option (Result Statement SqlError)) (session : SessionView)
    (act : EntryAct) → Needs script world number given session act → IsHonest session → IsHonest (acted world number given session act)
honest_acted script world number given session (acts.Snapped commits) needs honest = λ running is.
    let made = honest_snapped (with_open world number session) given needs.1.0 commits (me_for world.transactions number session)
    (needs.0.next_is ∙ ap (λ n. Some n) needs.1.1) in
    let e : first_running (me_for world.transactions number session) commits
    (candidates_at given (with_open world number session) commits (me_for world.transactions number session)) ≡ running = cc is in
    subst (λ r. Honest r.candidates) e made
honest_acted script world number given session (acts.Found candidate) needs honest = honest_going session _ session.progress refl (λ r. refl) honest
honest_acted script world number given session (acts.Placed table row) needs honest = honest_going session _ session.progress refl (λ r. refl) honest
honest_acted script world number given session (acts.Locked table row strength) needs honest =
    honest_going session _ session.progress refl (λ r. refl) honest
honest_acted script world number given session (acts.Inserted table row) needs honest = honest_going session _ session.progress refl (λ r. refl) honest
honest_acted script world number given session (acts.Updated table row) needs honest = honest_going session _ session.progress refl (λ r. refl) honest
honest_acted script world number given session (acts.Deleted table row) needs honest = honest_going session _ session.progress refl (λ r. refl) honest
honest_acted script world number given session acts.Passed needs honest = honest_going session _ session.progress refl (λ r. refl) honest
honest_acted script world number given session (acts.Waits other) needs honest = honest
honest_acted script world number given session acts.Committed needs honest = honest_ended session _ session.progress refl honest
honest_acted script world number given session acts.RolledBack needs honest = honest_ended session _ session.progress refl honest
honest_acted script world number given session (acts.Replied reply) needs honest = λ running is. absurd (cc is)
honest_acted script world number given session (acts.Failed error) needs honest = λ running is. absurd (cc is)
honest_acted script world number given session acts.Closed needs honest = λ running is. absurd (cc is)

honest_kept : (script : Script) (world : World) (entry : Entry) → AreHonest world → IsPermitted script world entry →
    AreHonest (effect script world entry)
honest_kept script world entry honest move =
    let m = move_of script world entry move in
    let here = honest_acted script world entry.session (statement_at script entry.session m.session) m.session entry.act m.needs (honest entry.session m.session m.is) in
    rw m.is (rw (sessions_acted world entry.session (statement_at script entry.session m.session) m.session entry.act m.is)
    (each_set (λ j z. IsHonest z) world.sessions entry.session (acted world entry.session (statement_at script entry.session m.session) m.session entry.act) honest here))

honest_first : (script : Script) → AreHonest (first_world script)
honest_first script = λ number session is.
    fresh session (slice_get script.sessions number) (sym (slice_get-map (λ name. fresh_session) script.sessions number) ∙ is)
  where
    fresh : (session : SessionView) (name : Option (List ℕ)) → option_map (λ n. fresh_session) name ≡ Some session → IsHonest session
    fresh session None is = absurd (cc is)
    fresh session (Some name) is = λ running inside_is.
        let e : fresh_session ≡ session = cc is in
        let f : idle ≡ inside running = ap (λ s. s.progress) e ∙ inside_is in
        absurd (cc f)

honest_after : (script : Script) (journal : List Entry) → IsLegal script journal → AreHonest (world_after script journal)
honest_after script journal legal =
    holds_from script (λ world. AreHonest world) (λ world entry honest move. honest_kept script world entry honest move)
    (first_world script) journal (honest_first script) legal

-- the cycle that a deadlock names
named : (script : Script) (world : World) (number : ℕ) (given : Option (Result Statement SqlError)) (session : SessionView)
    (running : Running) (names : List (List ℕ)) → session.progress ≡ inside running → IsHonest session →
    Needs script world number given session (acts.Failed (Deadlock names)) → IsCycleNamed script world.waits number names
named script world number given session running names inside_is honest needs = at needs
  where
    refused : IsRefused given session (Deadlock names) → IsCycleNamed script world.waits number names
    refused r =
        let h = honest r.running r.inside_is in
        let e : IsNoDeadlock (Deadlock names) = rw r.candidates_are at h in
        absurd (e names refl)

    failing : IsFailing script world number given session (Deadlock names) → IsCycleNamed script world.waits number names
    failing (inl s) =
        let h = choice_honest s.opened.statement world.tables world.transactions s.opened.running (Deadlock names)
        (honest s.opened.running s.opened.inside_is) s.contained in
        absurd (h names refl)
    failing (inr s) =
        let same : names ≡ map (session_name script) s.1 = cc s.3 in
        (s.0, s.1, ring_sound world.waits number s.0 s.1 s.2.cycle_is, same)

    at : (IsBefore given session ⊎ (IsRefused given session (Deadlock names) ⊎ IsFailing script world number given session (Deadlock names))) →
        IsCycleNamed script world.waits number names
    at (inl s) = absurd (let e : idle ≡ inside running = sym s.idle_is ∙ inside_is in cc e)
    at (inr (inl r)) = refused r
    at (inr (inr f)) = failing f

pub cycle_named : (script : Script) (journal : List Entry) (entry : Entry) (session : SessionView) (running : Running)
    (names : List (List ℕ)) → IsLegal script journal → slice_get (world_after script journal).sessions entry.session ≡ Some session →
    session.progress ≡ inside running → IsPermitted script (world_after script journal) entry → entry.act ≡ acts.Failed (Deadlock names) →
    IsCycleNamed script (world_after script journal).waits entry.session names
cycle_named script journal entry session running names legal is inside_is move act_is =
    let m = move_of script (world_after script journal) entry move in
    let both : Some m.session ≡ Some session = sym m.is ∙ is in
    let same : m.session ≡ session = cc both in
    let needs = subst (λ a. Needs script (world_after script journal) entry.session (statement_at script entry.session m.session) m.session a) act_is m.needs in
    named script (world_after script journal) entry.session (statement_at script entry.session m.session) m.session running names
    (ap (λ s. s.progress) same ∙ inside_is) (honest_after script journal legal entry.session m.session m.is) needs

-- a wait that begins closes no cycle
pub wait_free : (script : Script) (world : World) (entry : Entry) (other : ℕ) → IsPermitted script world entry →
    entry.act ≡ acts.Waits other → Leads world.waits other entry.session → ⊥
wait_free script world entry other move act_is =
    let m = move_of script world entry move in
    let needs = subst (λ a. Needs script world entry.session (statement_at script entry.session m.session) m.session a) act_is m.needs in
    let idle_is : waits_for world.waits entry.session ≡ None =
    ap (λ o. option_map (λ on. on.session) (option_map_or (λ slot. slot) o None)) m.free in
    none_leads world.waits entry.session other idle_is needs.cycle_is
