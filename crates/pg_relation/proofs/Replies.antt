-- The replies of a session in a legal journal, and its end.
use Rattle.std.proofs.Common.{◌≡◌, ◌<◌, ◌+◌, ◌⊎◌, ◌==◌, ℕ, Bool, true, false, cond, List, [], ◌∷◌, length, Some, slice_get, refl, sym, ap, ◌∙◌, inl, inr, arith}
use Rattle.std.specs.List.{filter}
use Rattle.std.specs.Prelude.{option_map, ◌↔◌}
use Rattle.std.proofs.lemmas.Option.{slice_get_within, slice_get-map}
use Rattle.pg_model.specs.declared.journal.Entry.{Entry}
use Rattle.pg_model.specs.declared.journal.EntryAct.{EntryAct}
use Rattle.pg_model.specs.declared.journal.EntryAct.TheVariants.{Closed}
use Rattle.pg_model.specs.declared.script.Script.{Script}
use Rattle.pg_world.specs.declared.session.SessionView.{SessionView}
use Rattle.pg_world.specs.declared.session.Progress.TheVariants.{Closed as closed}
use Rattle.pg_world.specs.Sessions.{fresh_session}
use Rattle.pg_world.specs.Worlds.{World}
use Rattle.pg_relation.specs.Effect.{effect}
use Rattle.pg_relation.specs.Lines.{statements_of, statement_at}
use Rattle.pg_relation.specs.Journals.{world_from, world_after, IsLegalFrom, IsLegal, is_reply, acts_of, replies_of, last_of, IsComplete}
use Rattle.pg_relation.specs.Setup.{first_world}
use Rattle.pg_relation.proofs.Lists.{slice_get_some}
use Rattle.pg_relation.proofs.Sound.{sound_after}
use Rattle.pg_relation.proofs.Acted.{acted, another, answered_acted, closing, effect_other, ended_needs, own_behind, own_needs, reply_count}

-- what a session did, with one entry before
acts_own : (number : ℕ) (entry : Entry) (entries : List Entry) → (entry.session == number) ≡ true →
    acts_of number (entry ∷ entries) ≡ entry.act ∷ acts_of number entries
acts_own number entry entries own = rw own refl

acts_other : (number : ℕ) (entry : Entry) (entries : List Entry) → (entry.session == number) ≡ false →
    acts_of number (entry ∷ entries) ≡ acts_of number entries
acts_other number entry entries other = rw other refl

replies_more : (act : EntryAct) (acts : List EntryAct) →
    length (filter is_reply (act ∷ acts)) ≡ reply_count act + length (filter is_reply acts)
replies_more act acts = at (is_reply act)
  where
    at : (b : Bool) → length (cond b (act ∷ filter is_reply acts) (filter is_reply acts)) ≡ cond b 1 0 + length (filter is_reply acts)
    at true = omega arith
    at false = omega arith

-- the lines of a session that were answered are those that got a reply
answered_from : (script : Script) (world : World) (entries : List Entry) (number : ℕ) (session other : SessionView) →
    slice_get world.sessions number ≡ Some session → slice_get (world_from script world entries).sessions number ≡ Some other →
    other.answered ≡ session.answered + length (replies_of number entries)
unfolding world_from
answered_from script world [] number session other is end = let s : Some session ≡ Some other = sym is ∙ end in let e : session ≡ other = cc in rw e (omega arith)
answered_from script world (entry ∷ entries) number session other is end =
    at (entry.session == number) refl (λ z here. answered_from script (effect script world entry) entries number z other here end)
  where
    at : (b : Bool) → (entry.session == number) ≡ b →
        ((z : SessionView) → slice_get (effect script world entry).sessions number ≡ Some z →
        other.answered ≡ z.answered + length (replies_of number entries)) →
        other.answered ≡ session.answered + length (replies_of number (entry ∷ entries))
    at true own behind =
        let b = behind (acted world entry.session (statement_at script entry.session session) session entry.act) (own_behind script world entry number session own is) in
        let c = answered_acted world entry.session (statement_at script entry.session session) session entry.act in
        let d = ap (λ acts. length (filter is_reply acts)) (acts_own number entry entries own) in
        let e = replies_more entry.act (acts_of number entries) in
        omega (arith, b, c, d, e)
    at false other behind =
        let b = behind session (effect_other script world entry number (another number entry other) ∙ is) in
        let d = ap (λ acts. length (filter is_reply acts)) (acts_other number entry entries other) in
        omega (arith, b, d)

-- the last of a list is the last of what stands behind its first
last_more : (act : EntryAct) (acts : List EntryAct) (last : EntryAct) → last_of acts ≡ Some last →
    last_of (act ∷ acts) ≡ Some last
last_more act [] last is = absurd (cc is)
last_more act (a ∷ acts) last is = is

-- a session that has ended has closed last
closed_last : (script : Script) (world : World) (entries : List Entry) (number : ℕ) (session other : SessionView) →
    IsLegalFrom script world entries → slice_get world.sessions number ≡ Some session →
    slice_get (world_from script world entries).sessions number ≡ Some other → other.progress ≡ closed →
    ((session.progress ≡ closed) × (acts_of number entries ≡ [])) ⊎ (last_of (acts_of number entries) ≡ Some Closed)
unfolding world_from IsLegalFrom
closed_last script world [] number session other legal is end ended =
    let s : Some session ≡ Some other = sym is ∙ end in let e : session ≡ other = cc in inl (rw e ended, refl)
closed_last script world (entry ∷ entries) number session other legal is end ended =
    at (entry.session == number) refl (λ z here. closed_last script (effect script world entry) entries number z other legal.1 here end ended)
  where
    Behind : SessionView → Type 0
    Behind z = ((z.progress ≡ closed) × (acts_of number entries ≡ [])) ⊎ (last_of (acts_of number entries) ≡ Some Closed)

    own_last : (entry.session == number) ≡ true →
        (((acted world entry.session (statement_at script entry.session session) session entry.act).progress ≡ closed) × (acts_of number entries ≡ []))
        ⊎ (last_of (acts_of number entries) ≡ Some Closed) →
        last_of (acts_of number (entry ∷ entries)) ≡ Some Closed
    own_last own (inl h) =
        let a = closing world entry.session script (statement_at script entry.session session) session entry.act (own_needs script world entry number session own is legal.0) h.0 in
        rw (own, h.1, a) refl
    own_last own (inr h) = rw own (last_more entry.act (acts_of number entries) Closed h)

    at : (b : Bool) → (entry.session == number) ≡ b →
        ((z : SessionView) → slice_get (effect script world entry).sessions number ≡ Some z →
        ((z.progress ≡ closed) × (acts_of number entries ≡ [])) ⊎ (last_of (acts_of number entries) ≡ Some Closed)) →
        ((session.progress ≡ closed) × (acts_of number (entry ∷ entries) ≡ [])) ⊎ (last_of (acts_of number (entry ∷ entries)) ≡ Some Closed)
    at true own behind = inr (own_last own (behind (acted world entry.session (statement_at script entry.session session) session entry.act) (own_behind script world entry number session own is)))
    at false other behind = rw other (behind session (effect_other script world entry number (another number entry other) ∙ is))

-- a session that has ended has no entry more, and stays ended
closed_stays : (script : Script) (world : World) (entries : List Entry) (number : ℕ) (session other : SessionView) →
    IsLegalFrom script world entries → slice_get world.sessions number ≡ Some session →
    slice_get (world_from script world entries).sessions number ≡ Some other → session.progress ≡ closed →
    (other.progress ≡ closed) × (acts_of number entries ≡ [])
unfolding world_from IsLegalFrom
closed_stays script world [] number session other legal is end ended =
    let s : Some session ≡ Some other = sym is ∙ end in let e : session ≡ other = cc in (rw (← e) ended, refl)
closed_stays script world (entry ∷ entries) number session other legal is end ended =
    at (entry.session == number) refl (λ here. closed_stays script (effect script world entry) entries number session other legal.1 here end ended)
  where
    at : (b : Bool) → (entry.session == number) ≡ b →
        (slice_get (effect script world entry).sessions number ≡ Some session → (other.progress ≡ closed) × (acts_of number entries ≡ [])) →
        (other.progress ≡ closed) × (acts_of number (entry ∷ entries) ≡ [])
    at true own behind =
        absurd (ended_needs script world entry.session (statement_at script entry.session session) session entry.act ended
        (own_needs script world entry number session own is legal.0))
    at false other behind = rw other (behind (effect_other script world entry number (another number entry other) ∙ is))

-- a session that closed last has ended
last_closed : (script : Script) (world : World) (entries : List Entry) (number : ℕ) (session other : SessionView) →
    IsLegalFrom script world entries → slice_get world.sessions number ≡ Some session →
    slice_get (world_from script world entries).sessions number ≡ Some other →
    last_of (acts_of number entries) ≡ Some Closed → other.progress ≡ closed
unfolding world_from IsLegalFrom
last_closed script world [] number session other legal is end last = absurd (cc last)
last_closed script world (entry ∷ entries) number session other legal is end last =
    at (entry.session == number) refl
    (λ z here. last_closed script (effect script world entry) entries number z other legal.1 here end)
    (λ z here ended. (closed_stays script (effect script world entry) entries number z other legal.1 here end ended).0)
  where
    own_closed : (acts : List EntryAct) → (entry.session == number) ≡ true →
        ((z : SessionView) → slice_get (effect script world entry).sessions number ≡ Some z →
        last_of acts ≡ Some Closed → other.progress ≡ closed) →
        ((z : SessionView) → slice_get (effect script world entry).sessions number ≡ Some z → z.progress ≡ closed →
        other.progress ≡ closed) → last_of (entry.act ∷ acts) ≡ Some Closed → other.progress ≡ closed
    own_closed [] own behind stays is_last =
        let a : entry.act ≡ Closed = cc is_last in
        stays (acted world entry.session (statement_at script entry.session session) session entry.act) (own_behind script world entry number session own is) (rw a refl)
    own_closed (a ∷ acts) own behind stays is_last =
        behind (acted world entry.session (statement_at script entry.session session) session entry.act) (own_behind script world entry number session own is) is_last

    at : (b : Bool) → (entry.session == number) ≡ b →
        ((z : SessionView) → slice_get (effect script world entry).sessions number ≡ Some z →
        last_of (acts_of number entries) ≡ Some Closed → other.progress ≡ closed) →
        ((z : SessionView) → slice_get (effect script world entry).sessions number ≡ Some z → z.progress ≡ closed →
        other.progress ≡ closed) → other.progress ≡ closed
    at true own behind stays = own_closed (acts_of number entries) own behind stays (rw (acts_own number entry entries own) at last)
    at false other behind stays =
        behind session (effect_other script world entry number (another number entry other) ∙ is) (rw (acts_other number entry entries other) at last)

-- a session of the script, before its first line
first_session : (script : Script) (number : ℕ) → number < length script.sessions →
    slice_get (first_world script).sessions number ≡ Some fresh_session
first_session script number within =
    let name = slice_get_some script.sessions number within in
    slice_get-map (λ n. fresh_session) script.sessions number ∙ ap (λ o. option_map (λ n. fresh_session) o) name.1

-- and where a journal has left it
session_after : (script : Script) (journal : List Entry) (number : ℕ) → IsLegal script journal →
    number < length script.sessions → (session : SessionView) × (slice_get (world_after script journal).sessions number ≡ Some session)
session_after script journal number legal within =
    let sound = sound_after script journal legal in
    slice_get_some (world_after script journal).sessions number (omega (arith, within, sound.sessions))

-- the replies of a session in a legal journal are as many as its lines that were answered
pub replies_answered : (script : Script) (journal : List Entry) (number : ℕ) (session : SessionView) →
    number < length script.sessions → slice_get (world_after script journal).sessions number ≡ Some session →
    length (replies_of number journal) ≡ session.answered
replies_answered script journal number session within is =
    let a = answered_from script (first_world script) journal number fresh_session session (first_session script number within) is in
    omega (arith, a)

-- a session closed last exactly where it has ended
pub closed_where_ended : (script : Script) (journal : List Entry) (number : ℕ) (session : SessionView) → IsLegal script journal →
    number < length script.sessions → slice_get (world_after script journal).sessions number ≡ Some session →
    (session.progress ≡ closed) ↔ (last_of (acts_of number journal) ≡ Some Closed)
closed_where_ended script journal number session legal within is = (
  λ ended. at (closed_last script (first_world script) journal number fresh_session session legal (first_session script number within) is ended),
  λ last. last_closed script (first_world script) journal number fresh_session session legal (first_session script number within) is last,
)
  where
    at : ((fresh_session.progress ≡ closed) × (acts_of number journal ≡ [])) ⊎ (last_of (acts_of number journal) ≡ Some Closed) →
        last_of (acts_of number journal) ≡ Some Closed
    at (inl h) = absurd (let e = h.0 in cc e)
    at (inr h) = h

-- a session that has ended has a reply to each of its lines
pub replies_where_closed : (script : Script) (journal : List Entry) (number : ℕ) → IsLegal script journal →
    number < length script.sessions → last_of (acts_of number journal) ≡ Some Closed →
    length (replies_of number journal) ≡ length (statements_of script number)
replies_where_closed script journal number legal within last =
    let session = session_after script journal number legal within in
    let ended = (closed_where_ended script journal number session.0 legal within session.1).1 last in
    let stands = (sound_after script journal legal).standing number session.0 session.1 in
    let all = rw ended at stands in
    replies_answered script journal number session.0 within session.1 ∙ all

-- a legal journal that leaves all sessions ended is complete
pub complete_when_closed : (script : Script) (journal : List Entry) → IsLegal script journal →
    ((number : ℕ) (session : SessionView) → slice_get (world_after script journal).sessions number ≡ Some session →
    session.progress ≡ closed) → IsComplete script journal
complete_when_closed script journal legal ended = record {
  replies = λ number within. replies_where_closed script journal number legal within (last number within);
  closed = last;
}
  where
    last : (number : ℕ) → number < length script.sessions → last_of (acts_of number journal) ≡ Some Closed
    last number within =
        let session = session_after script journal number legal within in
        (closed_where_ended script journal number session.0 legal within session.1).0 (ended number session.0 session.1)

-- and a complete one leaves them so
pub closed_when_complete : (script : Script) (journal : List Entry) → IsLegal script journal → IsComplete script journal →
    (number : ℕ) (session : SessionView) → slice_get (world_after script journal).sessions number ≡ Some session → session.progress ≡ closed
closed_when_complete script journal legal complete number session is =
    let sound = sound_after script journal legal in
    let within : number < length script.sessions =
    omega (arith, slice_get_within (world_after script journal).sessions number session is, sound.sessions) in
    (closed_where_ended script journal number session legal within is).1 (complete.closed number within)
