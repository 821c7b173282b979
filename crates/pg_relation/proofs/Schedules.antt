-- The session that moves next: it stands where it can move, and there is one until all have ended.
use Rattle.std.proofs.Common.{◌≡◌, ◌<◌, ◌≤◌, ◌+◌, ◌⊎◌, ◌&&◌, ℕ, zero, suc, Bool, true, false, cond, not, List, [], ◌∷◌, length, drop, Option, Some, None, slice_get, refl, sym, ap, ◌∙◌, subst, inl, inr, arith, length-drop, add-one}
use Rattle.std.specs.Prelude.{is_some}
use Rattle.std.specs.Option.{option_map_or}
use Rattle.std.proofs.lemmas.Bool.{and_parts}
use Rattle.std.proofs.lemmas.Option.{cond_some, slice_get_within}
use Rattle.pg_xacts.specs.declared.on.On.{On}
use Rattle.pg_waits.specs.Slots.{wait_of}
use Rattle.pg_model.specs.declared.script.Line.{Line}
use Rattle.pg_model.specs.declared.script.Script.{Script}
use Rattle.pg_world.specs.declared.session.Progress.{Progress}
use Rattle.pg_world.specs.declared.session.SessionView.{SessionView}
use Rattle.pg_world.specs.declared.session.Progress.TheVariants.{Idle as idle, Inside as inside, Ending as ending, Closed as closed}
use Rattle.pg_world.specs.Worlds.{World}
use Rattle.pg_relation.specs.Moves.{moves_of}
use Rattle.pg_relation.specs.Schedules.{Schedule, is_inside, is_idle, is_queued, is_waiting, is_going_on, lowest, or_else, continuing, waking, beginning, ready, line_taken, schedule_behind, settled_schedule, remaining, next_session}
use Rattle.pg_relation.specs.Sound.{HasSoundWaits, IsSound}
use Rattle.pg_relation.proofs.Lists.{drop_behind}
use Rattle.pg_relation.proofs.First.{HasFirst, first_move}
use Rattle.pg_relation.proofs.Walks.{Ends, free_of, last_open, walk_ends}

-- the first answer, or else the second
or_else_some : {X : Type 0} (a b : Option X) (x : X) → or_else a b ≡ Some x →
    (a ≡ Some x) ⊎ ((a ≡ None) × (b ≡ Some x))
or_else_some (Some y) b x is = inl is
or_else_some None b x is = inr (refl, is)

or_else_none : {X : Type 0} (a b : Option X) → or_else a b ≡ None → (a ≡ None) × (b ≡ None)
or_else_none (Some y) b is = absurd (cc is)
or_else_none None b is = (refl, is)

-- a session of the list passes the test; the first has that number
record IsPassing (test : ℕ → SessionView → Bool) (first : ℕ) (sessions : List SessionView) (number : ℕ) : Type 0 where
  place : ℕ
  counted : number ≡ first + place
  session : SessionView
  is : slice_get sessions place ≡ Some session
  passes : test number session ≡ true

lowest_some : (test : ℕ → SessionView → Bool) (first : ℕ) (sessions : List SessionView) (number : ℕ) →
    lowest test first sessions ≡ Some number → IsPassing test first sessions number
lowest_some test first [] number is = absurd (cc is)
lowest_some test first (session ∷ sessions) number is =
    at (test first session) refl (lowest_some test (first + 1) sessions number) is
  where
    at : (b : Bool) → test first session ≡ b →
        (lowest test (first + 1) sessions ≡ Some number → IsPassing test (first + 1) sessions number) →
        cond b (Some first) (lowest test (first + 1) sessions) ≡ Some number → IsPassing test first (session ∷ sessions) number
    at true passes behind e =
        let s : first ≡ number = cc e in
        record { place = 0; counted = omega (arith, s); session = session; is = refl; passes = subst (λ k. test k session ≡ true) s passes }
    at false passes behind e =
        let r = behind e in
        record { place = suc r.place; counted = omega (arith, r.counted); session = r.session; is = r.is; passes = r.passes }

lowest_none : (test : ℕ → SessionView → Bool) (first : ℕ) (sessions : List SessionView) (number place : ℕ) (session : SessionView) →
    lowest test first sessions ≡ None → number ≡ first + place → slice_get sessions place ≡ Some session →
    test number session ≡ false
lowest_none test first [] number place session none counted is = absurd (cc is)
lowest_none test first (other ∷ sessions) number place session none counted is =
    at (test first other) refl none (λ p e c i. lowest_none test (first + 1) sessions number p session e c i) place counted is
  where
    at : (b : Bool) → test first other ≡ b → cond b (Some first) (lowest test (first + 1) sessions) ≡ None →
        ((p : ℕ) → lowest test (first + 1) sessions ≡ None → number ≡ (first + 1) + p → slice_get sessions p ≡ Some session →
        test number session ≡ false) →
        (p : ℕ) → number ≡ first + p → slice_get (other ∷ sessions) p ≡ Some session → test number session ≡ false
    at true passes e behind p counted is = absurd (cc e)
    at false passes e behind zero counted is =
        let s : number ≡ first = omega (arith, counted) in
        let t : other ≡ session = cc is in
        rw (s, ← t) passes
    at false passes e behind (suc p) counted is = behind p e (omega (arith, counted)) is

-- a session that stands as the test says
record IsStanding (world : World) (test : SessionView → Bool) (number : ℕ) : Type 0 where
  session : SessionView
  is : slice_get world.sessions number ≡ Some session
  passes : test session ≡ true

lowest_standing : (world : World) (test : ℕ → SessionView → Bool) (number : ℕ) →
    lowest test 0 world.sessions ≡ Some number → IsStanding world (test number) number
lowest_standing world test number is =
    let r = lowest_some test 0 world.sessions number is in
    let s : r.place ≡ number = omega (arith, r.counted) in
    record { session = r.session; is = subst (λ k. slice_get world.sessions k ≡ Some r.session) s r.is; passes = r.passes }

-- a session that is inside a statement, and does not wait
pub record GoesOn (world : World) (number : ℕ) : Type 0 where
  pub session : SessionView
  pub is : slice_get world.sessions number ≡ Some session
  pub inside_is : is_inside session.progress ≡ true
  pub free : wait_of world.waits number ≡ None

no_wait : (wait : Option On) → not (is_some wait) ≡ true → wait ≡ None
no_wait None is = refl
no_wait (Some on) is = absurd (cc is)

pub goes_on : (world : World) (number : ℕ) → is_going_on world number ≡ true → GoesOn world number
goes_on world number is =
    at (slice_get world.sessions number) refl
    (and_parts (option_map_or (λ session. is_inside session.progress) (slice_get world.sessions number) false)
    (not (is_waiting world number)) is)
  where
    at : (o : Option SessionView) → slice_get world.sessions number ≡ o →
        (option_map_or (λ session. is_inside session.progress) (slice_get world.sessions number) false ≡ true)
        × (not (is_waiting world number) ≡ true) → GoesOn world number
    at None here both = absurd (let e = rw here at both.0 in let f : false ≡ true = e in cc f)
    at (Some session) here both = record {
      session = session;
      is = here;
      inside_is = rw here at both.0;
      free = no_wait (wait_of world.waits number) both.1;
    }

-- who is inside a statement and does not wait goes on
pub going : (world : World) (number : ℕ) (session : SessionView) → slice_get world.sessions number ≡ Some session →
    is_inside session.progress ≡ true → wait_of world.waits number ≡ None → is_going_on world number ≡ true
going world number session is inside_is free = rw (is, free, inside_is) refl

continuing_some : (world : World) (last : Option ℕ) (number : ℕ) → continuing world last ≡ Some number →
    is_going_on world number ≡ true
continuing_some world None number e = absurd (cc e)
continuing_some world (Some other) number e =
    let both = cond_some (is_going_on world other) other number e in
    subst (λ n. is_going_on world n ≡ true) both.1 both.0

waking_some : (world : World) (waited : List ℕ) (number : ℕ) → waking world waited ≡ Some number →
    is_going_on world number ≡ true
waking_some world [] number e = absurd (cc e)
waking_some world (first ∷ waited) number e =
    at (is_going_on world first) refl e (waking_some world waited number)
  where
    at : (b : Bool) → is_going_on world first ≡ b → cond b (Some first) (waking world waited) ≡ Some number →
        (waking world waited ≡ Some number → is_going_on world number ≡ true) → is_going_on world number ≡ true
    at true on e behind = let k : first ≡ number = cc e in subst (λ n. is_going_on world n ≡ true) k on
    at false on e behind = behind e

-- a session that is ready goes on, or is between statements and has a queued line
record IsReady (script : Script) (world : World) (schedule : Schedule) (number : ℕ) : Type 0 where
  session : SessionView
  is : slice_get world.sessions number ≡ Some session
  ready_to : GoesOn world number
      ⊎ ((is_idle session.progress ≡ true) × (is_queued script schedule number session ≡ true))

ready_some : (script : Script) (world : World) (schedule : Schedule) (number : ℕ) →
    ready script world schedule ≡ Some number → IsReady script world schedule number
ready_some script world schedule number e = at (or_else_some (continuing world schedule.last) _ number e)
  where
    on : GoesOn world number → IsReady script world schedule number
    on r = record { session = r.session; is = r.is; ready_to = inl r }

    behind : ((waking world schedule.waited ≡ Some number)
        ⊎ ((waking world schedule.waited ≡ None) × (beginning script world schedule ≡ Some number))) →
        IsReady script world schedule number
    behind (inl h) = on (goes_on world number (waking_some world schedule.waited number h))
    behind (inr h) =
        let r = lowest_standing world (λ n s. is_idle s.progress && is_queued script schedule n s) number h.1 in
        let both = and_parts (is_idle r.session.progress) (is_queued script schedule number r.session) r.passes in
        record { session = r.session; is = r.is; ready_to = inr both }

    at : ((continuing world schedule.last ≡ Some number)
        ⊎ ((continuing world schedule.last ≡ None)
        × (or_else (waking world schedule.waited) (beginning script world schedule) ≡ Some number))) →
        IsReady script world schedule number
    at (inl h) = on (goes_on world number (continuing_some world schedule.last number h))
    at (inr h) = behind (or_else_some (waking world schedule.waited) (beginning script world schedule) number h.1)

-- a settled schedule has somebody ready, or no line left
pub settled_ready : (script : Script) (world : World) (schedule : Schedule) (lines : List Line) →
    lines ≡ drop schedule.taken script.lines →
    (is_some (ready script world (schedule_behind script world schedule lines)) ≡ true)
    ⊎ (drop (schedule_behind script world schedule lines).taken script.lines ≡ [])
settled_ready script world schedule [] rest = inr (sym rest)
settled_ready script world schedule (line ∷ lines) rest =
    at (is_some (ready script world schedule)) refl (settled_ready script world (line_taken schedule) lines)
  where
    at : (b : Bool) → is_some (ready script world schedule) ≡ b →
        (lines ≡ drop (schedule.taken + 1) script.lines →
        (is_some (ready script world (schedule_behind script world (line_taken schedule) lines)) ≡ true)
        ⊎ (drop (schedule_behind script world (line_taken schedule) lines).taken script.lines ≡ [])) →
        (is_some (ready script world (cond b schedule (schedule_behind script world (line_taken schedule) lines))) ≡ true)
        ⊎ (drop (cond b schedule (schedule_behind script world (line_taken schedule) lines)).taken script.lines ≡ [])
    at true is behind = inl is
    at false is behind = behind (rw add-one (drop_behind script.lines schedule.taken line lines rest))

-- where somebody is ready, no line is taken
settled_stays : (script : Script) (world : World) (schedule : Schedule) (lines : List Line) →
    is_some (ready script world schedule) ≡ true → schedule_behind script world schedule lines ≡ schedule
settled_stays script world schedule [] is = refl
settled_stays script world schedule (line ∷ lines) is = rw is refl

-- settling twice is settling once
pub settled_once : (script : Script) (world : World) (schedule : Schedule) →
    settled_schedule script world (settled_schedule script world schedule) ≡ settled_schedule script world schedule
settled_once script world schedule = at (settled_ready script world schedule (drop schedule.taken script.lines) refl)
  where
    at : ((is_some (ready script world (settled_schedule script world schedule)) ≡ true)
        ⊎ (drop (settled_schedule script world schedule).taken script.lines ≡ [])) →
        settled_schedule script world (settled_schedule script world schedule) ≡ settled_schedule script world schedule
    at (inl is) = settled_stays script world (settled_schedule script world schedule) _ is
    at (inr none) = rw none refl

-- and whoever moves next is the same
pub next_settled : (script : Script) (world : World) (schedule : Schedule) →
    next_session script world (settled_schedule script world schedule) ≡ next_session script world schedule
next_settled script world schedule =
    ap (λ s. or_else (ready script world s) (remaining world)) (settled_once script world schedule)

-- where none is ready although lines were taken, each line was taken
settled_all : (script : Script) (world : World) (schedule : Schedule) →
    ready script world (settled_schedule script world schedule) ≡ None →
    length script.lines ≤ (settled_schedule script world schedule).taken
settled_all script world schedule none = at (settled_ready script world schedule (drop schedule.taken script.lines) refl)
  where
    at : ((is_some (ready script world (settled_schedule script world schedule)) ≡ true)
        ⊎ (drop (settled_schedule script world schedule).taken script.lines ≡ [])) →
        length script.lines ≤ (settled_schedule script world schedule).taken
    at (inl is) = absurd (let e = rw none at is in let f : false ≡ true = e in cc f)
    at (inr rest) =
        let n = ap length rest in
        omega (arith, n, length-drop (settled_schedule script world schedule).taken script.lines)

-- the session that moves next
pub record CanMove (script : Script) (world : World) (schedule : Schedule) (number : ℕ) : Type 0 where
  -- it is one of the script's, and goes on or is between statements
  pub session : SessionView
  pub is : slice_get world.sessions number ≡ Some session
  pub stands : GoesOn world number ⊎ (is_idle session.progress ≡ true)
  -- while lines remain untaken, it is inside a statement or has a queued line
  pub has_line : (settled_schedule script world schedule).taken < length script.lines → is_idle session.progress ≡ true →
      is_queued script (settled_schedule script world schedule) number session ≡ true

inside_unended : (p : Progress) → is_inside p ≡ true → p ≡ closed → ⊥
inside_unended p inside_is ended = let h = rw ended at inside_is in let k : false ≡ true = h in cc

idle_unended : (p : Progress) → is_idle p ≡ true → p ≡ closed → ⊥
idle_unended p idle_is ended = let h = rw ended at idle_is in let k : false ≡ true = h in cc

not_both : (p : Progress) → is_inside p ≡ true → is_idle p ≡ true → ⊥
not_both idle inside_is idle_is = cc inside_is
not_both (inside running) inside_is idle_is = cc idle_is
not_both (ending tag) inside_is idle_is = cc idle_is
not_both closed inside_is idle_is = cc inside_is

-- who goes on is not between statements
goes_not_idle : (world : World) (number : ℕ) (session : SessionView) → slice_get world.sessions number ≡ Some session →
    GoesOn world number → is_idle session.progress ≡ true → ⊥
goes_not_idle world number session is on idle_is =
    let both : Some on.session ≡ Some session = sym on.is ∙ is in
    let same : on.session ≡ session = cc in
    not_both session.progress (subst (λ s. is_inside s.progress ≡ true) same on.inside_is) idle_is

pub next_can_move : (script : Script) (world : World) (schedule : Schedule) (number : ℕ) →
    next_session script world schedule ≡ Some number → CanMove script world schedule number
next_can_move script world schedule number e =
    at (or_else_some (ready script world (settled_schedule script world schedule)) (remaining world) number e)
  where
    by_going : GoesOn world number → CanMove script world schedule number
    by_going on = record {
      session = on.session;
      is = on.is;
      stands = inl on;
      has_line = λ more idle_is. absurd (goes_not_idle world number on.session on.is on idle_is);
    }

    by_ready : (r : IsReady script world (settled_schedule script world schedule) number) →
        (GoesOn world number ⊎ ((is_idle r.session.progress ≡ true)
        × (is_queued script (settled_schedule script world schedule) number r.session ≡ true))) →
        CanMove script world schedule number
    by_ready r (inl on) = by_going on
    by_ready r (inr h) = record { session = r.session; is = r.is; stands = inr h.0; has_line = λ more idle_is. h.1 }

    left : ready script world (settled_schedule script world schedule) ≡ None →
        ((lowest (λ n s. is_idle s.progress) 0 world.sessions ≡ Some number)
        ⊎ ((lowest (λ n s. is_idle s.progress) 0 world.sessions ≡ None) × (lowest (λ n s. is_going_on world n) 0 world.sessions ≡ Some number))) →
        CanMove script world schedule number
    left none (inl h) =
        let r = lowest_standing world (λ n s. is_idle s.progress) number h in
        let all = settled_all script world schedule none in
        record { session = r.session; is = r.is; stands = inr r.passes; has_line = λ more idle_is. absurd (omega (arith, more, all)) }
    left none (inr h) =
        let r = lowest_standing world (λ n s. is_going_on world n) number h.1 in by_going (goes_on world number r.passes)

    at : ((ready script world (settled_schedule script world schedule) ≡ Some number)
        ⊎ ((ready script world (settled_schedule script world schedule) ≡ None) × (remaining world ≡ Some number))) →
        CanMove script world schedule number
    at (inl h) = let r = ready_some script world (settled_schedule script world schedule) number h in by_ready r r.ready_to
    at (inr h) = left h.0 (or_else_some (lowest (λ n s. is_idle s.progress) 0 world.sessions) _ number h.1)

-- it has not ended
pub next_unended : (script : Script) (world : World) (schedule : Schedule) (number : ℕ) (r : CanMove script world schedule number) →
    r.session.progress ≡ closed → ⊥
next_unended script world schedule number r ended = at r.stands
  where
    at : (GoesOn world number ⊎ (is_idle r.session.progress ≡ true)) → ⊥
    at (inl on) =
        let both : Some on.session ≡ Some r.session = sym on.is ∙ r.is in
        let same : on.session ≡ r.session = cc in
        inside_unended r.session.progress (subst (λ s. is_inside s.progress ≡ true) same on.inside_is) ended
    at (inr idle_is) = idle_unended r.session.progress idle_is ended

-- and does not wait, where no session between statements does
pub next_free : (script : Script) (world : World) (schedule : Schedule) (number : ℕ) → CanMove script world schedule number →
    HasSoundWaits world → wait_of world.waits number ≡ None
next_free script world schedule number r waits = at r.stands
  where
    by : (wait : Option On) → wait_of world.waits number ≡ wait → is_idle r.session.progress ≡ true → wait_of world.waits number ≡ None
    by None is idle_is = is
    by (Some on) is idle_is =
        let w = waits.standing number on is in
        let both : Some r.session ≡ Some w.session = sym r.is ∙ w.is in
        let same : r.session ≡ w.session = cc in
        absurd (let e = rw (same, w.inside_is) at idle_is in let f : false ≡ true = e in cc f)

    at : (GoesOn world number ⊎ (is_idle r.session.progress ≡ true)) → wait_of world.waits number ≡ None
    at (inl on) = on.free
    at (inr idle_is) = by (wait_of world.waits number) refl idle_is

-- it has a first move
pub next_moves : (script : Script) (world : World) (schedule : Schedule) (number : ℕ) → IsSound script world → HasSoundWaits world →
    next_session script world schedule ≡ Some number → HasFirst (moves_of script world number)
next_moves script world schedule number sound waits e =
    let r = next_can_move script world schedule number e in
    first_move script world number r.session sound r.is (next_unended script world schedule number r)
    (next_free script world schedule number r waits)

-- and it is one of the script's
pub next_within : (script : Script) (world : World) (schedule : Schedule) (number : ℕ) →
    next_session script world schedule ≡ Some number → number < length world.sessions
next_within script world schedule number e =
    let r = next_can_move script world schedule number e in
    slice_get_within world.sessions number r.session r.is

-- where no session moves next, each has ended or waits
none_stands : (script : Script) (world : World) (schedule : Schedule) (number : ℕ) (session : SessionView) →
    next_session script world schedule ≡ None → slice_get world.sessions number ≡ Some session → wait_of world.waits number ≡ None →
    session.progress ≡ closed
none_stands script world schedule number session e is free =
    let last = or_else_none (ready script world (settled_schedule script world schedule)) (remaining world) e in
    let both = or_else_none (lowest (λ n s. is_idle s.progress) 0 world.sessions) _ last.1 in
    at session.progress refl
    (lowest_none (λ n s. is_idle s.progress) 0 world.sessions number number session both.0 (omega arith) is)
    (lowest_none (λ n s. is_going_on world n) 0 world.sessions number number session both.1 (omega arith) is)
  where
    at : (p : Progress) → session.progress ≡ p → is_idle p ≡ false → is_going_on world number ≡ false → p ≡ closed
    at idle p idle_is stays = absurd (cc idle_is)
    at (inside running) p idle_is stays =
        absurd (let e : true ≡ false = sym (going world number session is (ap is_inside p) free) ∙ stays in cc e)
    at (ending tag) p idle_is stays =
        absurd (let e : true ≡ false = sym (going world number session is (ap is_inside p) free) ∙ stays in cc e)
    at closed p idle_is stays = refl

-- and none waits: the waits of who waits lead to a session that does not wait, and has not ended
pub none_closed : (script : Script) (world : World) (schedule : Schedule) (number : ℕ) (session : SessionView) → HasSoundWaits world →
    next_session script world schedule ≡ None → slice_get world.sessions number ≡ Some session → session.progress ≡ closed
none_closed script world schedule number session waits e is = at (walk_ends world.waits waits.acyclic number)
  where
    at : Ends world.waits number → session.progress ≡ closed
    at (inl free) = none_stands script world schedule number session e is (free_of world.waits number free)
    at (inr walk) =
        let held = last_open world waits number walk.0 walk.1 in
        absurd (held.unended (none_stands script world schedule walk.0 held.session e held.is (free_of world.waits walk.0 walk.2)))

-- where all have ended, none does
pub closed_none : (script : Script) (world : World) (schedule : Schedule) →
    ((number : ℕ) (session : SessionView) → slice_get world.sessions number ≡ Some session → session.progress ≡ closed) →
    next_session script world schedule ≡ None
closed_none script world schedule all = at (next_session script world schedule) refl
  where
    at : (o : Option ℕ) → next_session script world schedule ≡ o → next_session script world schedule ≡ None
    at None e = e
    at (Some number) e =
        let r = next_can_move script world schedule number e in
        absurd (next_unended script world schedule number r (all number r.session r.is))

-- while a session has not ended, some session has a move
pub some_moves : (script : Script) (world : World) (number : ℕ) (session : SessionView) → IsSound script world → HasSoundWaits world →
    slice_get world.sessions number ≡ Some session → (session.progress ≡ closed → ⊥) →
    (other : ℕ) × HasFirst (moves_of script world other)
some_moves script world number session sound waits is unended = at (walk_ends world.waits waits.acyclic number)
  where
    at : Ends world.waits number → (other : ℕ) × HasFirst (moves_of script world other)
    at (inl free) = (number, first_move script world number session sound is unended (free_of world.waits number free))
    at (inr walk) =
        let held = last_open world waits number walk.0 walk.1 in
        (walk.0, first_move script world walk.0 held.session sound held.is held.unended (free_of world.waits walk.0 walk.2))
