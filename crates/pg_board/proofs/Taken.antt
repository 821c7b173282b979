-- Queues when one line more is taken, and the session that is ready by the queues.
use Rattle.std.proofs.Common.{◌≡◌, ◌≢◌, ℕ, zero, suc, ◌<◌, ◌≤◌, ◌+◌, ◌&&◌, ◌==◌, Bool, true, false, cond, List, [], ◌∷◌, length, take, Option, Some, None, slice_get, slice_set, refl, arith, ap, sym, ◌∙◌, add-one}
use Rattle.std.specs.Prelude.{option_map, Result, is_some, filter_map}
use Rattle.pg_lists.specs.Numbered.{with_changed_item}
use Rattle.std.proofs.lemmas.List.{length-set}
use Rattle.std.proofs.lemmas.Option.{slice_get_within}
use Rattle.std.proofs.lemmas.Bool.Decides.{nat_tests}
use Rattle.pg_lists.proofs.Lists.{replaced_each}
use Rattle.pg_model.specs.declared.error.SqlError.{SqlError}
use Rattle.pg_model.specs.declared.script.Content.{Content}
use Rattle.pg_model.specs.declared.script.Content.TheVariants.{Given}
use Rattle.pg_model.specs.declared.script.Script.{Script}
use Rattle.pg_model.specs.declared.script.Line.{Line}
use Rattle.pg_model.specs.declared.statement.Statement.{Statement}
use Rattle.pg_model.specs.Scripts.{session_in}
use Rattle.pg_world.specs.declared.session.SessionView.{SessionView}
use Rattle.pg_world.specs.Worlds.{World}
use Rattle.pg_relation.specs.Lines.{given_to, statements_given}
use Rattle.pg_relation.specs.Schedules.{continuing, is_idle, is_queued, lowest, or_else, ready, waking}
use Rattle.pg_board.specs.declared.queues.Queue.{Queue}
use Rattle.pg_board.specs.Queues.{AreQueues, has_taken, is_given_to, places_of, queue_of, queued_more, ready_by, taken_of}

-- no more is kept than there is
pub kept_bound : {X Y : Type 0} (f : X → Option Y) (xs : List X) → length (filter_map f xs) ≤ length xs
kept_bound f [] = omega arith
kept_bound {Y = Y} f (x ∷ xs) = at (f x) refl (kept_bound f xs)
  where
    at : (o : Option Y) → f x ≡ o → length (filter_map f xs) ≤ length xs → length (filter_map f (x ∷ xs)) ≤ length (x ∷ xs)
    at None is most = rw is (omega (arith, most))
    at (Some y) is most = rw is (omega (arith, most))

given_take_bound : (session : ℕ) (lines : List Line) (n : ℕ) → length (statements_given session (take n lines)) ≤ n
given_take_bound session lines zero = omega arith
given_take_bound session [] (suc n) = omega arith
given_take_bound session (line ∷ lines) (suc n) = at (given_to session line.content) refl (given_take_bound session lines n)
  where
    at : (o : Option (Result Statement SqlError)) → given_to session line.content ≡ o →
        length (statements_given session (take n lines)) ≤ n → length (statements_given session (take (suc n) (line ∷ lines))) ≤ suc n
    at None is most = rw is (omega (arith, most))
    at (Some given) is most = rw is (omega (arith, most))

-- two tests that agree below a bound have the same lowest session there
lowest_same : (p q : ℕ → SessionView → Bool) (bound first : ℕ) (xs : List SessionView) → first + length xs ≤ bound →
    ((n : ℕ) (x : SessionView) → n < bound → p n x ≡ q n x) → lowest p first xs ≡ lowest q first xs
lowest_same p q bound first [] within same = refl
lowest_same p q bound first (x ∷ xs) within same =
    rw (same first x (omega (arith, within)))
    (ap (λ o. cond (q first x) (Some first) o) (lowest_same p q bound (first + 1) xs (omega (arith, within)) same))

-- what a queue shows of its session
pub has_taken_is : (script : Script) (taken : ℕ) (queues : List Queue) (last : Option ℕ) (waited : List ℕ) (session : ℕ) (x : SessionView) →
    AreQueues script taken queues → session < length queues →
    has_taken queues session x ≡ is_queued script (record { taken = taken; last = last; waited = waited }) session x
has_taken_is script taken queues last waited session x are within = rw (are.each session within) refl

-- the queues show who is ready
pub ready_by_queues : (script : Script) (taken : ℕ) (queues : List Queue) (world : World) (last : Option ℕ) (waited : List ℕ) →
    AreQueues script taken queues → length world.sessions ≤ length queues →
    ready_by queues world last waited ≡ ready script world (record { taken = taken; last = last; waited = waited })
ready_by_queues script taken queues world last waited are within =
    ap (λ o. or_else (continuing world last) (or_else (waking world waited) o))
    (lowest_same _ _ (length queues) 0 world.sessions (omega (arith, within))
    (λ n x lt. ap (λ b. is_idle x.progress && b) (has_taken_is script taken queues last waited n x are lt)))

-- one line more is taken, of the session or of another
given_more : (session : ℕ) (lines : List Line) (n : ℕ) (line : Line) → slice_get lines n ≡ Some line →
    length (statements_given session (take (suc n) lines))
    ≡ length (statements_given session (take n lines)) + cond (is_given_to session line) 1 0
given_more session [] n line is = absurd (cc is)
given_more session (first ∷ lines) zero line is =
    let e : first ≡ line = cc is in rw e (at (given_to session line.content) refl)
  where
    at : (o : Option (Result Statement SqlError)) → given_to session line.content ≡ o →
        length (statements_given session (line ∷ [])) ≡ 0 + cond (is_given_to session line) 1 0
    at None is = rw is refl
    at (Some given) is = rw is refl
given_more session (first ∷ lines) (suc n) line is = at (given_to session first.content) refl (given_more session lines n line is)
  where
    at : (o : Option (Result Statement SqlError)) → given_to session first.content ≡ o →
        length (statements_given session (take (suc n) lines))
        ≡ length (statements_given session (take n lines)) + cond (is_given_to session line) 1 0 →
        length (statements_given session (take (suc (suc n)) (first ∷ lines)))
        ≡ length (statements_given session (take (suc n) (first ∷ lines))) + cond (is_given_to session line) 1 0
    at None is more = rw is more
    at (Some given) is more = rw is (omega (arith, more))

-- a line is given to the session that it names
given_by : (session : ℕ) (content : Content) → is_some (given_to session content) ≡ (session_in content == session)
given_by session (Given other given) = at (other == session)
  where
    at : (b : Bool) → is_some (cond b (Some given) None) ≡ b
    at true = refl
    at false = refl

taken_more : (script : Script) (taken session : ℕ) (line : Line) → slice_get script.lines taken ≡ Some line →
    taken_of script (taken + 1) session ≡ taken_of script taken session + cond (session_in line.content == session) 1 0
taken_more script taken session line is =
    rw add-one
    (given_more session script.lines taken line is
    ∙ ap (λ b. taken_of script taken session + cond b 1 0) (given_by session line.content))

taken_other : (script : Script) (taken session : ℕ) (line : Line) → slice_get script.lines taken ≡ Some line →
    session ≢ session_in line.content → queue_of script taken session ≡ queue_of script (taken + 1) session
taken_other script taken session line is other =
    let none : ◌≡◌ {A = ℕ} (cond (session_in line.content == session) 1 0) 0 = grind (arith, nat_tests) in
    let same : taken_of script taken session ≡ taken_of script (taken + 1) session =
    let more = taken_more script taken session line is in omega (arith, more, none) in
    ap (λ n. record { places = places_of session 0 script.lines; taken = n }) same

taken_own : (script : Script) (taken session : ℕ) (line : Line) → slice_get script.lines taken ≡ Some line →
    session_in line.content ≡ session → taken_of script taken session + 1 ≡ taken_of script (taken + 1) session
taken_own script taken session line is own =
    let one : ◌≡◌ {A = ℕ} (cond (session_in line.content == session) 1 0) 1 = grind (arith, nat_tests, own) in
    let more = taken_more script taken session line is in omega (arith, more, one)

-- the queues when a line is taken that is queued for its session
queues_taken : (script : Script) (taken session : ℕ) (queues : List Queue) (line : Line) (queue : Queue) →
    AreQueues script taken queues → slice_get script.lines taken ≡ Some line → session_in line.content ≡ session →
    slice_get queues session ≡ Some queue →
    AreQueues script (taken + 1) (slice_set queues session (record { places = queue.places; taken = queue.taken + 1 }))
queues_taken script taken session queues line queue are is own there =
    let within : session < length queues = slice_get_within queues session queue there in
    let both : Some queue ≡ Some (queue_of script taken session) = sym there ∙ are.each session within in
    let same : queue ≡ queue_of script taken session = cc in
    record {
      sessions = length-set queues session _ ∙ are.sessions;
      each = replaced_each (queue_of script (taken + 1)) queues session _
          (λ i lt other. are.each i lt ∙ ap Some (taken_other script taken i line is (λ e. other (e ∙ own))))
          (ap (λ q. record { places = q.places; taken = q.taken + 1 }) same
          ∙ ap (λ n. record { places = places_of session 0 script.lines; taken = n }) (taken_own script taken session line is own));
    }

-- the queues when a line is taken of a session that is not there
queues_kept : (script : Script) (taken session : ℕ) (queues : List Queue) (line : Line) →
    AreQueues script taken queues → slice_get script.lines taken ≡ Some line → session_in line.content ≡ session →
    slice_get queues session ≡ None → AreQueues script (taken + 1) queues
queues_kept script taken session queues line are is own none =
    record {
      sessions = are.sessions;
      each = λ i lt. are.each i lt ∙ ap Some (taken_other script taken i line is (λ same. absurd (past i lt (same ∙ own))));
    }
  where
    past : (i : ℕ) → i < length queues → i ≡ session → ⊥
    past i lt same =
        let there : slice_get queues i ≡ Some (queue_of script taken i) = are.each i lt in
        let gone : slice_get queues i ≡ None = rw same none in
        let e : None ≡ Some (queue_of script taken i) = sym gone ∙ there in cc

-- the queues when the next line is taken
pub queues_next : (script : Script) (taken : ℕ) (queues : List Queue) (session : ℕ) → AreQueues script taken queues →
    option_map (λ line. session_in line.content) (slice_get script.lines taken) ≡ Some session →
    AreQueues script (taken + 1) (with_changed_item queued_more queues session)
queues_next script taken queues session are is = at (slice_get script.lines taken) refl is
  where
    by_queue : (line : Line) → slice_get script.lines taken ≡ Some line → session_in line.content ≡ session →
        (queue : Option Queue) → slice_get queues session ≡ queue →
        AreQueues script (taken + 1) (with_changed_item queued_more queues session)
    by_queue line there own None here = rw here (queues_kept script taken session queues line are there own here)
    by_queue line there own (Some queue) here = rw here (queues_taken script taken session queues line queue are there own here)

    at : (line : Option Line) → slice_get script.lines taken ≡ line →
        option_map (λ line. session_in line.content) line ≡ Some session →
        AreQueues script (taken + 1) (with_changed_item queued_more queues session)
    at None there same = absurd (let e : None ≡ Some session = same in cc)
    at (Some line) there same = by_queue line there (cc same) (slice_get queues session) refl

-- no more lines of a session were taken than lines
pub taken_bound : (script : Script) (taken session : ℕ) (queues : List Queue) (queue : Queue) →
    AreQueues script taken queues → slice_get queues session ≡ Some queue → queue.taken ≤ taken
taken_bound script taken session queues queue are there =
    let within : session < length queues = slice_get_within queues session queue there in
    let both : Some queue ≡ Some (queue_of script taken session) = sym there ∙ are.each session within in
    let own : queue ≡ queue_of script taken session = cc in
    let count : queue.taken ≡ taken_of script taken session = ap (λ q. q.taken) own in
    let most = given_take_bound session script.lines taken in
    omega (arith, count, most)
