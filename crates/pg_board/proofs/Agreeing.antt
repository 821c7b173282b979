-- What a server keeps agrees with the world that it stands for: who stands where, and who moves next.
use Rattle.std.proofs.Common.{◌≡◌, ◌+◌, ◌&&◌, not, ℕ, zero, suc, Bool, false, cond, List, [], ◌∷◌, length, map, Option, Some, None, slice_get, refl, ap, sym, ◌∙◌}
use Rattle.std.specs.Prelude.{is_some}
use Rattle.std.specs.Option.{option_map_or}
use Rattle.std.proofs.lemmas.Option.{slice_get-map}
use Rattle.pg_model.specs.declared.script.Script.{Script}
use Rattle.pg_waits.specs.Slots.{wait_of}
use Rattle.pg_xacts.specs.Transactions.{Transactions}
use Rattle.pg_world.specs.declared.session.Progress.{Progress}
use Rattle.pg_world.specs.declared.session.Progress.TheVariants.{Inside as inside}
use Rattle.pg_world.specs.declared.session.Running.{Running}
use Rattle.pg_world.specs.declared.session.SessionView.{SessionView}
use Rattle.pg_world.specs.Worlds.{World}
use Rattle.pg_relation.specs.Lines.{statement_at}
use Rattle.pg_relation.specs.Schedules.{continuing, is_closed, is_going_on, is_idle, is_inside, lowest, or_else, remaining, waking}
use Rattle.pg_table.specs.States.{TableState}
use Rattle.pg_board.specs.declared.queues.Queue.{Queue}
use Rattle.pg_board.specs.declared.server.Server.{Server}
use Rattle.pg_board.specs.declared.session.Place.{Place}
use Rattle.pg_board.specs.declared.session.Place.TheVariants as place_of
use Rattle.pg_board.specs.declared.session.Session.{Session}
use Rattle.pg_board.specs.Queues.{has_taken, ready_by}
use Rattle.pg_board.specs.Servers.{IsProgressOf, IsServerOf, IsSessionOf, kept_progress, kept_session, kept_world, running_of}
use Rattle.pg_board.proofs.Rooms.{pair_of}

-- how a session stands is seen by where the server keeps it
module _ (script : Script) (tables : List TableState) (transactions : Transactions) (number : ℕ) (kept : Session) (shown : SessionView)
    (is : IsSessionOf script tables transactions number kept shown) where
  progress_by : {X : Type 0} (test : Progress → X) → ((one other : Running) → test (inside one) ≡ test (inside other)) →
      test (kept_progress kept.place) ≡ test shown.progress
  progress_by test same = at kept.place is.progress
    where
      at : (place : Place) → IsProgressOf tables transactions (statement_at script number shown) place shown.progress →
          test (kept_progress place) ≡ test shown.progress
      at place_of.Idle p = ap test (sym p)
      at (place_of.Inside machine) p = same (running_of machine) p.2 ∙ ap test (sym p.3)
      at (place_of.Ending tag) p = ap test (sym p)
      at place_of.Closed p = ap test (sym p)

  pub idle_same : is_idle (kept_progress kept.place) ≡ is_idle shown.progress
  idle_same = progress_by is_idle (λ one other. refl)

  pub inside_same : is_inside (kept_progress kept.place) ≡ is_inside shown.progress
  inside_same = progress_by is_inside (λ one other. refl)

  pub closed_same : is_closed (kept_progress kept.place) ≡ is_closed shown.progress
  closed_same = progress_by is_closed (λ one other. refl)

  pub answered_same : kept.answered ≡ shown.answered
  answered_same = sym (ap (λ s. s.answered) is.rest)

-- tests that agree on what is kept and what is shown have the same lowest session
lowest_pairs : (test other : ℕ → SessionView → Bool) (first : ℕ) (xs : List Session) (ys : List SessionView) → length xs ≡ length ys →
    ((i : ℕ) (x : Session) (y : SessionView) → slice_get xs i ≡ Some x → slice_get ys i ≡ Some y → (n : ℕ) → test n (kept_session x) ≡ other n y) →
    lowest test first (map kept_session xs) ≡ lowest other first ys
lowest_pairs test other first [] [] same each = refl
lowest_pairs test other first [] (y ∷ ys) same each = absurd (cc same)
lowest_pairs test other first (x ∷ xs) [] same each = absurd (cc same)
lowest_pairs test other first (x ∷ xs) (y ∷ ys) same each =
    rw (each 0 x y refl refl first, lowest_pairs test other (first + 1) xs ys (cc same) (λ i a b one more. each (suc i) a b one more)) refl

module _ (script : Script) (server : Server) (world : World) (serves : IsServerOf script server world) where
  lowest_same : (test other : ℕ → SessionView → Bool) →
      ((i : ℕ) (x : Session) (y : SessionView) → IsSessionOf script server.tables server.xacts i x y → (n : ℕ) → test n (kept_session x) ≡ other n y) →
      lowest test 0 (map kept_session server.sessions) ≡ lowest other 0 world.sessions
  lowest_same test other each =
      lowest_pairs test other 0 server.sessions world.sessions serves.count (λ i x y one more n. each i x y (serves.each i x y one more) n)

  -- whether the session of that number is inside a statement
  inside_at : (number : ℕ) →
      option_map_or (λ session. is_inside session.progress) (slice_get (map kept_session server.sessions) number) false
      ≡ option_map_or (λ session. is_inside session.progress) (slice_get world.sessions number) false
  inside_at number = at (slice_get server.sessions number) refl (slice_get world.sessions number) refl
    where
      at : (one : Option Session) → slice_get server.sessions number ≡ one → (other : Option SessionView) → slice_get world.sessions number ≡ other →
          option_map_or (λ session. is_inside session.progress) (slice_get (map kept_session server.sessions) number) false
          ≡ option_map_or (λ session. is_inside session.progress) (slice_get world.sessions number) false
      at None one None other = rw (slice_get-map kept_session server.sessions number, one, other) refl
      at None one (Some y) other =
          let x = pair_of world.sessions server.sessions number y (sym serves.count) other in
          absurd (let e : None ≡ Some x.0 = sym one ∙ x.1 in cc e)
      at (Some x) one None other =
          let y = pair_of server.sessions world.sessions number x serves.count one in
          absurd (let e : None ≡ Some y.0 = sym other ∙ y.1 in cc e)
      at (Some x) one (Some y) other =
          rw (
            slice_get-map kept_session server.sessions number,
            one,
            other,
            inside_same script server.tables server.xacts number x y (serves.each number x y one other),
          ) refl

  -- and goes on there
  going_same : (number : ℕ) → is_going_on (kept_world server) number ≡ is_going_on world number
  going_same number =
      ap (λ b. b && not (is_some (wait_of server.waits number))) (inside_at number)
      ∙ ap (λ slots. option_map_or (λ session. is_inside session.progress) (slice_get world.sessions number) false
      && not (is_some (wait_of slots number))) serves.waits

  idle_lowest : lowest (λ number session. is_idle session.progress) 0 (map kept_session server.sessions)
      ≡ lowest (λ number session. is_idle session.progress) 0 world.sessions
  idle_lowest =
      lowest_same (λ number session. is_idle session.progress) (λ number session. is_idle session.progress)
      (λ i x y is n. idle_same script server.tables server.xacts i x y is)

  going_lowest : lowest (λ number session. is_going_on (kept_world server) number) 0 (map kept_session server.sessions)
      ≡ lowest (λ number session. is_going_on world number) 0 world.sessions
  going_lowest =
      lowest_same (λ number session. is_going_on (kept_world server) number) (λ number session. is_going_on world number)
      (λ i x y is n. going_same n)

  queued_lowest : (queues : List Queue) →
      lowest (λ number session. is_idle session.progress && has_taken queues number session) 0 (map kept_session server.sessions)
      ≡ lowest (λ number session. is_idle session.progress && has_taken queues number session) 0 world.sessions
  queued_lowest queues =
      lowest_same (λ number session. is_idle session.progress && has_taken queues number session)
      (λ number session. is_idle session.progress && has_taken queues number session)
      (λ i x y is n. rw (idle_same script server.tables server.xacts i x y is, answered_same script server.tables server.xacts i x y is) refl)

  -- the session that moves next is the same
  pub remaining_same : remaining (kept_world server) ≡ remaining world
  remaining_same =
      ap (λ o. or_else o (lowest (λ number session. is_going_on (kept_world server) number) 0 (map kept_session server.sessions))) idle_lowest
      ∙ ap (λ o. or_else (lowest (λ number session. is_idle session.progress) 0 world.sessions) o) going_lowest

  continuing_same : (last : Option ℕ) → continuing (kept_world server) last ≡ continuing world last
  continuing_same None = refl
  continuing_same (Some number) = ap (λ b. cond b (Some number) None) (going_same number)

  waking_same : (waited : List ℕ) → waking (kept_world server) waited ≡ waking world waited
  waking_same [] = refl
  waking_same (first ∷ waited) =
      ap (λ b. cond b (Some first) (waking (kept_world server) waited)) (going_same first)
      ∙ ap (λ o. cond (is_going_on world first) (Some first) o) (waking_same waited)

  pub ready_same : (queues : List Queue) (last : Option ℕ) (waited : List ℕ) →
      ready_by queues (kept_world server) last waited ≡ ready_by queues world last waited
  ready_same queues last waited =
      ap (λ o. or_else o (or_else (waking (kept_world server) waited)
      (lowest (λ number session. is_idle session.progress && has_taken queues number session) 0 (map kept_session server.sessions))))
      (continuing_same last)
      ∙ ap (λ o. or_else (continuing world last) (or_else o
      (lowest (λ number session. is_idle session.progress && has_taken queues number session) 0 (map kept_session server.sessions))))
      (waking_same waited)
      ∙ ap (λ o. or_else (continuing world last) (or_else (waking world waited) o)) (queued_lowest queues)
