-- In a server that stands for the world of a legal journal there is room for what a session does.
use Rattle.std.proofs.Common.{◌≡◌, ◌<◌, ◌≤◌, ◌-◌, ◌^◌, ℕ, zero, suc, List, [], ◌∷◌, length, Option, Some, None, slice_get, refl, ap, subst, arith}
use Rattle.std.specs.Prelude.{option_map}
use Rattle.pg_model.specs.declared.script.Script.{Script}
use Rattle.pg_world.specs.declared.session.SessionView.{SessionView}
use Rattle.pg_world.specs.Worlds.{World}
use Rattle.pg_relation.specs.Journals.{world_after}
use Rattle.pg_relation.specs.Sound.{IsSound}
use Rattle.pg_relation.proofs.Bounds.{bounds}
use Rattle.pg_relation.proofs.Sound.{sound_after}
use Rattle.pg_relation.proofs.Stable.{stable_after}
use Rattle.pg_board.specs.Counts.{RunsIn}
use Rattle.pg_board.specs.declared.server.Server.{Server}
use Rattle.pg_board.specs.declared.session.Session.{Session}
use Rattle.pg_board.specs.Kept.{CanAnswer, CanBegin, CanCommand, RunsAt}
use Rattle.pg_board.specs.Servers.{IsSessionOf}
use Rattle.pg_board.specs.Steps.{IsServing}
use Rattle.pg_board.proofs.Counted.{answered_bound, begun_most, counted_after, own, runs}

-- the transaction that was found is the session's, and runs
pub runs_of : (server : Server) (number : ℕ) (transaction : Option ℕ) → RunsAt server number →
    option_map (λ session. session.transaction) (slice_get server.sessions number) ≡ Some transaction →
    RunsIn server.xacts transaction
runs_of server number transaction run is = at (slice_get server.sessions number) refl is
  where
    at : (one : Option Session) → slice_get server.sessions number ≡ one →
        option_map (λ session. session.transaction) one ≡ Some transaction → RunsIn server.xacts transaction
    at None there e = absurd (cc e)
    at (Some session) there e =
        let same : session.transaction ≡ transaction = cc e in
        subst (λ t. RunsIn server.xacts t) same (run session there)

-- lists of one length have items at the same places
pub pair_of : {X Y : Type 0} (xs : List X) (ys : List Y) (i : ℕ) (x : X) → length xs ≡ length ys → slice_get xs i ≡ Some x →
    (y : Y) × (slice_get ys i ≡ Some y)
pair_of [] ys i x same is = absurd (cc is)
pair_of (z ∷ xs) [] i x same is = absurd (cc same)
pair_of (z ∷ xs) (w ∷ ys) zero x same is = (w, refl)
pair_of (z ∷ xs) (w ∷ ys) (suc i) x same is = pair_of xs ys i x (let e : length xs ≡ length ys = cc same in e) is

module _ (script : Script) (server : Server) (serving : IsServing script server) (number : ℕ) (kept : Session)
    (there : slice_get server.sessions number ≡ Some kept) where
  abbrev world : World
  world = world_after script serving.journal

  pub shown_session : (shown : SessionView) × (slice_get world.sessions number ≡ Some shown)
  shown_session = pair_of server.sessions world.sessions number kept serving.serves.count there

  pub stands_for : IsSessionOf script server.tables server.xacts number kept shown_session.0
  stands_for = serving.serves.each number kept shown_session.0 there shown_session.1

  abbrev shown : SessionView
  shown = shown_session.0

  sound : IsSound script world
  sound = sound_after script serving.journal serving.legal

  most : shown.answered ≤ 1048576
  most = answered_bound script world number shown shown_session.1 (counted_after script serving.journal serving.legal) sound

  answered : kept.answered < 2 ^ 64 - 1
  answered = let same : shown.answered ≡ kept.answered = ap (λ s. s.answered) stands_for.rest in omega (arith, most, same)

  command : kept.command < 2 ^ 32 - 1
  command =
      let same : shown.command ≡ kept.command = ap (λ s. s.command) stands_for.rest in
      let commands = (own script world number shown shown_session.1 (counted_after script serving.journal serving.legal)).commands in
      let begun = begun_most shown.progress in
      omega (arith, most, same, commands, begun)

  begun : length server.xacts.list < 2 ^ 32 - 1
  begun =
      let few = (bounds script world sound).transactions in
      let same = ap (λ t. length t.list) serving.serves.transactions in
      omega (arith, few, same)

  running : RunsIn server.xacts kept.transaction
  running =
      let same : shown.transaction ≡ kept.transaction = ap (λ s. s.transaction) stands_for.rest in
      rw (serving.serves.transactions, ← same)
      (runs script world number shown shown_session.1 (counted_after script serving.journal serving.legal)
      (stable_after script serving.journal serving.legal))

-- the session of that number has room for what it does, and its open transaction runs
module _ (script : Script) (server : Server) (number : ℕ) (serving : IsServing script server) where
  pub can_answer : CanAnswer server number
  can_answer = λ kept there. answered script server serving number kept there

  pub can_command : CanCommand server number
  can_command = λ kept there. command script server serving number kept there

  pub can_begin : CanBegin server number
  can_begin = λ kept there. begun script server serving number kept there

  pub runs_at : RunsAt server number
  runs_at = λ kept there. running script server serving number kept there
