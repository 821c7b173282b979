-- A board of which no step was made.
use Rattle.std.proofs.Common.{◌≡◌, ◌≤◌, ◌+◌, ℕ, zero, suc, List, [], ◌∷◌, length, map, Option, Some, None, slice_get, refl, arith, ap, sym, ◌∙◌}
use Rattle.std.specs.Prelude.{option_map, option_and_then, sum_by}
use Rattle.std.proofs.lemmas.List.{length-map}
use Rattle.std.proofs.lemmas.List.Sums.{sum_by-cons}
use Rattle.std.proofs.lemmas.Option.{slice_get-map}
use Rattle.pg_rows.proofs.Rows.{length_rows}
use Rattle.pg_model.specs.declared.script.Script.{Script}
use Rattle.pg_world.specs.declared.placed.PlacedRow.{PlacedRow}
use Rattle.pg_world.specs.declared.session.SessionView.{SessionView}
use Rattle.pg_world.specs.declared.table.TableView.{TableView}
use Rattle.pg_world.specs.Sessions.{fresh_session}
use Rattle.pg_relation.specs.Journals.{IsLegalFrom, world_from}
use Rattle.pg_relation.specs.Setup.{first_world}
use Rattle.pg_relation.proofs.Lists.{sum_none}
use Rattle.pg_table.specs.States.{TableState, staged_at, table_shown}
use Rattle.pg_update.specs.Steps.{staged_in}
use Rattle.pg_board.specs.declared.queues.Queue.{Queue}
use Rattle.pg_board.specs.declared.server.Server.{Server}
use Rattle.pg_board.specs.declared.session.Session.{Session}
use Rattle.pg_board.specs.Counts.{HasFew, most_versions, place_draws}
use Rattle.pg_board.specs.Faults.{IsSetUp}
use Rattle.pg_board.specs.Loaded.{AreLoaded}
use Rattle.pg_board.specs.Queues.{AreQueues}
use Rattle.pg_board.specs.Servers.{IsDraftOf, IsFirst, IsServerOf, first_session}
use Rattle.pg_board.specs.Steps.{place_quiet}
use Rattle.pg_board.specs.Tied.{IsTied}
use Rattle.pg_board.proofs.Setups.{tables_set}

-- the sessions before their first lines
first_sessions_are : (names : List (List ℕ)) (number : ℕ) (kept : Session) (shown : SessionView) →
    slice_get (map (λ name. first_session) names) number ≡ Some kept → slice_get (map (λ name. fresh_session) names) number ≡ Some shown →
    (first_session ≡ kept) × (fresh_session ≡ shown)
first_sessions_are [] number kept shown one other = absurd (cc one)
first_sessions_are (name ∷ names) zero kept shown one other = (cc one, cc other)
first_sessions_are (name ∷ names) (suc number) kept shown one other = first_sessions_are names number kept shown one other

-- setup stages nothing
nothing_staged : (tables : List TableState) → AreLoaded tables → (table row : ℕ) → staged_in tables table row ≡ None
nothing_staged tables loaded table row = at (slice_get tables table) refl
  where
    at : (found : Option TableState) → slice_get tables table ≡ found → option_and_then (λ state. staged_at state row) found ≡ None
    at None is = refl
    at (Some state) is = (loaded table state is).unstaged row

-- a server of which no step was made stands for the world after setup
pub first_serves : (script : Script) (server : Server) → IsFirst script server → IsServerOf script server (first_world script)
first_serves script server first = record {
  tables = sym (tables_set script (map table_shown server.tables) first.tables);
  transactions = first.transactions;
  valid = λ number state is. (first.loaded number state is).table;
  count = ap length first.sessions ∙ length-map script.sessions (λ name. first_session)
      ∙ sym (length-map script.sessions (λ name. fresh_session));
  each = λ number kept shown one other.
      let both = first_sessions_are script.sessions number kept shown (ap (λ s. slice_get s number) (sym first.sessions) ∙ one) other in
      rw (← both.0, ← both.1) (record { rest = refl; progress = refl });
  waits = first.waits;
  drafts = λ table row draft is.
      absurd (let e : None ≡ Some draft = sym (nothing_staged server.tables first.loaded table row) ∙ is in cc e);
}

-- setup has stored no more rows in one table than in all
below_sum : {X : Type 0} (f : X → ℕ) (xs : List X) (i : ℕ) (x : X) → slice_get xs i ≡ Some x → f x ≤ sum_by f xs
below_sum f [] i x is = absurd (cc is)
below_sum f (y ∷ ys) zero x is =
    let e : y ≡ x = cc is in
    rw (← e) (omega (arith, sum_by-cons f y ys))
below_sum f (y ∷ ys) (suc i) x is =
    let h = below_sum f ys i x is in
    omega (arith, h, sum_by-cons f y ys)

-- and one version for each
few_first : (script : Script) (server : Server) → IsFirst script server → HasFew (most_versions script []) server
few_first script server first number state is =
    let shown = tables_set script (map table_shown server.tables) first.tables in
    let there : slice_get (first_world script).tables number ≡ Some (table_shown state) =
    ap (λ ts. slice_get ts number) shown ∙ (slice_get-map table_shown server.tables number ∙ ap (option_map table_shown) is) in
    let rows = below_sum (λ (table : TableView). length table.rows) (first_world script).tables number (table_shown state) there in
    let drawn = length_rows 1 state.store.drawn state.store.versions in
    let versions = (first.loaded number state is).versions in
    let draws = ap (sum_by (λ (session : Session). place_draws session.place)) first.sessions
    ∙ sum_none (λ (session : Session). place_draws session.place) first_session script.sessions refl in
    omega (arith, rows, drawn, versions, draws)

-- its board is tied
pub tied_first : (script : Script) (server : Server) (queues : List Queue) → IsSetUp script → IsFirst script server →
    AreQueues script 0 queues → IsTied script [] server queues 0
unfolding IsLegalFrom world_from
tied_first script server queues set_up first are = record {
  set_up = set_up;
  legal = tt;
  serves = first_serves script server first;
  queues = are;
  taken = omega arith;
  few = few_first script server first;
}

-- no session has begun a statement
pub first_quiet : (names : List (List ℕ)) (most : ℕ) →
    map (λ session. place_quiet most session.place) (map (λ name. first_session) names) ≡ map (λ name. 0) names
first_quiet [] most = refl
first_quiet (name ∷ names) most = ap (λ ns. 0 ∷ ns) (first_quiet names most)
