-- A board with one step more.
use Rattle.std.proofs.Common.{◌≡◌, ◌<◌, ◌≤◌, ◌+◌, ◌&&◌, inl, inr, not, nat_lt, ℕ, zero, suc, Bool, false, List, [], ◌∷◌, ◌++◌, length, map, Option, Some, None, slice_get, refl, subst, arith, ap, sym, ◌∙◌, length-append}
use Rattle.std.specs.Prelude.{unwrap_or}
use Rattle.std.specs.Option.{option_map_or}
use Rattle.std.proofs.lemmas.Option.{slice_get_within}
use Rattle.pg_model.specs.declared.journal.Entry.{Entry}
use Rattle.pg_model.specs.declared.journal.EntryAct.{EntryAct}
use Rattle.pg_model.specs.declared.script.Script.{Script}
use Rattle.pg_world.specs.declared.session.SessionView.{SessionView}
use Rattle.pg_relation.specs.Journals.{world_after, world_from}
use Rattle.pg_relation.specs.Schedules.{is_closed, is_idle, ready, waited_with, without}
use Rattle.pg_relation.specs.Setup.{first_world}
use Rattle.pg_relation.proofs.Journals.{first_contained, legal_from_more, world_from-more}
use Rattle.pg_relation.proofs.Lists.{slice_get_some}
use Rattle.pg_relation.proofs.Sound.{sound_after}
use Rattle.pg_scans.specs.Readings.{HaveVersions}
use Rattle.pg_board.specs.declared.queues.Queue.{Queue}
use Rattle.pg_board.specs.declared.server.Server.{Server}
use Rattle.pg_board.specs.declared.session.Session.{Session}
use Rattle.pg_board.specs.Board.{BoardView, MovedBy, first_board, has_ended, is_unqueued, most_quiet, quiet_left}
use Rattle.pg_board.specs.Counts.{HasFew, most_versions}
use Rattle.pg_board.specs.Queues.{has_taken, ready_by}
use Rattle.pg_board.specs.Servers.{IsFirst, IsServerOf, IsSessionOf, kept_progress, kept_session, kept_world}
use Rattle.pg_board.specs.Steps.{HasActed, HasReadOn, IsServing, place_quiet, stands_at_end}
use Rattle.pg_board.specs.Tied.{IsTied}
use Rattle.pg_board.proofs.Agreeing.{answered_same, closed_same, idle_same, ready_same}
use Rattle.pg_board.proofs.Firsts.{first_quiet}
use Rattle.pg_board.proofs.Quiet.{quiet_bounded}
use Rattle.pg_board.proofs.Rooms.{pair_of}
use Rattle.pg_board.proofs.Taken.{has_taken_is, ready_by_queues}

-- one entry more allows one version more
few_more : (script : Script) (journal : List Entry) (one : Entry) (server : Server) → HasFew (most_versions script journal + 1) server →
    HasFew (most_versions script (journal ++ one ∷ [])) server
few_more script journal one server few =
    subst (λ most. HasFew most server)
    (let longer = length-append journal (one ∷ []) in omega (arith, longer)) few

-- a board stays tied by a step of a session that makes an entry
pub tied_step : (script : Script) (journal : List Entry) (server new : Server) (queues : List Queue) (taken number : ℕ) (act : EntryAct) →
    IsTied script journal server queues taken → HasActed script number (world_after script journal) server new act →
    IsTied script (journal ++ record { session = number; act = act } ∷ []) new queues taken
tied_step script journal server new queues taken number act tied acted =
    let entry : Entry = record { session = number; act = act } in
    record {
      set_up = tied.set_up;
      legal = legal_from_more script (first_world script) journal entry tied.legal (first_contained _ _ acted.first);
      serves = subst (λ w. IsServerOf script new w) (sym (world_from-more script (first_world script) journal entry)) acted.serves;
      queues = tied.queues;
      taken = tied.taken;
      few = few_more script journal entry new (acted.few (most_versions script journal) tied.few);
    }

-- and by one that makes none
pub tied_nearer : (script : Script) (journal : List Entry) (server new : Server) (queues : List Queue) (taken number : ℕ) →
    IsTied script journal server queues taken → HasReadOn script number (world_after script journal) server new →
    IsTied script journal new queues taken
tied_nearer script journal server new queues taken number tied nearer = record {
  set_up = tied.set_up;
  legal = tied.legal;
  serves = nearer.serves;
  queues = tied.queues;
  taken = tied.taken;
  few = nearer.few (most_versions script journal) tied.few;
}

-- the server of a board stands for the world of its journal
pub tied_serves : (script : Script) (journal : List Entry) (server : Server) (queues : List Queue) (taken : ℕ) →
    IsTied script journal server queues taken → IsServing script server
tied_serves script journal server queues taken tied = record { journal = journal; legal = tied.legal; serves = tied.serves }

-- each session of the script is one of the server
pub tied_count : (script : Script) (journal : List Entry) (server : Server) (queues : List Queue) (taken : ℕ) →
    IsTied script journal server queues taken → length server.sessions ≡ length script.sessions
tied_count script journal server queues taken tied =
    tied.serves.count ∙ (sound_after script journal tied.legal).sessions

-- a script has few sessions
pub tied_few : (script : Script) (journal : List Entry) (server : Server) (queues : List Queue) (taken : ℕ) →
    IsTied script journal server queues taken → length server.sessions ≤ 32
tied_few script journal server queues taken tied =
    let n = tied_count script journal server queues taken tied in omega (arith, n, script.valid.few_sessions)

-- who is ready in the world of a board
pub tied_ready : (script : Script) (journal : List Entry) (server : Server) (queues : List Queue) (taken : ℕ) (last : Option ℕ) (waited : List ℕ) →
    IsTied script journal server queues taken →
    ready_by queues (kept_world server) last waited
    ≡ ready script (world_after script journal) (record { taken = taken; last = last; waited = waited })
tied_ready script journal server queues taken last waited tied =
    ready_same script server (world_after script journal) tied.serves queues last waited
    ∙ ready_by_queues script taken queues (world_after script journal) last waited tied.queues
    (let s = (sound_after script journal tied.legal).sessions in let q = tied.queues.sessions in omega (arith, s, q))

-- how many steps without an entry the sessions may still make
abbrev pub quiet_of : Script → List Entry → Server → List ℕ
quiet_of script journal server = map (λ session. place_quiet (most_versions script journal) session.place) server.sessions

-- a board of that journal
abbrev pub board_shown : Script → List Entry → Server → ℕ → Option ℕ → List ℕ → BoardView
board_shown script journal server taken last waited =
    record {
      script = script;
      journal = journal;
      world = world_after script journal;
      schedule = record { taken = taken; last = last; waited = waited };
      quiet = quiet_of script journal server;
    }

-- what a board shows of a session is seen by how the server keeps it
module _ (script : Script) (journal : List Entry) (server : Server) (queues : List Queue) (taken : ℕ) (last : Option ℕ) (waited : List ℕ)
    (tied : IsTied script journal server queues taken) (number : ℕ) (kept : Session) (there : slice_get server.sessions number ≡ Some kept) where
  shown_is : (shown : SessionView) × (slice_get (world_after script journal).sessions number ≡ Some shown)
  shown_is = pair_of server.sessions (world_after script journal).sessions number kept tied.serves.count there

  stands_so : IsSessionOf script server.tables server.xacts number kept shown_is.0
  stands_so = tied.serves.each number kept shown_is.0 there shown_is.1

  pub ended_is : is_closed (kept_progress kept.place) ≡ has_ended (board_shown script journal server taken last waited) number
  ended_is = rw shown_is.1 (closed_same script server.tables server.xacts number kept shown_is.0 stands_so)

  pub unqueued_is : (is_idle (kept_progress kept.place) && not (has_taken queues number (kept_session kept)))
      ≡ is_unqueued (board_shown script journal server taken last waited) number
  unqueued_is =
      let within : number < length queues =
      let s = slice_get_within server.sessions number kept there in
      let n = tied_count script journal server queues taken tied in
      let q = tied.queues.sessions in omega (arith, s, n, q) in
      rw shown_is.1
      (ap (λ b. b && not (has_taken queues number (kept_session kept))) (idle_same script server.tables server.xacts number kept shown_is.0 stands_so)
      ∙ ap (λ b. is_idle shown_is.0.progress && not b)
      (ap (λ n. nat_lt n (option_map_or (λ queue. queue.taken) (slice_get queues number) 0)) (answered_same script server.tables server.xacts number kept shown_is.0 stands_so)
      ∙ has_taken_is script taken queues last waited number shown_is.0 tied.queues within))

-- a session that has not ended has not ended in the server
pub unended_in : (script : Script) (journal : List Entry) (server : Server) (queues : List Queue) (taken : ℕ) (last : Option ℕ) (waited : List ℕ)
    (number : ℕ) → IsTied script journal server queues taken → number < length script.sessions →
    has_ended (board_shown script journal server taken last waited) number ≡ false → stands_at_end server number ≡ false
unended_in script journal server queues taken last waited number tied within unended =
    let found = slice_get_some server.sessions number (let n = tied_count script journal server queues taken tied in omega (arith, within, n)) in
    rw found.1 (ended_is script journal server queues taken last waited tied number found.0 found.1) ∙ unended

-- the quiet number of a session is that of the server
quiet_mapped : (most : ℕ) (sessions : List Session) (number : ℕ) →
    unwrap_or (slice_get (map (λ session. place_quiet most session.place) sessions) number) 0
    ≡ option_map_or (λ session. place_quiet most session.place) (slice_get sessions number) 0
quiet_mapped most [] number = refl
quiet_mapped most (session ∷ sessions) zero = refl
quiet_mapped most (session ∷ sessions) (suc number) = quiet_mapped most sessions number

-- no table has more versions than that
have_few : (most : ℕ) (server : Server) → HasFew most server → HaveVersions most server.tables
have_few most server few number state is = let h = few number state is in omega (arith, h)

-- what a step of the server is for its board
module _ (script : Script) (journal : List Entry) (server new : Server) (queues : List Queue) (taken : ℕ) (last : Option ℕ) (waited : List ℕ)
    (tied : IsTied script journal server queues taken) (number : ℕ) where
  pub moved_by_entry : (act : EntryAct) → HasActed script number (world_after script journal) server new act →
      MovedBy number (board_shown script journal server taken last waited)
      (board_shown script (journal ++ record { session = number; act = act } ∷ []) new taken (Some number)
      (waited_with (without number waited) number act))
  moved_by_entry act acted = inl (record {
    act = act;
    first = acted.first;
    script = refl;
    journal = refl;
    world = world_from-more script (first_world script) journal (record { session = number; act = act });
    schedule = refl;
  })

  pub moved_nearer : HasReadOn script number (world_after script journal) server new →
      MovedBy number (board_shown script journal server taken last waited) (board_shown script journal new taken last waited)
  moved_nearer nearer = inr (record {
    same = refl;
    fewer =
        rw (quiet_mapped (most_versions script journal) new.sessions number, quiet_mapped (most_versions script journal) server.sessions number)
        (nearer.fewer (most_versions script journal) (have_few (most_versions script journal) server tied.few));
    others = λ other apart.
        rw (quiet_mapped (most_versions script journal) new.sessions other, quiet_mapped (most_versions script journal) server.sessions other)
        (nearer.others (most_versions script journal) other apart);
  })

-- a board of which no step was made
pub first_is : (script : Script) (server : Server) → IsFirst script server → board_shown script [] server 0 None [] ≡ first_board script
unfolding world_from
first_is script server first =
    ap (λ quiet. record {
      script = script;
      journal = [];
      world = first_world script;
      schedule = record { taken = 0; last = None; waited = [] };
      quiet = quiet;
    })
    (ap (map (λ session. place_quiet (most_versions script []) session.place)) first.sessions ∙ first_quiet script.sessions (most_versions script []))

-- the steps without an entry are bounded
pub bounded_quiet : (script : Script) (journal : List Entry) (server : Server) (queues : List Queue) (taken : ℕ) (last : Option ℕ) (waited : List ℕ) →
    IsTied script journal server queues taken → (number : ℕ) →
    quiet_left (board_shown script journal server taken last waited) number ≤ most_quiet (board_shown script journal server taken last waited) number
bounded_quiet script journal server queues taken last waited tied number =
    rw (quiet_mapped (most_versions script journal) server.sessions number)
    (quiet_bounded script server (world_after script journal) (most_versions script journal) number tied.serves)
