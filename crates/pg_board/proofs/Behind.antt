-- The versions of an open transaction stand behind all others in the tables of a server, so that they can be taken back.
use Rattle.std.proofs.Common.{◌≡◌, ◌<◌, ℕ, zero, suc, List, [], ◌∷◌, map, Option, Some, None, slice_get, arith, refl, sym, ap, ◌∙◌, subst}
use Rattle.std.specs.Prelude.{option_map}
use Rattle.pg_lists.specs.Numbered.{item_at}
use Rattle.pg_xacts.specs.declared.transaction.XStatus.TheVariants.{Running as IsRunning}
use Rattle.pg_xacts.specs.Transactions.{status_of}
use Rattle.pg_heap.specs.declared.version.Version.{Version}
use Rattle.pg_model.specs.declared.script.Script.{Script}
use Rattle.pg_world.specs.declared.session.SessionView.{SessionView}
use Rattle.pg_world.specs.Worlds.{World}
use Rattle.pg_relation.specs.Journals.{world_after}
use Rattle.pg_relation.specs.Locking.{Each, StandBehind as AreBehind}
use Rattle.pg_relation.proofs.LockingKept.{IsSteady, steady_after}
use Rattle.pg_table.specs.States.{OwnStandBehind, TableState, table_shown}
use Rattle.pg_board.specs.declared.server.Server.{Server}
use Rattle.pg_board.specs.declared.session.Session.{Session}
use Rattle.pg_board.specs.Kept.{StandBehind, StandBehindAt}
use Rattle.pg_board.specs.Servers.{IsServerOf, kept_session}
use Rattle.pg_board.specs.Steps.{IsServing}
use Rattle.pg_board.proofs.Rooms.{shown_session, stands_for}
use Rattle.pg_board.proofs.Shown.{shown_at}

-- what holds of each version of a list holds of the one at a place
each_at : (P : Version → Type 0) (versions : List Version) (place : ℕ) (version : Version) → Each P versions →
    slice_get versions place ≡ Some version → P version
each_at P [] place version all is = absurd (cc is)
each_at P (one ∷ versions) zero version all is = let e : one ≡ version = cc is in subst P e all.0
each_at P (one ∷ versions) (suc place) version all is = each_at P versions place version all.1 is

-- behind a version of a transaction there are only its own
behind_later : (xact : ℕ) (versions : List Version) → AreBehind xact versions → (earlier later : ℕ) (one other : Version) → earlier < later →
    slice_get versions earlier ≡ Some one → slice_get versions later ≡ Some other → one.writer ≡ xact → other.writer ≡ xact
behind_later xact [] behind earlier later one other less one_is other_is mine = absurd (cc one_is)
behind_later xact (first ∷ versions) behind zero zero one other less one_is other_is mine = absurd (omega (arith, less))
behind_later xact (first ∷ versions) behind (suc earlier) zero one other less one_is other_is mine = absurd (omega (arith, less))
behind_later xact (first ∷ versions) behind zero (suc later) one other less one_is other_is mine =
    let e : first ≡ one = cc one_is in
    each_at (λ version. version.writer ≡ xact) versions later other (behind.0 (ap (λ v. v.writer) e ∙ mine)) other_is
behind_later xact (first ∷ versions) behind (suc earlier) (suc later) one other less one_is other_is mine =
    behind_later xact versions behind.1 earlier later one other (omega (arith, less)) one_is other_is mine

-- the transaction that was found is the session's
pub behind_of : (server : Server) (number : ℕ) (transaction : Option ℕ) → StandBehindAt server number →
    option_map (λ session. session.transaction) (item_at server.sessions number) ≡ Some transaction → StandBehind server.tables transaction
behind_of server number transaction behind is = at (slice_get server.sessions number) refl is
  where
    at : (one : Option Session) → slice_get server.sessions number ≡ one →
        option_map (λ session. session.transaction) one ≡ Some transaction → StandBehind server.tables transaction
    at None there e = absurd (cc e)
    at (Some session) there e =
        let same : session.transaction ≡ transaction = cc e in
        subst (λ t. StandBehind server.tables t) same (behind session there)

module _ (script : Script) (server : Server) (number : ℕ) (serving : IsServing script server) where
  abbrev world : World
  world = world_after script serving.journal

  steady : IsSteady script world
  steady = steady_after script serving.journal serving.legal

  behind_in : (kept : Session) → slice_get server.sessions number ≡ Some kept → (transaction : Option ℕ) → kept.transaction ≡ transaction →
      StandBehind server.tables transaction
  behind_in kept there None is = tt
  behind_in kept there (Some xact) is = λ table state state_is row_number earlier later row one other row_is less one_is other_is mine.
      let shown = shown_session script server serving number kept there in
      let stands = stands_for script server serving number kept there in
      let opens : shown.0.transaction ≡ Some xact = ap (λ s. s.transaction) stands.rest ∙ is in
      let runs = ((steady.stable.each number shown.0 shown.1).owner xact opens).0 in
      let view : slice_get world.tables table ≡ Some (table_shown state) =
      ap (λ tables. slice_get tables table) (sym serving.serves.tables) ∙ (shown_at server.tables table ∙ ap (λ o. option_map table_shown o) state_is) in
      behind_later xact row.versions (((steady.locking.tables table (table_shown state) view).rows row_number row row_is).behind xact runs)
      earlier later one other less one_is other_is mine

  pub behind_at : StandBehindAt server number
  behind_at kept there = behind_in kept there kept.transaction refl
