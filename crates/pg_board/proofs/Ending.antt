-- The end of a session's transaction, in what a server keeps and in the world, and what it leaves to the other sessions.
use Rattle.std.proofs.Common.{◌≡◌, ℕ, true, false, List, map, Option, Some, None, slice_get, slice_set, refl, sym, ap, ◌∙◌, subst}
use Rattle.std.specs.Prelude.{option_map}
use Rattle.std.proofs.lemmas.Option.{slice_get-map}
use Rattle.pg_waits.specs.Effects.{waits_ended}
use Rattle.pg_xacts.specs.Transactions.{is_running}
use Rattle.pg_model.specs.declared.script.Script.{Script}
use Rattle.pg_world.specs.declared.placed.PlacedRow.{PlacedRow}
use Rattle.pg_world.specs.Tables.{TransactionEnd, commit, rollback, table_after_end}
use Rattle.pg_world.specs.Worlds.{World, with_end_of}
use Rattle.pg_relation.specs.Effect.{transactions_opened}
use Rattle.pg_relation.proofs.Spares.{IsStable, not_owner}
use Rattle.pg_scans.specs.Readings.{AreTables}
use Rattle.pg_scans.proofs.Kept.{beginning_keeps, commits_keep, rollbacks_keep}
use Rattle.pg_table.specs.States.{IsTable, TableState, state_ended, state_undone, table_shown}
use Rattle.pg_table.proofs.Kept.{table_ended, table_undone}
use Rattle.pg_table.proofs.Staged.{staged_ended, staged_undone}
use Rattle.pg_update.specs.Steps.{staged_in}
use Rattle.pg_board.specs.declared.server.Server.{Server}
use Rattle.pg_board.specs.declared.session.Machine.{Machine}
use Rattle.pg_board.specs.declared.session.Machine.TheVariants as machine_of
use Rattle.pg_board.specs.declared.session.Place.TheVariants as place_of
use Rattle.pg_board.specs.declared.session.Session.{Session}
use Rattle.pg_board.specs.Kept.{with_end_in}
use Rattle.pg_board.specs.Servers.{IsDraftOf, IsServerOf, has_staged, kept_session}
use Rattle.pg_board.proofs.Drafts.{only_others, others_stay}
use Rattle.pg_board.proofs.Lifting.{HasDrafted, HoldsStay, LeavesOthers}
use Rattle.pg_board.proofs.Shown.{committed_in, rolled_back_in}

-- the sessions of a server behind the end of a transaction
pub kept_left : (server : Server) (number : ℕ) (transaction : Option ℕ) (end : TransactionEnd) →
    (with_end_in server number transaction end).sessions ≡ server.sessions
kept_left server number None end = refl
kept_left server number (Some xact) end = refl

-- each table is one, also behind a change that leaves each table one
mapped_tables : (change : TableState → TableState) → ((state : TableState) → IsTable state → IsTable (change state)) →
    (tables : List TableState) → AreTables tables → AreTables (map change tables)
mapped_tables change keeps tables are number state there = at (slice_get tables number) refl (sym (slice_get-map change tables number) ∙ there)
  where
    at : (one : Option TableState) → slice_get tables number ≡ one → option_map change one ≡ Some state → IsTable state
    at None is e = absurd (cc e)
    at (Some old) is e = let f : change old ≡ state = cc e in subst (λ s. IsTable s) f (keeps old (are number old is))

pub ended_tables : (server : Server) (number : ℕ) (transaction : Option ℕ) (end : TransactionEnd) → AreTables server.tables →
    AreTables (with_end_in server number transaction end).tables
ended_tables server number None end are = are
ended_tables server number (Some xact) commit are = mapped_tables (state_ended xact) (λ state is. table_ended xact state is) server.tables are
ended_tables server number (Some xact) rollback are = mapped_tables (state_undone xact) (λ state is. table_undone xact state is) server.tables are

-- what is staged behind it was staged before
pub ended_before : (server : Server) (number : ℕ) (transaction : Option ℕ) (end : TransactionEnd) (table row : ℕ) (draft : PlacedRow) →
    staged_in (with_end_in server number transaction end).tables table row ≡ Some draft → staged_in server.tables table row ≡ Some draft
ended_before server number None end table row draft is = is
ended_before server number (Some xact) commit table row draft is =
    (only_others (state_ended xact) xact (λ state r. staged_ended state xact r) server.tables table row draft is).0
ended_before server number (Some xact) rollback table row draft is =
    (only_others (state_undone xact) xact (λ state r. staged_undone state xact r) server.tables table row draft is).0

-- a session that has staged nothing has no draft
pub no_drafts : (server : Server) (number : ℕ) (kept : Session) → slice_get server.sessions number ≡ Some kept →
    ((machine : Machine) → kept.place ≡ place_of.Inside machine → has_staged machine ≡ false) → (script : Script) (table : ℕ) (draft : PlacedRow) →
    (of : IsDraftOf script server.sessions table draft) → of.number ≡ number → ⊥
no_drafts server number kept is_kept unstaged script table draft of same =
    let e : Some kept ≡ Some of.session = sym is_kept ∙ (ap (λ n. slice_get server.sessions n) (sym same) ∙ of.is) in
    let f : kept ≡ of.session = cc e in
    let off : of.machine.staged ≡ false = unstaged (machine_of.Change of.machine) (ap (λ s. s.place) f ∙ of.inside) in
    let g : true ≡ false = sym of.staged ∙ off in
    cc g

module _ (script : Script) (server : Server) (world : World) (number : ℕ) (kept : Session)
    (is_shown : slice_get world.sessions number ≡ Some (kept_session kept))
    (serves : IsServerOf script server world) (stable : IsStable script world) where
  -- no table has changed
  pub leaves_all : LeavesOthers script server world number server.tables server.xacts
  leaves_all = record {
    reads = λ other session running reading apart stays me commits reads. reads;
    held = λ other table row apart holds. rw (serves.tables) refl;
    staged = λ other table row draft has. has.there;
  }

  pub leaves_opened : (transaction : Option ℕ) →
      LeavesOthers script server world number server.tables (transactions_opened server.xacts number transaction)
  leaves_opened (Some xact) = leaves_all
  leaves_opened None = record {
    reads = λ other session running reading apart stays me commits reads. beginning_keeps server.tables server.xacts reading number reads;
    held = λ other table row apart holds. rw (serves.tables) refl;
    staged = λ other table row draft has. has.there;
  }

  -- the open transaction of the session runs
  pub runs : (xact : ℕ) → kept.transaction ≡ Some xact → is_running server.xacts xact ≡ true
  runs xact is = let own = (stable.each number (kept_session kept) is_shown).owner xact is in rw (serves.transactions, own.0) refl

  -- it is not that of another session
  not_theirs : (xact : ℕ) → kept.transaction ≡ Some xact → (other table row : ℕ) (draft : PlacedRow) →
      HasDrafted script server world number other table row draft → draft.me.xact ≡ xact → ⊥
  not_theirs xact is other table row draft has same =
      not_owner world xact draft.me.xact other number ((stable.each number (kept_session kept) is_shown).owner xact is).1 has.owned has.apart (sym same)

  pub ended_shown : (transaction : Option ℕ) (end : TransactionEnd) →
      map table_shown (with_end_in server number transaction end).tables ≡ (with_end_of world number transaction end).tables
  ended_shown None end = serves.tables
  ended_shown (Some xact) commit = committed_in xact server.tables ∙ ap (map (table_after_end xact commit)) serves.tables
  ended_shown (Some xact) rollback = rolled_back_in xact server.tables ∙ ap (map (table_after_end xact rollback)) serves.tables

  pub ended_xacts : (transaction : Option ℕ) (end : TransactionEnd) →
      (with_end_in server number transaction end).xacts ≡ (with_end_of world number transaction end).transactions
  ended_xacts None end = serves.transactions
  ended_xacts (Some xact) commit = rw serves.transactions refl
  ended_xacts (Some xact) rollback = rw serves.transactions refl

  pub ended_waits : (transaction : Option ℕ) (end : TransactionEnd) →
      (with_end_in server number transaction end).waits ≡ (with_end_of world number transaction end).waits
  ended_waits None end = serves.waits
  ended_waits (Some xact) end = ap (λ slots. waits_ended slots number) serves.waits

  pub leaves_ended : (transaction : Option ℕ) (end : TransactionEnd) → kept.transaction ≡ transaction →
      HoldsStay script world (with_end_of world number transaction end).tables number →
      LeavesOthers script server world number (with_end_in server number transaction end).tables (with_end_in server number transaction end).xacts
  leaves_ended None end is stay = leaves_all
  leaves_ended (Some xact) commit is stay = record {
    reads = λ other session running reading apart stays me commits reads. commits_keep server.tables server.xacts reading xact (runs xact is) reads;
    held = subst (λ views. HoldsStay script world views number) (sym (ended_shown (Some xact) commit)) stay;
    staged = λ other table row draft has.
        others_stay (state_ended xact) xact (λ state r. staged_ended state xact r) server.tables table row draft
        (not_theirs xact is other table row draft has) has.there;
  }
  leaves_ended (Some xact) rollback is stay = record {
    reads = λ other session running reading apart stays me commits reads.
        rollbacks_keep server.tables server.xacts reading xact (runs xact is)
        (λ e. not_owner world xact running.me.xact other number ((stable.each number (kept_session kept) is_shown).owner xact is).1
        stays.owned apart (e ∙ ap (λ m. m.xact) me)) reads;
    held = subst (λ views. HoldsStay script world views number) (sym (ended_shown (Some xact) rollback)) stay;
    staged = λ other table row draft has.
        others_stay (state_undone xact) xact (λ state r. staged_undone state xact r) server.tables table row draft
        (not_theirs xact is other table row draft has) has.there;
  }
