-- No table gets a version where a session ends its statement or begins one.
use Rattle.std.proofs.Common.{◌≡◌, ◌+◌, ◌≤◌, ℕ, Some, slice_get, slice_set, arith, refl, sym, ap, ◌∙◌}
use Rattle.pg_waits.specs.Effects.{wait_begun}
use Rattle.pg_model.specs.declared.journal.Tag.{Tag}
use Rattle.pg_model.specs.declared.statement.Statement.{Statement}
use Rattle.pg_world.specs.Tables.{TransactionEnd, commit, rollback}
use Rattle.pg_world.specs.Worlds.{until_end}
use Rattle.pg_board.specs.Counts.{HasFew, place_draws}
use Rattle.pg_board.specs.declared.server.Server.{Server}
use Rattle.pg_board.specs.declared.session.Place.{Place}
use Rattle.pg_board.specs.declared.session.Place.TheVariants as place_of
use Rattle.pg_board.specs.declared.session.Session.{Session}
use Rattle.pg_board.specs.Kept.{server_closed, server_committed, server_failed, server_replied, server_rolled_back, server_snapped, with_end_in}
use Rattle.pg_board.proofs.Ending.{kept_left}
use Rattle.pg_board.proofs.Few.{draws_one, few_moved, grow_ended, grow_none}

-- a session may draw one version
draws_place : (place : Place) → place_draws place ≤ 1
draws_place place_of.Idle = omega arith
draws_place (place_of.Inside machine) = draws_one machine
draws_place (place_of.Ending tag) = omega arith
draws_place place_of.Closed = omega arith

module _ (server : Server) (number : ℕ) (kept : Session) (is_kept : slice_get server.sessions number ≡ Some kept) where
  -- where no table has grown there is room for what the session may draw next
  few_same : (new : Server) (after : Session) → new.tables ≡ server.tables → new.sessions ≡ slice_set server.sessions number after →
      (most : ℕ) → HasFew most server → HasFew (most + 1) new
  few_same new after tables sessions most few =
      few_moved server new number kept after is_kept sessions 0 1
      (λ table state is. grow_none server.tables table state (ap (λ t. slice_get t table) (sym tables) ∙ is))
      (let one = draws_place after.place in omega (arith, one)) most few

  few_ended : (end : TransactionEnd) (after : Session) (most : ℕ) → HasFew most server →
      HasFew (most + 1)
      (record (with_end_in server number kept.transaction end) {
        sessions = slice_set (with_end_in server number kept.transaction end).sessions number after;
      })
  few_ended end after most few =
      few_moved server
      (record (with_end_in server number kept.transaction end) {
        sessions = slice_set (with_end_in server number kept.transaction end).sessions number after;
      })
      number kept after is_kept (ap (λ s. slice_set s number after) (kept_left server number kept.transaction end)) 0 1
      (grow_ended server number kept.transaction end) (let one = draws_place after.place in omega (arith, one)) most few

  pub few_committed : (most : ℕ) → HasFew most server → HasFew (most + 1) (server_committed server number kept)
  few_committed most few = few_ended commit _ most few

  pub few_rolled_back : (most : ℕ) → HasFew most server → HasFew (most + 1) (server_rolled_back server number kept)
  few_rolled_back most few = few_ended rollback _ most few

  pub few_failed : (most : ℕ) → HasFew most server → HasFew (most + 1) (server_failed server number kept)
  few_failed most few = few_ended rollback _ most few

  pub few_closed : (most : ℕ) → HasFew most server → HasFew (most + 1) (server_closed server number kept)
  few_closed most few = few_ended rollback _ most few

  pub few_replied : (tag : Tag) (most : ℕ) → HasFew most server → HasFew (most + 1) (server_replied server number kept tag)
  few_replied tag most few = few_same (server_replied server number kept tag) _ refl refl most few

  pub few_snapped : (own : Statement) (most : ℕ) → HasFew most server → HasFew (most + 1) (server_snapped server number own kept)
  few_snapped own most few = few_same (server_snapped server number own kept) _ refl refl most few

-- nor where it waits
pub few_waited : (server : Server) (number other most : ℕ) → HasFew most server →
    HasFew (most + 1) (record server { waits = wait_begun server.waits number (until_end other) })
few_waited server number other most few table state is = let old = few table state is in omega (arith, old)
