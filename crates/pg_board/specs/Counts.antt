-- The counts of a session, and of the versions of the tables, stay below those that the script and the
-- journal bound.
use Rattle.std.specs.Prelude.{ℕ, ◌≡◌, ◌+◌, ◌≤◌, IfSome, List, length, sum_by, Option, Some, true}
use Rattle.pg_lists.specs.Numbered.{item_at}
use Rattle.pg_xacts.specs.Transactions.{Transactions, is_running}
use Rattle.pg_model.specs.declared.journal.Entry.{Entry}
use Rattle.pg_model.specs.declared.script.Script.{Script}
use Rattle.pg_world.specs.declared.session.SessionView.{SessionView}
use Rattle.pg_world.specs.Worlds.{World, session_of}
use Rattle.pg_relation.specs.Setup.{first_world}
use Rattle.pg_relation.specs.Sound.{begun_by}
use Rattle.pg_table.specs.States.{TableState}
use Rattle.pg_update.specs.Steps.{stagings_left}
use Rattle.pg_board.specs.declared.server.Server.{Server}
use Rattle.pg_board.specs.declared.session.Machine.{Machine}
use Rattle.pg_board.specs.declared.session.Machine.TheVariants as machine_of
use Rattle.pg_board.specs.declared.session.Place.{Place}
use Rattle.pg_board.specs.declared.session.Place.TheVariants as place_of

-- no more commands than statements were begun
pub record IsCounted (session : SessionView) : Type 0 where
  pub commands : session.command ≤ begun_by session

-- of each session of the world
pub record AreCounted (world : World) : Type 0 where
  pub each : (number : ℕ) (session : SessionView) → session_of world number ≡ Some session → IsCounted session

-- the transaction, where one is open, runs
abbrev pub RunsIn : Transactions → Option ℕ → Type 0
RunsIn transactions transaction = IfSome transaction (λ xact. is_running transactions xact ≡ true)

-- the open transaction of a session runs
abbrev pub Runs : World → SessionView → Type 0
Runs world session = RunsIn world.transactions session.transaction

-- how many rows setup has stored
abbrev pub rows_set_up : Script → ℕ
rows_set_up script = sum_by (λ table. length table.rows) (first_world script).tables

-- no table has more versions than that: each was drawn for a row that setup has stored, at an entry,
-- or behind the entry that locked its row
abbrev pub most_versions : Script → List Entry → ℕ
most_versions script journal = rows_set_up script + length journal

-- how many versions a machine may draw before its next entry: one, where it has locked a row and has
-- not staged its new values
abbrev pub machine_draws : Machine → ℕ
machine_draws (machine_of.Insert insert) = 0
machine_draws (machine_of.Select select) = 0
machine_draws (machine_of.Change change) = stagings_left change

-- and a session
abbrev pub place_draws : Place → ℕ
place_draws place_of.Idle = 0
place_draws (place_of.Inside machine) = machine_draws machine
place_draws (place_of.Ending tag) = 0
place_draws place_of.Closed = 0

-- no table has more than so many versions, with those that the sessions may still draw
abbrev pub HasFew : ℕ → Server → Type 0
HasFew most server =
    (number : ℕ) (state : TableState) → item_at server.tables number ≡ Some state →
    length state.store.versions + sum_by (λ session. place_draws session.place) server.sessions
    ≤ most
