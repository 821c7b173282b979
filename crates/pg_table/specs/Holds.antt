-- What comes of a statement's wish to lock a row, and what the table is then.
use Rattle.std.specs.Prelude.{ℕ, if◌then◌else◌, Option, None, Some, is_none, option_map, unwrap_or}
use Rattle.pg_multi.specs.declared.strength.Strength.{Strength}
use Rattle.pg_multi.specs.Locks.{blocker}
use Rattle.pg_xacts.specs.declared.me.Me.{Me}
use Rattle.pg_xacts.specs.declared.on.Until.TheVariants.{Transaction as until_transaction}
use Rattle.pg_xacts.specs.Transactions.{Transactions, beginner_of}
use Rattle.pg_heap.specs.Current.{current, current_values, newest}
use Rattle.pg_heap.specs.declared.row.Row.{Row}
use Rattle.pg_heap.specs.declared.version.Version.{Version}
use Rattle.pg_world.specs.declared.table.TableView.{TableView}
use Rattle.pg_world.specs.Changes.{is_of_command, row_at}
use Rattle.pg_world.specs.Tables.{locks_on}
use Rattle.pg_table.specs.declared.hold.Hold.{Hold}
use Rattle.pg_table.specs.declared.hold.Hold.TheVariants.{Own, Gone, Blocked, Held}
use Rattle.pg_table.specs.States.{TableState, row_held_in}

-- the lowest other holder whose lock conflicts is waited for until its transaction ends, and where
-- there is none the row is held
abbrev pub hold_by : Transactions → Option ℕ → Hold
hold_by transactions None = Held
hold_by transactions (Some xact) =
    Blocked
    (record {
      session = unwrap_or (beginner_of transactions xact) 0;
      until = until_transaction;
    })

-- the first that applies: the row's newest version is of this command; its current version is gone;
-- another holder conflicts; else the row is held
abbrev pub hold_answer : TableView → Transactions → Me → ℕ → Strength → Hold
hold_answer table transactions me row strength =
    if is_of_command me (newest (row_at table row)) then Own
    else
    if is_none (current_values transactions me.xact (row_at table row)) then Gone
    else hold_by transactions (blocker (locks_on table row) me.xact strength)

-- the transaction has the lock where the row is held, and else nothing changes
abbrev pub state_after_hold : Hold → TableState → ℕ → ℕ → Strength → TableState
state_after_hold Held state xact row strength = row_held_in state xact row strength
state_after_hold Own state xact row strength = state
state_after_hold Gone state xact row strength = state
state_after_hold (Blocked on) state xact row strength = state

-- a version, unless it says that its row is gone
abbrev pub unless_gone : Option Version → Option Version
unless_gone None = None
unless_gone (Some version) = option_map (λ values. version) version.values

-- the current version of a row for a transaction, unless the row is gone
abbrev pub current_there : Transactions → ℕ → Row → Option Version
current_there transactions xact row = unless_gone (current transactions xact row)
