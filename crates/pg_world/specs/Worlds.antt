-- The world: its parts by number, and a world with one part replaced.
use Rattle.std.specs.Prelude.{ℕ, List, map, Option, None, Some}
use Rattle.pg_lists.specs.Numbered.{with_changed_item, item_at, with_item}
use Rattle.pg_waits.specs.Effects.{wait_begun, waits_ended}
use Rattle.pg_xacts.specs.declared.on.On.{On}
use Rattle.pg_xacts.specs.declared.on.Until.TheVariants.{Transaction}
use Rattle.pg_xacts.specs.Transactions.{Transactions, transaction_committed, transaction_rolled_back}
use Rattle.pg_world.specs.declared.session.SessionView.{SessionView}
use Rattle.pg_world.specs.declared.table.TableView.{TableView}
use Rattle.pg_world.specs.Tables.{TransactionEnd, commit, rollback, table_after_end}

-- what a journal leaves: the tables, the transactions, the sessions, and what each session waits for
pub record World : Type 0 where
  pub tables : List TableView
  pub transactions : Transactions
  pub sessions : List SessionView
  pub waits : List (Option On)

-- the session of that number, if there is one
abbrev pub session_of : World → ℕ → Option SessionView
session_of world number = item_at world.sessions number

-- the table of that number, if there is one
abbrev pub table_of : World → ℕ → Option TableView
table_of world number = item_at world.tables number

-- the world in which a session stands as given
abbrev pub with_session : World → ℕ → SessionView → World
with_session world number session =
    record world { sessions = with_item world.sessions number session }

-- the world in which a table is as `change` makes it
abbrev pub with_table : World → ℕ → (TableView → TableView) → World
with_table world number change =
    record world { tables = with_changed_item change world.tables number }

-- the transactions behind the end of one: a commit takes the next place in the commit order
abbrev pub transactions_after_end : Transactions → ℕ → TransactionEnd → Transactions
transactions_after_end transactions xact commit = transaction_committed transactions xact
transactions_after_end transactions xact rollback = transaction_rolled_back transactions xact

-- a session waits for another until the transaction of that ends
abbrev pub until_end : ℕ → On
until_end other = record { session = other; until = Transaction }

-- the world in which the session of that number waits for another
abbrev pub with_wait : World → ℕ → On → World
with_wait world number on = record world { waits = wait_begun world.waits number on }

-- the world in which a transaction of a session has ended: among the transactions, in every table,
-- and for those who wait for it
abbrev pub with_end : World → ℕ → ℕ → TransactionEnd → World
with_end world number xact end =
    record world {
      transactions = transactions_after_end world.transactions xact end;
      tables = map (table_after_end xact end) world.tables;
      waits = waits_ended world.waits number;
    }

-- the same, where a transaction is open
abbrev pub with_end_of : World → ℕ → Option ℕ → TransactionEnd → World
with_end_of world number None end = world
with_end_of world number (Some xact) end = with_end world number xact end
