-- What becomes of an open statement by its acts.
use Rattle.std.specs.Prelude.{ℕ, ◌+◌, List}
use Rattle.pg_xacts.specs.Transactions.{Transactions}
use Rattle.pg_model.specs.declared.journal.EntryAct.{EntryAct}
use Rattle.pg_model.specs.declared.journal.EntryAct.TheVariants as entry
use Rattle.pg_world.specs.Changes.{current_name, row_at, table_at}
use Rattle.pg_world.specs.declared.session.Running.{Running}
use Rattle.pg_world.specs.declared.session.Stage.TheVariants.{Between as between, Found as found, Locked as locked, Placed as placed}
use Rattle.pg_world.specs.declared.session.VersionName.{VersionName}
use Rattle.pg_world.specs.declared.table.TableView.{TableView}

-- the statement has taken up that candidate
abbrev pub running_found : ℕ → Running → Running
running_found candidate running = record running { candidate = candidate; stage = found }

-- the statement has placed its proposed row
abbrev pub running_placed : ℕ → Running → Running
running_placed row running = record running { stage = placed row }

-- the statement has locked the row of its candidate, of which that version was current
abbrev pub running_locked : VersionName → Running → Running
running_locked name running = record running { stage = locked name }

-- the candidate has had its act, which the tag counts
abbrev pub running_acted : Running → Running
running_acted running = record running { stage = between; acts = running.acts + 1 }

-- the candidate has been passed over, which the tag does not count
abbrev pub running_passed : Running → Running
running_passed running = record running { stage = between }

-- the version that is current for a transaction of a row of a table, by its name
abbrev pub current_in : List TableView → Transactions → ℕ → ℕ → ℕ → VersionName
current_in tables transactions table row xact =
    current_name transactions xact (row_at (table_at tables table) row)

-- the open statement behind one of its acts, by the tables and transactions before it: Locked keeps
-- the version that is current for the statement's transaction; what is no act of an open statement
-- leaves it as it was
abbrev pub running_after_act : List TableView → Transactions → EntryAct → Running → Running
running_after_act tables transactions (entry.Found candidate) running =
    running_found candidate running
running_after_act tables transactions (entry.Locked table row strength) running =
    running_locked (current_in tables transactions table row running.me.xact) running
running_after_act tables transactions (entry.Placed table row) running = running_placed row running
running_after_act tables transactions (entry.Inserted table row) running = running_acted running
running_after_act tables transactions (entry.Updated table row) running = running_acted running
running_after_act tables transactions (entry.Deleted table row) running = running_acted running
running_after_act tables transactions entry.Passed running = running_passed running
running_after_act tables transactions _ running = running
