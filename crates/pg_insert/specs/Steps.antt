-- A step of an INSERT: its choices, and what the machine and the tables are behind its answer. All
-- that is not named stays as it was.
use Rattle.std.specs.Prelude.{◌+◌, ◌≤◌, List, map}
use Rattle.pg_lists.specs.Numbered.{with_changed_item}
use Rattle.pg_xacts.specs.Transactions.{Transactions}
use Rattle.pg_model.specs.declared.journal.EntryAct.{EntryAct}
use Rattle.pg_model.specs.declared.journal.EntryAct.TheVariants as entry
use Rattle.pg_model.specs.declared.statement.Insert.{Insert}
use Rattle.pg_model.specs.declared.statement.Statement.TheVariants as statement
use Rattle.pg_world.specs.Choices.{choices}
use Rattle.pg_world.specs.Choosing.{Choice}
use Rattle.pg_world.specs.Replies.{proposed_values}
use Rattle.pg_world.specs.declared.session.Running.{Running}
use Rattle.pg_table.specs.States.{TableState, row_inserted_in, row_placed_in, table_shown}
use Rattle.pg_plans.specs.declared.act.Act.{Act}
use Rattle.pg_plans.specs.declared.act.Act.TheVariants as answer
use Rattle.pg_relation.specs.Running.{running_after_act}
use Rattle.pg_relation.specs.Weight.{under_way_count}

-- what an INSERT may do next, by what the tables show
abbrev pub insert_choices_in : Insert → List TableState → Transactions → Running → List Choice
insert_choices_in insert tables transactions running =
    choices (statement.Insert insert) (map table_shown tables) transactions running

-- the statement behind an answer
abbrev pub running_after : List TableState → Transactions → Act → Running → Running
running_after tables transactions (answer.Entry act) running =
    running_after_act (map table_shown tables) transactions act running
running_after tables transactions _ running = running

-- the tables behind an act: the proposed row is placed, or what was placed is stored
abbrev pub tables_after_act : EntryAct → Running → List TableState → List TableState
tables_after_act (entry.Placed table row) running tables =
    with_changed_item (λ state. row_placed_in state running.me (proposed_values running)) tables
    table
tables_after_act (entry.Inserted table row) running tables =
    with_changed_item (λ state. row_inserted_in state row) tables table
tables_after_act _ running tables = tables

-- the tables behind an answer
abbrev pub tables_after : Act → Running → List TableState → List TableState
tables_after (answer.Entry act) running tables = tables_after_act act running tables
tables_after _ running tables = tables

-- the tag has counted an act for each candidate taken up, but for one that is under way
abbrev pub IsCounted : Running → Type 0
IsCounted running = running.acts + under_way_count running.stage ≤ running.candidate
