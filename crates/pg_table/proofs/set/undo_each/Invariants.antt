-- The tables so far, with those to come as they will be, are all of them; and those to come are as
-- they were.
use Rattle.std.proofs.Common.{◌≡◌, ◌++◌, drop, map, take}
use Rattle.pg_table.specs.States.{state_undone}
use Rattle.pg_table.proofs.set.undo_each.Given as goal

abbrev pub invariant-loop-table : goal.invariant-loop-table
invariant-loop-table l =
    (take l.table-index l.tables ++ map (state_undone l.xact) (drop l.table-index l.tables)
    ≡ map (state_undone l.xact) l.initial.tables)
    × (drop l.table-index l.tables ≡ drop l.table-index l.initial.tables)
