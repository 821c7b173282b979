-- The tables so far, with those to come as they will be, are all of them.
use Rattle.std.proofs.Common.{◌≡◌, ◌++◌, drop, map, take}
use Rattle.pg_table.specs.States.{state_ended}
use Rattle.pg_table.proofs.set.end_each.Given as goal

abbrev pub invariant-loop-table : goal.invariant-loop-table
invariant-loop-table l =
    take l.table-index l.tables ++ map (state_ended l.xact) (drop l.table-index l.tables)
    ≡ map (state_ended l.xact) l.initial.tables
