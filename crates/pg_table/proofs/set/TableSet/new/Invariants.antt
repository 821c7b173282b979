-- An empty table for each shape so far.
use Rattle.std.proofs.Common.{◌≡◌, map, take}
use Rattle.pg_table.specs.States.{empty_state}
use Rattle.pg_table.proofs.set.TableSet.new.Given as goal

abbrev pub invariant-loop-shape : goal.invariant-loop-shape
invariant-loop-shape l =
    l.tables.items ≡ map (λ shape. empty_state) (take l._shape-index l._shape-items)
