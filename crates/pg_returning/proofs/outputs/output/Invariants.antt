-- The values so far, and the items left.
use Rattle.std.proofs.Common.{◌≡◌, drop, map}
use Rattle.pg_world.specs.Evaluation.{all_values, value_of}
use Rattle.pg_returning.specs.Outcomes.{values_behind}
use Rattle.pg_returning.proofs.outputs.output.Given as goal

abbrev pub invariant-loop-item : goal.invariant-loop-item
invariant-loop-item l =
    values_behind l.values
    (all_values (map (λ item. value_of item l.env) (drop l.item-index l.items)))
    ≡ all_values (map (λ item. value_of item l.env) l.items)
