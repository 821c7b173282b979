-- The items so far, and those left.
use Rattle.std.proofs.Common.{◌≡◌, ◌++◌, drop, flat_map}
use Rattle.pg_analyse.specs.Queries.{item_errors, item_exprs}
use Rattle.pg_analyse.proofs.queries.resolve_items.Given as goal

abbrev pub invariant-loop-item : goal.invariant-loop-item
invariant-loop-item l =
    (l.exprs ++ flat_map (item_exprs l.scope) (drop l.item-index l.items) ≡ flat_map (item_exprs l.scope) l.items)
    × (flat_map (item_errors l.scope) (drop l.item-index l.items) ≡ flat_map (item_errors l.scope) l.items)
