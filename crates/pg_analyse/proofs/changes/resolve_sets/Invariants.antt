-- The values so far, and those left.
use Rattle.std.proofs.Common.{◌≡◌, ◌&&◌, ◌++◌, drop, flat_map, map}
use Rattle.pg_analyse.specs.Built.{is_empty}
use Rattle.pg_analyse.specs.Changes.{assignment_of, set_errors, stored_errors}
use Rattle.pg_analyse.proofs.changes.resolve_sets.Given as goal

abbrev pub invariant-loop-set : goal.invariant-loop-set
invariant-loop-set l =
    (l.assignments ++ map (assignment_of l.scope l.columns) (drop l.set-index l.sets)
    ≡ map (assignment_of l.scope l.columns) l.sets)
    × (flat_map (set_errors l.scope) (drop l.set-index l.sets) ≡ flat_map (set_errors l.scope) l.sets)
    × ((l.fits && is_empty (flat_map (stored_errors l.scope l.columns) (drop l.set-index l.sets)))
    ≡ is_empty (flat_map (stored_errors l.scope l.columns) l.sets))
