-- The rows so far, and those left.
use Rattle.std.proofs.Common.{◌≡◌, ◌&&◌, ◌++◌, [], drop, flat_map, map}
use Rattle.pg_analyse.specs.Built.{is_empty}
use Rattle.pg_analyse.specs.Inserts.{store_errors}
use Rattle.pg_resolve.specs.Resolved.{expr_errors, expr_of_tree}
use Rattle.pg_analyse.proofs.inserts.resolve_rows.Given as goal

abbrev pub invariant-loop-tuple : goal.invariant-loop-tuple
invariant-loop-tuple l =
    (l.rows ++ map (map (expr_of_tree [])) (drop l.tuple-index l.tuples) ≡ map (map (expr_of_tree [])) l.tuples)
    × (flat_map (flat_map (expr_errors [])) (drop l.tuple-index l.tuples) ≡ flat_map (flat_map (expr_errors [])) l.tuples)
    × ((l.fits && is_empty (flat_map (store_errors l.columns l.numbers) (drop l.tuple-index l.tuples)))
    ≡ is_empty (flat_map (store_errors l.columns l.numbers) l.tuples))
