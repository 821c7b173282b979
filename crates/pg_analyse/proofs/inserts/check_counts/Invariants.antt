-- The rows left.
use Rattle.std.proofs.Common.{◌≡◌, drop, flat_map}
use Rattle.pg_analyse.specs.Inserts.{count_errors}
use Rattle.pg_analyse.proofs.inserts.check_counts.Given as goal

abbrev pub invariant-loop-tuple : goal.invariant-loop-tuple
invariant-loop-tuple l =
    flat_map (count_errors l.columns l.names) (drop l.tuple-index l.tuples)
    ≡ flat_map (count_errors l.columns l.names) l.tuples
