-- What is left decides.
use Rattle.std.proofs.Common.{◌≡◌, drop}
use Rattle.std.specs.List.{list_all}
use Rattle.pg_analyse.specs.Built.{is_built_expr}
use Rattle.pg_analyse.proofs.built.are_built_tuples.Given as goal

abbrev pub invariant-loop-tuple : goal.invariant-loop-tuple
invariant-loop-tuple l = list_all (list_all is_built_expr) (drop l.tuple-index l.tuples) ≡ list_all (list_all is_built_expr) l.tuples
