-- What is left decides.
use Rattle.std.proofs.Common.{◌≡◌, drop}
use Rattle.std.specs.List.{list_all}
use Rattle.pg_analyse.specs.Built.{is_built_expr}
use Rattle.pg_analyse.proofs.built.is_built_tuple.Given as goal

abbrev pub invariant-loop-tree : goal.invariant-loop-tree
invariant-loop-tree l = list_all is_built_expr (drop l.tree-index l.tuple) ≡ list_all is_built_expr l.tuple
