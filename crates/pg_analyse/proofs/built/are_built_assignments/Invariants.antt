-- What is left decides.
use Rattle.std.proofs.Common.{◌≡◌, drop}
use Rattle.std.specs.List.{list_all}
use Rattle.pg_analyse.specs.Built.{is_built_assignment}
use Rattle.pg_analyse.proofs.built.are_built_assignments.Given as goal

abbrev pub invariant-loop-set : goal.invariant-loop-set
invariant-loop-set l = list_all is_built_assignment (drop l.set-index l.sets) ≡ list_all is_built_assignment l.sets
