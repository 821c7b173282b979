-- The waits to come make up what is wanted.
use Rattle.std.proofs.Common.{◌≡◌, ◌++◌, length}
use Rattle.pg_model.specs.Errors.{cycle_text}
use Rattle.pg_print.proofs.errors.put_waits.Given as goal

abbrev pub invariant-loop-name : goal.invariant-loop-name
invariant-loop-name l = l.out.items ++ cycle_text l.first l.names ≡ l.initial.out.items ++ cycle_text l.first l.initial.names

abbrev pub decreases-loop-name : goal.decreases-loop-name
decreases-loop-name l = length l.names
