-- While the steps are quiet, the SELECT reads.
use Rattle.std.proofs.Common.{◌-◌}
use Rattle.pg_select.specs.Steps.{IsSelecting}
use Rattle.pg_select_tests.proofs.tests.quiet_steps.Given as goal

abbrev pub invariant-loop-steps : goal.invariant-loop-steps
invariant-loop-steps l = IsSelecting l.statement l.tables l.xacts l.machine

abbrev pub decreases-loop-steps : goal.decreases-loop-steps
decreases-loop-steps l = 1000 - l.steps
