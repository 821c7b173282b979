-- What was done is a front of the run, and the steps to come fall.
use Rattle.pg_ending.specs.Runs.{RunsTo}
use Rattle.pg_ending.specs.Countdown.{next_tick, after_tick, clock_weight}
use Rattle.pg_ending.proofs.Ending.{steps_left}
use Rattle.pg_ending.proofs.clock.run_down.Given as goal

abbrev pub invariant-loop-tick : goal.invariant-loop-tick
invariant-loop-tick l = RunsTo next_tick (after_tick l.refill) l.fn.clock l.ticks.items l.clock

abbrev pub decreases-loop-tick : goal.decreases-loop-tick
decreases-loop-tick l = steps_left next_tick (after_tick l.refill) clock_weight l.clock
