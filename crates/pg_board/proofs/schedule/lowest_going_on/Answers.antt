use Rattle.std.proofs.Common.{◌∙◌, arith, sym}
use Rattle.pg_relation.specs.Schedules.{is_going_on}
use Rattle.pg_board.specs.Servers.{kept_world}
use Rattle.pg_board.proofs.Scheduling.{lowest_here, lowest_past}
use Rattle.pg_board.proofs.schedule.lowest_going_on.Goals as goal

pub returns-then-goes_on : goal.returns-then-goes_on
returns-then-goes_on c =
    sym (lowest_here (λ number. is_going_on (kept_world c.args.server.now) number) c.args.server.now.sessions c.loop-number.number
    (omega (arith, c.loop-number-test.true, c.loop-number.auto.number-end, c.len-number-end.ensures, c.requires))
    (sym c.goes_on.ensures ∙ c.if-goes_on.true))
    ∙ c.loop-number.invariant

pub loop-number-preserved : goal.loop-number-preserved
loop-number-preserved c =
    sym (lowest_past (λ number. is_going_on (kept_world c.args.server.now) number) c.args.server.now.sessions c.loop-number.number
    (omega (arith, c.loop-number-test.true, c.loop-number.auto.number-end, c.len-number-end.ensures, c.requires))
    (sym c.goes_on.ensures ∙ c.if-goes_on.false))
    ∙ c.loop-number.invariant
