use Rattle.std.proofs.Common.{refl}
use Rattle.pg_board.proofs.Running.{blocked_can, blocked_is, done_planned, failed_is, finished_is}
use Rattle.pg_board.proofs.inside.step_inside.Goals as goal

pub finish-requires-clause-planned : goal.finish-requires-clause-planned
finish-requires-clause-planned c =
    done_planned c.args.server.now c.run_machine.new.server c.args.number c.args.statement.now c.in-Done.ensures.ran
    (c.in-Done.ensures.stays refl) c.requires.ready

pub returns-in-Failed-clause-ok : goal.returns-in-Failed-clause-ok
returns-in-Failed-clause-ok c =
    failed_is c.args.script.now c.args.server.now c.run_machine.new.server c.fail.new.server c.args.number c.args.statement.now c.in-Failed.error
    c.in-Failed.ensures.ran (c.in-Failed.ensures.stays refl) c.fail.ensures

pub returns-in_ok-finish-in-Done-clause-ok : goal.returns-in_ok-finish-in-Done-clause-ok
returns-in_ok-finish-in-Done-clause-ok c =
    finished_is c.args.script.now c.args.server.now c.run_machine.new.server c.finish.new.server c.args.number c.args.statement.now c.in_ok-finish-in-Done.field-0
    c.in-Done.ensures.ran (c.in-Done.ensures.stays refl) c.in_ok-finish-in-Done.ensures.ok

pub wait_for-requires-clause-waits : goal.wait_for-requires-clause-waits
wait_for-requires-clause-waits c =
    blocked_can c.args.server.now c.run_machine.new.server c.args.number c.args.statement.now c.in-Blocked.on
    c.in-Blocked.ensures.ran (c.in-Blocked.ensures.stays refl) c.requires.waits c.requires.within

pub returns-in_ok-wait_for-in-Blocked-clause-ok : goal.returns-in_ok-wait_for-in-Blocked-clause-ok
returns-in_ok-wait_for-in-Blocked-clause-ok c =
    blocked_is c.args.script.now c.args.server.now c.run_machine.new.server c.wait_for.new.server c.args.number c.args.statement.now
    c.in-Blocked.on c.in_ok-wait_for-in-Blocked.field-0 c.in-Blocked.ensures.ran (c.in-Blocked.ensures.stays refl)
    c.in_ok-wait_for-in-Blocked.ensures.act c.in_ok-wait_for-in-Blocked.ensures.ok
