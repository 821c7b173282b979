use Rattle.std.specs.Option.{option_copied}
use Rattle.pg_board.proofs.Running.{run_given, wait_given}
use Rattle.pg_board.proofs.step.step_statement.Goals as goal

pub step_inside-requires-clause-ready : goal.step_inside-requires-clause-ready
step_inside-requires-clause-ready c =
    run_given c.args.server.now c.args.number (option_copied c.args.given) c.statement_given-statement.result.now c.requires.ready
    c.statement_given-statement.ensures

pub step_inside-requires-clause-waits : goal.step_inside-requires-clause-waits
step_inside-requires-clause-waits c =
    wait_given c.args.server.now c.args.number (option_copied c.args.given) c.statement_given-statement.result.now c.requires.ready
    c.statement_given-statement.ensures
