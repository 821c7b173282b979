use Rattle.pg_board.proofs.Behind.{behind_at}
use Rattle.pg_board.proofs.Rooms.{can_answer, can_begin, can_command, runs_at}
use Rattle.pg_board.proofs.Running.{moves_given, outside_given, runs_given, statement_steps}
use Rattle.pg_board.proofs.step.step_session.Goals as goal

pub step_statement-requires-clause-answered : goal.step_statement-requires-clause-answered
step_statement-requires-clause-answered c = can_answer c.args.script.now c.args.server.now c.args.number c.requires.serves

pub step_statement-requires-clause-runs : goal.step_statement-requires-clause-runs
step_statement-requires-clause-runs c = runs_at c.args.script.now c.args.server.now c.args.number c.requires.serves

pub step_statement-requires-clause-behind : goal.step_statement-requires-clause-behind
step_statement-requires-clause-behind c = behind_at c.args.script.now c.args.server.now c.args.number c.requires.serves

pub step_outside-requires-clause-behind : goal.step_outside-requires-clause-behind
step_outside-requires-clause-behind c = behind_at c.args.script.now c.args.server.now c.args.number c.requires.serves

pub step_statement-requires-clause-ready : goal.step_statement-requires-clause-ready
step_statement-requires-clause-ready c =
    runs_given c.args.script.now c.args.server.now c.args.number _ c.requires.serves c.requires.within c.requires.free
    c.statement_in-given.ensures c.has_snapshot.result c.has_snapshot.ensures c.if-has_snapshot.true

pub step_outside-requires-clause-answered : goal.step_outside-requires-clause-answered
step_outside-requires-clause-answered c = can_answer c.args.script.now c.args.server.now c.args.number c.requires.serves

pub step_outside-requires-clause-begun : goal.step_outside-requires-clause-begun
step_outside-requires-clause-begun c = can_begin c.args.script.now c.args.server.now c.args.number c.requires.serves

pub step_outside-requires-clause-commands : goal.step_outside-requires-clause-commands
step_outside-requires-clause-commands c = can_command c.args.script.now c.args.server.now c.args.number c.requires.serves

pub step_outside-requires-clause-runs : goal.step_outside-requires-clause-runs
step_outside-requires-clause-runs c = runs_at c.args.script.now c.args.server.now c.args.number c.requires.serves

pub step_outside-requires-clause-can_move : goal.step_outside-requires-clause-can_move
step_outside-requires-clause-can_move c =
    moves_given c.args.script.now c.args.server.now c.args.number _ c.requires.serves c.requires.within c.requires.free
    c.statement_in-given.ensures c.has_snapshot.result c.has_snapshot.ensures c.if-has_snapshot.false c.requires.unended

pub returns-then-has_snapshot-clause-step : goal.returns-then-has_snapshot-clause-step
returns-then-has_snapshot-clause-step c =
    statement_steps c.args.script.now c.args.server.now c.args.number _ c.requires.serves c.requires.within c.requires.free
    c.statement_in-given.ensures c.has_snapshot.result c.has_snapshot.ensures c.step_statement.result c.step_statement.new.server
    c.if-has_snapshot.true c.step_statement.ensures.ok

pub returns-in_ok-step_outside-clause-step : goal.returns-in_ok-step_outside-clause-step
returns-in_ok-step_outside-clause-step c =
    outside_given c.args.script.now c.args.server.now c.args.number _ c.requires.serves c.requires.within c.requires.free
    c.statement_in-given.ensures c.has_snapshot.result c.has_snapshot.ensures c.step_outside.new.server c.in_ok-step_outside.field-0
    c.in_ok-step_outside.ensures.ok
