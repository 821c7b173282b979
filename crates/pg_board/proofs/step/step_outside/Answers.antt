use Rattle.std.proofs.Common.{◌∙◌, sym}
use Rattle.pg_board.proofs.Running.{moves_on}
use Rattle.pg_board.proofs.step.step_outside.Goals as goal

pub unreachable-requires : goal.unreachable-requires
unreachable-requires c =
    moves_on c.args.server.now c.session-session.result.now _
    (c.requires.can_move c.session-session.result.now c.session-session.ensures) (sym c.in_ok-act.ensures ∙ c.in_default.is)
