use Rattle.pg_board.proofs.inside.run_machine.Goals as goal

pub step_machine-requires : goal.step_machine-requires
step_machine-requires c =
    c.requires.ready c.item_mut-session.result.now c.in-Inside.machine c.item_mut-session.ensures.value c.in-Inside.is
