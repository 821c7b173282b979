use Rattle.std.proofs.Common.{◌∙◌, ap, subst, sym}
use Rattle.pg_waits.specs.Slots.{waits_for}
use Rattle.pg_relation.specs.Sound.{HasSoundWaits}
use Rattle.pg_relation.proofs.Kept.{waits_after}
use Rattle.pg_board.specs.Board.{BoardView}
use Rattle.pg_board.proofs.Asking.{waiting_inside}
use Rattle.pg_board.proofs.board.Board.waits_for.Goals as goal

pub returns-clause-session : goal.returns-clause-session
returns-clause-session c =
    rw (← c.self.view_is)
    (c.waits_for.ensures.session ∙ ap (λ slots. waits_for slots c.args.number) c.self.invariant.serves.waits)

pub returns-clause-inside : goal.returns-clause-inside
returns-clause-inside c =
    waiting_inside c.args.self.now c.args.number c.waits_for.result
    (subst (λ (v : BoardView). HasSoundWaits v.world) c.self.view_is (waits_after c.self.inside.script.now c.self.inside.journal.items c.self.invariant.legal))
    (returns-clause-session c)
