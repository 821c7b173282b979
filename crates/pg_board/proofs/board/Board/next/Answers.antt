use Rattle.std.proofs.Common.{◌∙◌, rules, subst}
use Rattle.pg_relation.specs.Journals.{world_after}
use Rattle.pg_relation.specs.Sound.{HasSoundWaits, IsSound}
use Rattle.pg_relation.proofs.Kept.{waits_after}
use Rattle.pg_relation.proofs.Sound.{sound_after}
use Rattle.pg_board.specs.Board.{BoardView}
use Rattle.pg_board.proofs.Next.{next_free, next_in_script, next_none}
use Rattle.pg_board.proofs.Agreeing.{remaining_same}
use Rattle.pg_board.proofs.Tying.{tied_few}
use Rattle.pg_board.proofs.board.Board.next.Goals as goal

pub remaining_session-requires : goal.remaining_session-requires
remaining_session-requires c =
    tied_few c.self.inside.script.now c.self.inside.journal.items c.self.inside.server c.self.inside.queues c.self.inside.taken c.self.invariant

pub returns-clause-session : goal.returns-clause-session
returns-clause-session c =
    let left = c.remaining_session.ensures
    ∙ remaining_same c.self.inside.script.now c.self.inside.server (world_after c.self.inside.script.now c.self.inside.journal.items) c.self.invariant.serves in
    search (rules, left)

pub returns-clause-within : goal.returns-clause-within
returns-clause-within c =
    let sound = subst (λ (v : BoardView). IsSound v.script v.world) (c.self.view_is ∙ c.settle.ensures.schedule)
    (sound_after c.self.inside.script.now c.self.inside.journal.items c.self.invariant.legal) in
    rw c.settle.ensures.schedule
    (next_in_script c.args.self.now.script c.args.self.now.world c.args.self.now.schedule c.or.result sound (returns-clause-session c))

pub returns-clause-can_move : goal.returns-clause-can_move
returns-clause-can_move c =
    let waits = subst (λ (v : BoardView). HasSoundWaits v.world) (c.self.view_is ∙ c.settle.ensures.schedule)
    (waits_after c.self.inside.script.now c.self.inside.journal.items c.self.invariant.legal) in
    rw c.settle.ensures.schedule (next_free c.args.self.now c.or.result waits (returns-clause-session c))

pub returns-clause-ended : goal.returns-clause-ended
returns-clause-ended c =
    let waits = subst (λ (v : BoardView). HasSoundWaits v.world) (c.self.view_is ∙ c.settle.ensures.schedule)
    (waits_after c.self.inside.script.now c.self.inside.journal.items c.self.invariant.legal) in
    next_none c.args.self.now.script c.args.self.now.world c.args.self.now.schedule c.or.result waits (returns-clause-session c)
