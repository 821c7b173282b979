use Rattle.std.proofs.Common.{◌∙◌, ap, arith, subst, sym}
use Rattle.pg_relation.specs.Journals.{world_after}
use Rattle.pg_waits.specs.Slots.{waits_for}
use Rattle.pg_relation.proofs.Walks.{free_of}
use Rattle.pg_board.specs.Steps.{IsStepIn}
use Rattle.pg_board.proofs.Tying.{moved_by_entry, moved_nearer, tied_count, tied_nearer, tied_step, unended_in}
use Rattle.pg_board.proofs.board.Board.advance.Goals as goal

pub step_session-requires-clause-within : goal.step_session-requires-clause-within
step_session-requires-clause-within c =
    let within = rw (← c.self.view_is) at c.requires.within in
    let count = tied_count c.self.inside.script.now c.self.inside.journal.items c.self.inside.server c.self.inside.queues c.self.inside.taken c.self.invariant in
    omega (arith, within, count)

pub step_session-requires-clause-unended : goal.step_session-requires-clause-unended
step_session-requires-clause-unended c =
    let within = rw (← c.self.view_is) at c.requires.within in
    let unended = rw (← c.self.view_is) at c.requires.unended in
    unended_in c.self.inside.script.now c.self.inside.journal.items c.self.inside.server c.self.inside.queues c.self.inside.taken
    c.self.inside.last c.self.inside.waited.items c.args.number c.self.invariant within unended

pub step_session-requires-clause-free : goal.step_session-requires-clause-free
step_session-requires-clause-free c =
    let free = rw (← c.self.view_is) at c.requires.free in
    free_of c.self.inside.server.waits c.args.number
    (ap (λ slots. waits_for slots c.args.number) c.self.invariant.serves.waits ∙ free)

pub invariant_of-self-in-Some : goal.invariant_of-self-in-Some
invariant_of-self-in-Some c =
    rw (c.push_reserved.ensures.items, c.reserve.ensures.items)
    (tied_step c.self.inside.script.now c.self.inside.journal.items c.self.inside.server c.step_session.new.server c.self.inside.queues
    c.self.inside.taken c.args.number c.in-Some.act c.self.invariant
    (subst (λ acted. IsStepIn c.self.inside.script.now c.args.number (world_after c.self.inside.script.now c.self.inside.journal.items)
    c.self.inside.server c.step_session.new.server acted) c.in-Some.is
    (c.in_ok-acted.ensures.step c.self.inside.journal.items c.self.invariant.legal c.self.invariant.serves)))

pub invariant_of-self-in_default : goal.invariant_of-self-in_default
invariant_of-self-in_default c =
    rw c.reserve.ensures.items
    (tied_nearer c.self.inside.script.now c.self.inside.journal.items c.self.inside.server c.step_session.new.server c.self.inside.queues
    c.self.inside.taken c.args.number c.self.invariant
    (subst (λ acted. IsStepIn c.self.inside.script.now c.args.number (world_after c.self.inside.script.now c.self.inside.journal.items)
    c.self.inside.server c.step_session.new.server acted) c.in_default.is
    (c.in_ok-acted.ensures.step c.self.inside.journal.items c.self.invariant.legal c.self.invariant.serves)))

pub returns-in-Some-clause-legal : goal.returns-in-Some-clause-legal
returns-in-Some-clause-legal c = (invariant_of-self-in-Some c).legal

pub returns-in-Some-clause-ok : goal.returns-in-Some-clause-ok
returns-in-Some-clause-ok c =
    rw (← c.self.view_is, c.push_reserved.ensures.items, c.reserve.ensures.items, c.moved.ensures, c.reserve-2.ensures.items)
    (moved_by_entry c.self.inside.script.now c.self.inside.journal.items c.self.inside.server c.step_session.new.server c.self.inside.queues
    c.self.inside.taken c.self.inside.last c.self.inside.waited.items c.self.invariant c.args.number c.in-Some.act
    (subst (λ acted. IsStepIn c.self.inside.script.now c.args.number (world_after c.self.inside.script.now c.self.inside.journal.items)
    c.self.inside.server c.step_session.new.server acted) c.in-Some.is
    (c.in_ok-acted.ensures.step c.self.inside.journal.items c.self.invariant.legal c.self.invariant.serves)))

pub returns-in_default-clause-ok : goal.returns-in_default-clause-ok
returns-in_default-clause-ok c =
    rw (← c.self.view_is, c.reserve.ensures.items, c.reserve-2.ensures.items)
    (moved_nearer c.self.inside.script.now c.self.inside.journal.items c.self.inside.server c.step_session.new.server c.self.inside.queues
    c.self.inside.taken c.self.inside.last c.self.inside.waited.items c.self.invariant c.args.number
    (subst (λ acted. IsStepIn c.self.inside.script.now c.args.number (world_after c.self.inside.script.now c.self.inside.journal.items)
    c.self.inside.server c.step_session.new.server acted) c.in_default.is
    (c.in_ok-acted.ensures.step c.self.inside.journal.items c.self.invariant.legal c.self.invariant.serves)))
