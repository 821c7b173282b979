use Rattle.std.proofs.Common.{subst, ◌∙◌}
use Rattle.pg_heap.proofs.Latest.{AreBuried, buried_all, buried_more, buried_none, earlier_is, earlier_less}
use Rattle.pg_heap.proofs.heap.bury_written.Goals as goal

pub loop-next-init : goal.loop-next-init
loop-next-init c =
    buried_none c.args.xact c.args.slots.now.items c.copied-next.result
    (c.copied-next.ensures ∙ (c.get.ensures.value ∙ c.requires.written.last_of c.args.xact))

pub loop-next-smaller : goal.loop-next-smaller
loop-next-smaller c =
    let buried = subst (λ next. AreBuried c.args.xact c.args.slots.now.items c.loop-next.slots.items next) c.in-Some.is c.loop-next.invariant in
    let is = earlier_is c.args.xact c.args.slots.now.items c.args.earlier.now c.args.last.now.entries c.in-Some.number
    c.earlier_than-next.result c.requires.written buried.written c.earlier_than-next.ensures in
    rw c.in-Some.is
    (earlier_less c.args.xact c.args.slots.now.items c.in-Some.number c.earlier_than-next.result buried.written is)

pub loop-next-preserved : goal.loop-next-preserved
loop-next-preserved c =
    let buried = subst (λ next. AreBuried c.args.xact c.args.slots.now.items c.loop-next.slots.items next) c.in-Some.is c.loop-next.invariant in
    let is = earlier_is c.args.xact c.args.slots.now.items c.args.earlier.now c.args.last.now.entries c.in-Some.number
    c.earlier_than-next.result c.requires.written buried.written c.earlier_than-next.ensures in
    rw c.bury.ensures
    (buried_more c.args.xact c.args.slots.now.items c.loop-next.slots.items c.in-Some.number c.earlier_than-next.result
    c.requires.linked buried is)

pub returns : goal.returns
returns c =
    let buried = subst (λ next. AreBuried c.args.xact c.args.slots.now.items c.loop-next.slots.items next) c.in_default.is c.loop-next.invariant in
    buried_all c.args.xact c.args.slots.now.items c.loop-next.slots.items buried
