use Rattle.std.proofs.Common.{subst}
use Rattle.pg_rows.proofs.Ended.{IsEnding, ending_first, ending_last, ending_less, ending_more, ending_within}
use Rattle.pg_rows.proofs.store.RowStore.ended.Goals as goal

pub loop-next-init : goal.loop-next-init
loop-next-init c = ending_first c.args.xact c.args.self.now c.last_written-next.result c.last_written-next.ensures

pub written_before-next-requires-clause-drawn : goal.written_before-next-requires-clause-drawn
written_before-next-requires-clause-drawn c =
    ending_within c.args.xact c.in-Some.number c.args.self.now c.loop-next.self c.loop-next.next c.in-Some.is c.loop-next.invariant

pub give_up-requires-clause-drawn : goal.give_up-requires-clause-drawn
give_up-requires-clause-drawn c =
    ending_within c.args.xact c.in-Some.number c.args.self.now c.loop-next.self c.loop-next.next c.in-Some.is c.loop-next.invariant

pub loop-next-smaller : goal.loop-next-smaller
loop-next-smaller c =
    ending_less c.args.xact c.args.self.now c.loop-next.self c.loop-next.next c.written_before-next.result c.in-Some.number c.in-Some.is
    c.loop-next.invariant c.written_before-next.ensures

pub loop-next-preserved : goal.loop-next-preserved
loop-next-preserved c =
    rw c.give_up.ensures
    (ending_more c.args.xact c.args.self.now c.loop-next.self c.loop-next.next c.written_before-next.result c.in-Some.number c.in-Some.is
    c.loop-next.invariant c.written_before-next.ensures)

pub returns : goal.returns
returns c =
    ending_last c.args.xact c.args.self.now c.loop-next.self
    (subst (λ next. IsEnding c.args.xact c.args.self.now c.loop-next.self next) c.in_default.is c.loop-next.invariant)
