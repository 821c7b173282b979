use Rattle.std.proofs.Common.{ap, subst, sym, ◌∙◌}
use Rattle.pg_rows.specs.Stores.{is_settled}
use Rattle.pg_rows.proofs.Chains.{settled_state}
use Rattle.pg_rows.proofs.Unwinding.{IsUnwinding, unwinding_first, unwinding_within, unwound_less, unwound_settled, unwound_unsettled}
use Rattle.pg_rows.proofs.store.unwind.Goals as goal

pub loop-next-init : goal.loop-next-init
loop-next-init c =
    unwinding_first c.args.heap.now c.args.xact c.args.newest.now.items c.last_written-next.result c.requires.chained
    c.last_written-next.ensures

pub written_before-next-requires-clause-drawn : goal.written_before-next-requires-clause-drawn
written_before-next-requires-clause-drawn c =
    unwinding_within c.args.heap.now c.args.xact c.in-Some.number c.args.newest.now.items c.loop-next.newest.items c.loop-next.next
    c.in-Some.is c.loop-next.invariant

pub state-requires-clause-drawn : goal.state-requires-clause-drawn
state-requires-clause-drawn c =
    unwinding_within c.args.heap.now c.args.xact c.in-Some.number c.args.newest.now.items c.loop-next.newest.items c.loop-next.next
    c.in-Some.is c.loop-next.invariant

pub row_of-requires-clause-drawn : goal.row_of-requires-clause-drawn
row_of-requires-clause-drawn c =
    unwinding_within c.args.heap.now c.args.xact c.in-Some.number c.args.newest.now.items c.loop-next.newest.items c.loop-next.next
    c.in-Some.is c.loop-next.invariant

pub predecessor-requires-clause-drawn : goal.predecessor-requires-clause-drawn
predecessor-requires-clause-drawn c =
    unwinding_within c.args.heap.now c.args.xact c.in-Some.number c.args.newest.now.items c.loop-next.newest.items c.loop-next.next
    c.in-Some.is c.loop-next.invariant

pub loop-next-smaller-then-stands : goal.loop-next-smaller-then-stands
loop-next-smaller-then-stands c =
    unwound_less c.args.heap.now c.args.xact c.in-Some.number c.args.newest.now.items c.loop-next.newest.items c.loop-next.next
    c.written_before-next.result c.state.result c.in-Some.is c.loop-next.invariant c.written_before-next.ensures c.state.ensures

pub loop-next-preserved-then-stands : goal.loop-next-preserved-then-stands
loop-next-preserved-then-stands c =
    unwound_settled c.args.heap.now c.args.xact c.in-Some.number c.args.newest.now.items c.loop-next.newest.items c.loop-next.next
    c.written_before-next.result c.state.result c.in-Some.is c.loop-next.invariant c.written_before-next.ensures c.state.ensures
    c.row_of.result c.predecessor.result c.requires.chained c.requires.behind c.row_of.ensures c.predecessor.ensures (settled_state c.state.result (sym c.stands.ensures ∙ c.if-stands.true))

pub loop-next-smaller : goal.loop-next-smaller
loop-next-smaller c =
    unwound_less c.args.heap.now c.args.xact c.in-Some.number c.args.newest.now.items c.loop-next.newest.items c.loop-next.next
    c.written_before-next.result c.state.result c.in-Some.is c.loop-next.invariant c.written_before-next.ensures c.state.ensures

pub loop-next-preserved : goal.loop-next-preserved
loop-next-preserved c =
    unwound_unsettled c.args.heap.now c.args.xact c.in-Some.number c.args.newest.now.items c.loop-next.newest.items c.loop-next.next
    c.written_before-next.result c.state.result c.in-Some.is c.loop-next.invariant c.written_before-next.ensures c.state.ensures
    (λ settled. cc (c.stands.ensures, c.if-stands.false, ap is_settled settled))

pub returns : goal.returns
returns c =
    (subst (λ next. IsUnwinding c.args.heap.now c.args.xact c.args.newest.now.items c.loop-next.newest.items next) c.in_default.is c.loop-next.invariant).unwound
