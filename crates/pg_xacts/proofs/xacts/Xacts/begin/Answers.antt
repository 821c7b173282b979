use Rattle.std.proofs.Common.{ap, arith, length}
use Rattle.pg_xacts.proofs.Kept.{kept_begun}
use Rattle.pg_xacts.proofs.xacts.Xacts.begin.Goals as goal

pub invariant_of-self-2 : goal.invariant_of-self-2
invariant_of-self-2 c =
    let count = ap (λ transactions. length transactions.list) c.self.view_is in
    rw (c.push_reserved.ensures.items, c.push_reserved-2.ensures.items, c.in_ok-reserve.ensures.items, c.in_ok-reserve-2.ensures.items)
    (kept_begun (record { list = c.self.inside.list.items; commits = c.self.inside.commits }) c.self.inside.running.items
    c.args.session _ c.self.invariant (omega (arith, count, c.requires)) (omega (arith, c.len.ensures)))
