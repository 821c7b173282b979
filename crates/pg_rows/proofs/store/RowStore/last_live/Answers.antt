use Rattle.std.proofs.Common.{[], ap, subst, sym, ◌∙◌}
use Rattle.pg_heap.specs.Current.{is_live}
use Rattle.pg_rows.specs.Stores.{last_accepted}
use Rattle.pg_rows.proofs.Reading.{IsReading, reading_first, reading_found, reading_here, reading_less, reading_more, reading_none, reading_within}
use Rattle.pg_rows.proofs.store.RowStore.last_live.Goals as goal

pub loop-next-init : goal.loop-next-init
loop-next-init c =
    reading_first (is_live c.args.xacts.now []) c.args.self.now.versions c.args.row c.newest-next.result c.newest-next.ensures

pub fetch-requires-clause-first : goal.fetch-requires-clause-first
fetch-requires-clause-first c =
    let reading = reading_here (is_live c.args.xacts.now []) c.self.inside.heap c.args.self.now.versions c.args.row
    c.loop-next.next c.in-Some.number (ap (λ store. store.versions) c.self.view_is) c.in-Some.is c.loop-next.invariant in
    (reading_within c.self.inside.heap c.args.row c.in-Some.number reading.mine).0

pub fetch-requires-clause-drawn : goal.fetch-requires-clause-drawn
fetch-requires-clause-drawn c =
    let reading = reading_here (is_live c.args.xacts.now []) c.self.inside.heap c.args.self.now.versions c.args.row
    c.loop-next.next c.in-Some.number (ap (λ store. store.versions) c.self.view_is) c.in-Some.is c.loop-next.invariant in
    (reading_within c.self.inside.heap c.args.row c.in-Some.number reading.mine).1

pub returns-then-is_live : goal.returns-then-is_live
returns-then-is_live c =
    let reading = reading_here (is_live c.args.xacts.now []) c.self.inside.heap c.args.self.now.versions c.args.row
    c.loop-next.next c.in-Some.number (ap (λ store. store.versions) c.self.view_is) c.in-Some.is c.loop-next.invariant in
    sym
    (ap (λ store. last_accepted (is_live c.args.xacts.now []) store.versions c.args.row) (sym c.self.view_is)
    ∙ reading_found (is_live c.args.xacts.now []) c.self.inside.heap c.args.row c.in-Some.number c.fetch.result.now reading c.fetch.ensures
    (sym c.is_live.ensures ∙ c.if-is_live.true))

pub predecessor-next-requires-clause-drawn : goal.predecessor-next-requires-clause-drawn
predecessor-next-requires-clause-drawn c =
    let reading = reading_here (is_live c.args.xacts.now []) c.self.inside.heap c.args.self.now.versions c.args.row
    c.loop-next.next c.in-Some.number (ap (λ store. store.versions) c.self.view_is) c.in-Some.is c.loop-next.invariant in
    (reading_within c.self.inside.heap c.args.row c.in-Some.number reading.mine).1

pub loop-next-smaller : goal.loop-next-smaller
loop-next-smaller c =
    let reading = reading_here (is_live c.args.xacts.now []) c.self.inside.heap c.args.self.now.versions c.args.row
    c.loop-next.next c.in-Some.number (ap (λ store. store.versions) c.self.view_is) c.in-Some.is c.loop-next.invariant in
    rw c.in-Some.is
    (reading_less c.self.inside.heap c.self.inside.newest.items c.args.row c.in-Some.number c.predecessor-next.result
    c.self.invariant reading.mine c.predecessor-next.ensures)

pub loop-next-preserved : goal.loop-next-preserved
loop-next-preserved c =
    let reading = reading_here (is_live c.args.xacts.now []) c.self.inside.heap c.args.self.now.versions c.args.row
    c.loop-next.next c.in-Some.number (ap (λ store. store.versions) c.self.view_is) c.in-Some.is c.loop-next.invariant in
    subst (λ store. IsReading (is_live c.args.xacts.now []) store.versions c.args.row c.predecessor-next.result) c.self.view_is
    (reading_more (is_live c.args.xacts.now []) c.self.inside.heap c.self.inside.newest.items c.args.row c.in-Some.number c.fetch.result.now
    c.predecessor-next.result c.self.invariant reading c.fetch.ensures (sym c.is_live.ensures ∙ c.if-is_live.false)
    c.predecessor-next.ensures)

pub returns : goal.returns
returns c =
    sym (reading_none (is_live c.args.xacts.now []) c.args.self.now.versions c.args.row
    (subst (λ next. IsReading (is_live c.args.xacts.now []) c.args.self.now.versions c.args.row next) c.in_default.is c.loop-next.invariant))
