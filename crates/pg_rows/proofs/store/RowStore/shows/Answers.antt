use Rattle.std.proofs.Common.{ap, sym, ◌∙◌}
use Rattle.pg_heap.specs.Seen.{is_seen}
use Rattle.pg_rows.proofs.Shown.{next_within, not_accepted, not_newest, row_within, shown_version}
use Rattle.pg_rows.proofs.store.RowStore.shows.Goals as goal

pub returns-then-not-sees : goal.returns-then-not-sees
returns-then-not-sees c =
    sym
    (not_accepted (is_seen c.args.xacts.now c.args.snapshot.now.commits c.args.me.now) c.args.self.now.versions c.args.row c.args.number
    c.fetch.result.now
    (shown_version c.self.inside.heap c.args.self.now.versions c.args.number c.fetch.result.now (ap (λ store. store.versions) c.self.view_is) c.fetch.ensures)
    (sym c.sees.ensures ∙ c.if-not-sees.true))

pub fetch-requires-in-Some-clause-first : goal.fetch-requires-in-Some-clause-first
fetch-requires-in-Some-clause-first c =
    (next_within c.self.inside.heap c.self.inside.newest.items c.args.self.now.versions c.args.number c.in-Some.next c.args.row c.self.invariant
    (ap (λ store. store.versions) c.self.view_is) c.requires.row (sym c.successor.ensures ∙ c.in-Some.is)).0

pub fetch-requires-in-Some-clause-drawn : goal.fetch-requires-in-Some-clause-drawn
fetch-requires-in-Some-clause-drawn c =
    (next_within c.self.inside.heap c.self.inside.newest.items c.args.self.now.versions c.args.number c.in-Some.next c.args.row c.self.invariant
    (ap (λ store. store.versions) c.self.view_is) c.requires.row (sym c.successor.ensures ∙ c.in-Some.is)).1

pub returns-then-sees : goal.returns-then-sees
returns-then-sees c =
    sym
    (not_newest (is_seen c.args.xacts.now c.args.snapshot.now.commits c.args.me.now) c.self.inside.heap c.self.inside.newest.items
    c.args.self.now.versions c.args.number c.in-Some.next c.args.row c.fetch-in-Some.result.now c.self.invariant
    (ap (λ store. store.versions) c.self.view_is) c.requires.row (sym c.successor.ensures ∙ c.in-Some.is) c.fetch-in-Some.ensures
    (sym c.sees-in-Some.ensures ∙ c.if-sees.true))

pub seen-requires-clause-first : goal.seen-requires-clause-first
seen-requires-clause-first c =
    (row_within c.self.inside.heap c.self.inside.newest.items c.args.self.now.versions c.args.number c.args.row c.self.invariant
    (ap (λ store. store.versions) c.self.view_is) c.requires.row).0

pub seen-requires-clause-drawn : goal.seen-requires-clause-drawn
seen-requires-clause-drawn c =
    rw (← c.self.view_is)
    (row_within c.self.inside.heap c.self.inside.newest.items c.args.self.now.versions c.args.number c.args.row c.self.invariant
    (ap (λ store. store.versions) c.self.view_is) c.requires.row).1
