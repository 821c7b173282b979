use Rattle.std.proofs.Common.{ap, sym, ◌∙◌}
use Rattle.pg_rows.proofs.Shown.{nothing_seen, shown_row, shown_version, something_seen}
use Rattle.pg_rows.proofs.store.RowStore.seen_at.Goals as goal

pub returns-then-not-shows : goal.returns-then-not-shows
returns-then-not-shows c =
    sym
    (nothing_seen c.args.xacts.now c.args.snapshot.now.commits c.args.me.now c.args.self.now.versions c.args.number c.row_of-row.result
    (shown_row c.self.inside.heap c.args.self.now.versions c.args.number c.row_of-row.result (ap (λ store. store.versions) c.self.view_is) c.row_of-row.ensures)
    (sym c.shows.ensures ∙ c.if-not-shows.true))

pub returns : goal.returns
returns c =
    rw (c.in_ok-version.ensures)
    (sym
    (something_seen c.args.xacts.now c.args.snapshot.now.commits c.args.me.now c.args.self.now.versions c.args.number c.row_of-row.result
    (shown_row c.self.inside.heap c.args.self.now.versions c.args.number c.row_of-row.result (ap (λ store. store.versions) c.self.view_is) c.row_of-row.ensures)
    c.fetch.result.now
    (shown_version c.self.inside.heap c.args.self.now.versions c.args.number c.fetch.result.now (ap (λ store. store.versions) c.self.view_is) c.fetch.ensures)
    (sym c.shows.ensures ∙ c.if-not-shows.false)))
