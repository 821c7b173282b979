use Rattle.std.proofs.Common.{length}
use Rattle.pg_rows.proofs.Shown.{number_drawn, scan_more}
use Rattle.pg_rows.proofs.store.RowStore.seen_among.Goals as goal

pub loop-offset-preserved : goal.loop-offset-preserved
loop-offset-preserved c =
    scan_more c.args.xacts.now c.args.snapshot.now.commits c.args.me.now c.args.self.now.versions c.args.piece.first c.loop-offset.offset
    c.min-number.result c.loop-offset.seen c.keep.new.seen c.in_ok-found.found c.loop-offset.invariant
    (number_drawn c.args.piece.first c.loop-offset.offset c.from.result c.saturating_add.result c.versions_drawn-last.result
    (length c.args.self.now.versions) c.min-number.result c.min-number.ensures c.saturating_add.ensures c.from.ensures
    c.versions_drawn-last.ensures c.versions_drawn-last.type_inv (c.requires.drawn c.loop-offset.offset c.loop-offset-test.true))
    c.in_ok-found.ensures c.in_ok-keep.ensures
