-- What was found among the numbers so far.
use Rattle.std.proofs.Common.{◌≡◌}
use Rattle.pg_rows.specs.Scans.{seen_among}
use Rattle.pg_rows.proofs.store.RowStore.seen_among.Given as goal

abbrev pub invariant-loop-offset : goal.invariant-loop-offset
invariant-loop-offset l = l.seen ≡ seen_among l.fn.xacts l.fn.snapshot.commits l.fn.me l.fn.self.versions l.fn.piece.first l.offset
