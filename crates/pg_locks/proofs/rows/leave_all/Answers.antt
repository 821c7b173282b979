use Rattle.std.proofs.Common.{slice_index_or, take}
use Rattle.std.proofs.lemmas.List.{take_more}
use Rattle.pg_locks.proofs.Held.{left_more}
use Rattle.pg_locks.proofs.rows.leave_all.Goals as goal

pub loop-row-preserved : goal.loop-row-preserved
loop-row-preserved c =
    λ row.
    rw (c.leave.ensures, take_more c.args.held.now c.loop-row.row-index 0 c.loop-row-test.true)
    (left_more c.args.rows.now.items c.loop-row.rows.items (take c.loop-row.row-index c.args.held.now) c.args.xact
    (slice_index_or c.args.held.now c.loop-row.row-index 0) c.loop-row.invariant row)
