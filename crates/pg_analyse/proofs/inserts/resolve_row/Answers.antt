-- One value more was resolved.
use Rattle.pg_analyse.proofs.Storing.{values_more}
use Rattle.pg_analyse.proofs.inserts.resolve_row.Goals as goal

pub loop-tree-preserved : goal.loop-tree-preserved
loop-tree-preserved c =
    values_more c.args.columns.now c.args.numbers.now c.args.row.now c.loop-tree.at c.loop-tree.tree-index
    c.tree-item.result c.loop-tree.exprs c.push.new.self c.in_ok-expr.expr c.in_ok-expr.kind c.loop-tree.fits
    c.fits_column-fit.result c.both-fits.result c.loop-tree-test.true c.tree-item.is c.loop-tree.invariant
    c.in_ok-expr.ensures.expr c.in_ok-expr.ensures.kind c.in_ok-expr.ensures.ok c.fits_column-fit.ensures
    c.in_ok-push.ensures.ok c.both-fits.ensures
