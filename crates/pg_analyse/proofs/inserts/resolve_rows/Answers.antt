-- A value may not be stored, and no expression has an error.
use Rattle.pg_analyse.proofs.Storing.{rows_stop}
use Rattle.pg_analyse.proofs.inserts.resolve_rows.Goals as goal

pub returns-then-not-fits-clause-err : goal.returns-then-not-fits-clause-err
returns-then-not-fits-clause-err c =
    rows_stop c.args.columns.now c.args.numbers.now c.args.tuples.now c.loop-tuple.tuple-index c.loop-tuple.fits
    c.loop-tuple-test.false c.loop-tuple.invariant.1 c.loop-tuple.invariant.2 c.if-not-fits.true
