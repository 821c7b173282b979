-- A fault of the rows, behind columns and counts without one.
use Rattle.pg_analyse.proofs.Inserting.{insert_stops}
use Rattle.pg_analyse.proofs.inserts.insert_into.Goals as goal

pub returns-in_err-rows-clause-err : goal.returns-in_err-rows-clause-err
returns-in_err-rows-clause-err c =
    insert_stops c.args.insert.now c.args.target.shape.columns _ c.from_residual-in_err-rows.result
    (rw (c.deref.ensures, c.as_slice-names.ensures) at c.in_ok-columns.ensures.ok)
    (rw (c.deref-2.ensures, c.as_slice-names.ensures, c.tuples_of-tuples.ensures) at c.in_ok-check_counts.ensures.ok)
    (rw (c.deref-3.ensures, c.as_slice.ensures, c.in_ok-columns.ensures.numbers, c.deref.ensures, c.as_slice-names.ensures, c.tuples_of-tuples.ensures) at c.in_err-rows.ensures.err)
    c.from_residual-in_err-rows.ensures.1
