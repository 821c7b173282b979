-- A fault of the expressions, behind relations without one.
use Rattle.pg_analyse.proofs.Relating.{parts_stop}
use Rattle.pg_analyse.proofs.queries.analyse_select.Goals as goal

pub returns-in_err-items-clause-err : goal.returns-in_err-items-clause-err
returns-in_err-items-clause-err c =
    parts_stop c.args.catalogue.now c.args.select.now _ _ c.from_residual-in_err-items.result
    c.in_ok-scope.ensures.scope c.in_ok-scope.ensures.ok c.in_err-items.ensures.err c.from_residual-in_err-items.ensures.1
