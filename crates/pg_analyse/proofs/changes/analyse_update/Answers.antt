-- A fault of an UPDATE of a table that exists.
use Rattle.pg_analyse.proofs.Changing.{update_answers}
use Rattle.pg_analyse.proofs.changes.analyse_update.Goals as goal

pub returns-clause-err : goal.returns-clause-err
returns-clause-err c =
    update_answers c.args.catalogue.now c.args.update.now c.in_ok-target.target c.update_of.result
    c.in_ok-target.ensures.table c.update_of.ensures.err
