use Rattle.pg_relation.specs.Setup.{setup_me}
use Rattle.pg_table.proofs.Added.{added_shown}
use Rattle.pg_board.proofs.Loading.{added_loaded}
use Rattle.pg_board.proofs.tables.add_row.Goals as goal

pub returns-clause-shown : goal.returns-clause-shown
returns-clause-shown c =
    rw (c.in_ok-add.ensures.ok, c.setup_writer.ensures) (added_shown c.args.table.now setup_me c.args.values c.add.ensures.kept)

pub returns-clause-loaded : goal.returns-clause-loaded
returns-clause-loaded c = λ loaded.
    rw c.in_ok-add.ensures.ok (added_loaded c.args.table.now c.setup_writer.result c.args.values loaded)
