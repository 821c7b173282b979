use Rattle.pg_board.proofs.Loading.{loaded_of}
use Rattle.pg_board.proofs.tables.empty_tables.Goals as goal

pub returns-clause-loaded : goal.returns-clause-loaded
returns-clause-loaded c = loaded_of c.args.catalogue.now c.new.result c.new.ensures
