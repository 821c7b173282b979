use Rattle.pg_parse_stmt.proofs.select.all_of.Goals as goal
use Rattle.pg_parse_stmt.proofs.Stars.{item_no_name}

pub returns-in-Err : goal.returns-in-Err
returns-in-Err c = item_no_name c.args.tokens.now c.args.rest.now c.in-Err.fault c.requires c.in-Err.ensures
