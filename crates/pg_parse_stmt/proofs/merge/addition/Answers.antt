use Rattle.pg_parse_stmt.proofs.Common.{seen}
use Rattle.pg_parse_stmt.proofs.merge.addition.Goals as goal
use Rattle.pg_parse_stmt.proofs.Changes.{addition_left}

pub returns-in-Some : goal.returns-in-Some
returns-in-Some c =
    addition_left c.args.tokens.now c.in-Some.field-0.now (seen c.addition_insert.result) c.in-Some.ensures
    c.addition_insert.ensures
