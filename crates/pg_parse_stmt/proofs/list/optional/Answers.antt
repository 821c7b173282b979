use Rattle.pg_parse_stmt.proofs.list.optional.Goals as goal
use Rattle.pg_parse_stmt.proofs.Steps.{optional_failed}

pub returns-in-Err : goal.returns-in-Err
returns-in-Err g c =
    optional_failed c.args.word g.T.Listed.rule g.T.Listed.follows c.args.tokens.now c.in-Some.rest.now c.in-Err.fault
    c.in-Some.ensures c.in-Err.ensures
