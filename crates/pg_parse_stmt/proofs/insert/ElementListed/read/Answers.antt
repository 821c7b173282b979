use Rattle.pg_parse_stmt.proofs.insert.ElementListed.read.Goals as goal
use Rattle.pg_parse_stmt.proofs.Elements.{element_expr, element_no_expr}

pub returns-in-Ok : goal.returns-in-Ok
returns-in-Ok c =
    element_expr c.args.tokens.now c.in-Some.field-0.now c.in-Ok.field-0.rest.now c.in-Ok.field-0.value
    c.in-Some.ensures c.in-Ok.ensures

pub returns-in-Err : goal.returns-in-Err
returns-in-Err c =
    element_no_expr c.args.tokens.now c.in-Some.field-0.now c.in-Err.fault c.in-Some.ensures c.in-Err.ensures
