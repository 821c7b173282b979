use Rattle.std.proofs.Common.{rules}
use Rattle.pg_parse_stmt.proofs.select.behind_dot.Goals as goal
use Rattle.pg_parse_stmt.proofs.Items.{dotted_no_dot, dotted_no_name}

pub returns-in-None-accept_sign : goal.returns-in-None-accept_sign
returns-in-None-accept_sign c =
    dotted_no_dot c.args.tokens.now c.in-Some.rest.now c.in-Some.field-0-0.now (search rules) (search rules)
    c.in-None-accept_sign.ensures

pub returns-else-begins_name : goal.returns-else-begins_name
returns-else-begins_name c = dotted_no_name c.args.tokens.now (search rules)
