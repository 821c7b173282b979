use Rattle.pg_parse_stmt.proofs.Common.{seen}
use Rattle.pg_parse_stmt.proofs.select.order.Goals as goal
use Rattle.pg_parse_stmt.proofs.Orders.{order_read}

pub returns-in-Some-accept_word : goal.returns-in-Some-accept_word
returns-in-Some-accept_word c =
    order_read c.args.tokens.now c.in-Some.rest.now c.in-Some-accept_word.rest.now (seen c.list.result)
    c.in-Some.ensures c.in-Some-accept_word.ensures c.list.ensures
