use Rattle.pg_parse_stmt.proofs.list.list.Goals as goal
use Rattle.pg_parse_stmt.proofs.Lists.{list_begun}

pub loop-behind-init : goal.loop-behind-init
loop-behind-init g c =
    list_begun g.T.Listed.rule g.T.Listed.follows g.met.T.Listed.comma c.args.tokens.now c.in-Ok.first.rest.now
    c.in-Ok.first.value c.new-items.result c.push.new.self c.new-items.ensures c.in_ok-push.ensures.ok c.in-Ok.ensures
