use Rattle.std.proofs.Common.{rules}
use Rattle.pg_parse_stmt.proofs.Common.{seen}
use Rattle.pg_parse_stmt.proofs.select.ItemListed.read.Goals as goal
use Rattle.pg_parse_stmt.proofs.Items.{item_expr}

pub returns-in-None : goal.returns-in-None
returns-in-None c =
    item_expr c.args.tokens.now (seen c.named_expr-in-None.result) (search rules) c.in-None.ensures
    c.named_expr-in-None.ensures
