use Rattle.std.proofs.Common.{arith}
use Rattle.pg_parse_stmt.proofs.Common.{steps, comes_passed}
use Rattle.pg_parse_stmt.proofs.select.OrderKeyListed.read.Goals as goal
use Rattle.pg_parse_stmt.proofs.PartRules.{order_key_read}

pub returns-in_err-expr : goal.returns-in_err-expr
returns-in_err-expr c =
    order_key_read (comes_passed c.in_err-expr.field-0.0 (grind (arith, c.from_residual.ensures))
    (search (steps, c.in_err-expr.ensures)))

pub returns-in_err-nulls : goal.returns-in_err-nulls
returns-in_err-nulls c =
    order_key_read (comes_passed c.in_err-nulls.field-0.0 (grind (arith, c.from_residual-in_err-nulls.ensures))
    (search (steps, c.in_ok-expr.ensures, c.direction-direction.ensures, c.in_err-nulls.ensures) depth 10))

pub returns : goal.returns
returns c =
    order_key_read (search (steps, c.in_ok-expr.ensures, c.direction-direction.ensures, c.in_ok-nulls.ensures) depth 12)
