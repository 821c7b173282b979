use Rattle.std.proofs.Common.{arith}
use Rattle.pg_parse_stmt.proofs.Common.{steps, comes_passed}
use Rattle.pg_parse_stmt.proofs.select.named_expr.Goals as goal
use Rattle.pg_parse_stmt.proofs.PartRules.{named_expr_read}

pub returns-in_err-expr : goal.returns-in_err-expr
returns-in_err-expr c =
    named_expr_read (comes_passed c.in_err-expr.field-0.0 (grind (arith, c.from_residual.ensures))
    (search (steps, c.in_err-expr.ensures)))

pub returns-in_err-name : goal.returns-in_err-name
returns-in_err-name c =
    named_expr_read (comes_passed c.in_err-name.field-0.0 (grind (arith, c.from_residual-in_err-name.ensures))
    (search (steps, c.in_ok-expr.ensures, c.in_err-name.ensures)))

pub returns : goal.returns
returns c =
    named_expr_read (search (steps, c.in_ok-expr.ensures, c.in_ok-name.ensures) depth 10)
