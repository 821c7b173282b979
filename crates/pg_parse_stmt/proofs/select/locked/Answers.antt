use Rattle.std.proofs.Common.{arith}
use Rattle.pg_parse_stmt.proofs.Common.{steps, comes_passed}
use Rattle.pg_parse_stmt.proofs.select.locked.Goals as goal
use Rattle.pg_parse_stmt.proofs.PartRules.{locked_read}

pub returns-in_err-strength : goal.returns-in_err-strength
returns-in_err-strength c =
    locked_read (comes_passed c.in_err-strength.field-0.0 (grind (arith, c.from_residual.ensures))
    (search (steps, c.in_err-strength.ensures)))

pub returns-in_err-table : goal.returns-in_err-table
returns-in_err-table c =
    locked_read (comes_passed c.in_err-table.field-0.0 (grind (arith, c.from_residual-in_err-table.ensures))
    (search (steps, c.in_ok-strength.ensures, c.in_err-table.ensures)))

pub returns-in_err-wait : goal.returns-in_err-wait
returns-in_err-wait c =
    locked_read (comes_passed c.in_err-wait.field-0.0 (grind (arith, c.from_residual-in_err-wait.ensures))
    (search (steps, c.in_ok-strength.ensures, c.in_ok-table.ensures, c.in_err-wait.ensures) depth 10))

pub returns : goal.returns
returns c =
    locked_read (search (steps, c.in_ok-strength.ensures, c.in_ok-table.ensures, c.in_ok-wait.ensures) depth 12)
