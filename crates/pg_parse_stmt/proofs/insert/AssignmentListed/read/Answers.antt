use Rattle.std.proofs.Common.{arith}
use Rattle.pg_parse_stmt.proofs.Common.{steps, comes_passed}
use Rattle.pg_parse_stmt.proofs.insert.AssignmentListed.read.Goals as goal
use Rattle.pg_parse_stmt.proofs.PartRules.{assignment_read}

pub returns-in_err-column : goal.returns-in_err-column
returns-in_err-column c =
    assignment_read (comes_passed c.in_err-column.field-0.0 (grind (arith, c.from_residual.ensures))
    (search (steps, c.in_err-column.ensures)))

pub returns-in_default : goal.returns-in_default
returns-in_default c =
    assignment_read (search (steps, c.in_ok-column.ensures, c.in_default.ensures))

pub returns-in_err-value : goal.returns-in_err-value
returns-in_err-value c =
    assignment_read (comes_passed c.in_err-value.field-0.0 (grind (arith, c.from_residual-in_err-value.ensures))
    (search (steps, c.in_ok-column.ensures, c.in-Some.ensures, c.in_err-value.ensures) depth 10))

pub returns : goal.returns
returns c =
    assignment_read (search (steps, c.in_ok-column.ensures, c.in-Some.ensures, c.in_ok-value.ensures) depth 12)
