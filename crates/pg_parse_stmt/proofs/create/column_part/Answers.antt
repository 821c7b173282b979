use Rattle.std.proofs.Common.{arith}
use Rattle.pg_parse_stmt.proofs.Common.{steps, comes_passed}
use Rattle.pg_parse_stmt.proofs.create.column_part.Goals as goal
use Rattle.pg_parse_stmt.proofs.PartRules.{column_part_read}

pub returns-in_err-name : goal.returns-in_err-name
returns-in_err-name c =
    column_part_read (comes_passed c.in_err-name.field-0.0 (grind (arith, c.from_residual.ensures))
    (search (steps, c.in_err-name.ensures)))

pub returns-in_err-kind : goal.returns-in_err-kind
returns-in_err-kind c =
    column_part_read (comes_passed c.in_err-kind.field-0.0 (grind (arith, c.from_residual-in_err-kind.ensures))
    (search (steps, c.in_ok-name.ensures, c.in_err-kind.ensures)))

pub returns-in_err-rules : goal.returns-in_err-rules
returns-in_err-rules c =
    column_part_read (comes_passed c.in_err-rules.field-0.0 (grind (arith, c.from_residual-in_err-rules.ensures))
    (search (steps, c.in_ok-name.ensures, c.in_ok-kind.ensures, c.in_err-rules.ensures) depth 10))

pub returns : goal.returns
returns c =
    column_part_read (search (steps, c.in_ok-name.ensures, c.in_ok-kind.ensures, c.in_ok-rules.ensures) depth 12)
