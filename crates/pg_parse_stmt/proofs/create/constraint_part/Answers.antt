use Rattle.std.proofs.Common.{arith}
use Rattle.pg_parse_stmt.proofs.Common.{steps, comes_passed}
use Rattle.pg_parse_stmt.proofs.create.constraint_part.Goals as goal
use Rattle.pg_parse_stmt.proofs.PartRules.{constraint_part_read}

pub returns-in_err-name : goal.returns-in_err-name
returns-in_err-name c =
    constraint_part_read (comes_passed c.in_err-name.field-0.0 (grind (arith, c.from_residual.ensures))
    (search (steps, c.in_err-name.ensures)))

pub returns-in_err-value : goal.returns-in_err-value
returns-in_err-value c =
    constraint_part_read (comes_passed c.in_err-value.field-0.0 (grind (arith, c.from_residual-in_err-value.ensures))
    (search (steps, c.in_ok-name.ensures, c.in_err-value.ensures)))

pub returns : goal.returns
returns c =
    constraint_part_read (search (steps, c.in_ok-name.ensures, c.in_ok-value.ensures) depth 10)
