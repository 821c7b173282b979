use Rattle.std.proofs.Common.{arith}
use Rattle.pg_parse_stmt.proofs.Common.{steps, comes_passed}
use Rattle.pg_parse_stmt.proofs.create.create_table.Goals as goal
use Rattle.pg_parse_stmt.proofs.StatementRules.{create_table_read}

pub returns-in_default : goal.returns-in_default
returns-in_default c =
    create_table_read (search (steps, c.in_default.ensures))

pub returns-in_err-name : goal.returns-in_err-name
returns-in_err-name c =
    create_table_read (comes_passed c.in_err-name.field-0.0 (grind (arith, c.from_residual.ensures))
    (search (steps, c.in-Some.ensures, c.in_err-name.ensures)))

pub returns-in_err-parts : goal.returns-in_err-parts
returns-in_err-parts c =
    create_table_read (comes_passed c.in_err-parts.field-0.0 (grind (arith, c.from_residual-in_err-parts.ensures))
    (search (steps, c.in-Some.ensures, c.in_ok-name.ensures, c.in_err-parts.ensures) depth 10))

pub returns : goal.returns
returns c =
    create_table_read (search (steps, c.in-Some.ensures, c.in_ok-name.ensures, c.in_ok-parts.ensures) depth 12)
