use Rattle.std.proofs.Common.{arith}
use Rattle.pg_parse_stmt.proofs.Common.{steps, comes_passed}
use Rattle.pg_parse_stmt.proofs.update.delete.Goals as goal
use Rattle.pg_parse_stmt.proofs.StatementRules.{delete_read}

pub returns-in_default : goal.returns-in_default
returns-in_default c =
    delete_read (search (steps, c.in_default.ensures))

pub returns-in_err-target : goal.returns-in_err-target
returns-in_err-target c =
    delete_read (comes_passed c.in_err-target.field-0.0 (grind (arith, c.from_residual.ensures))
    (search (steps, c.in-Some.ensures, c.in_err-target.ensures)))

pub returns-in_err-using : goal.returns-in_err-using
returns-in_err-using c =
    delete_read (comes_passed c.in_err-using.field-0.0 (grind (arith, c.from_residual-in_err-using.ensures))
    (search (steps, c.in-Some.ensures, c.in_ok-target.ensures, c.in_err-using.ensures) depth 10))

pub returns-in_err-condition : goal.returns-in_err-condition
returns-in_err-condition c =
    delete_read (comes_passed c.in_err-condition.field-0.0 (grind (arith, c.from_residual-in_err-condition.ensures))
    (search (steps, c.in-Some.ensures, c.in_ok-target.ensures, c.in_ok-using.ensures, c.in_err-condition.ensures) depth 12))

pub returns-in_err-returning : goal.returns-in_err-returning
returns-in_err-returning c =
    delete_read (comes_passed c.in_err-returning.field-0.0 (grind (arith, c.from_residual-in_err-returning.ensures))
    (search (
      steps,
      c.in-Some.ensures,
      c.in_ok-target.ensures,
      c.in_ok-using.ensures,
      c.in_ok-condition.ensures,
      c.in_err-returning.ensures,
    ) depth 14))

pub returns : goal.returns
returns c =
    delete_read (search (
      steps,
      c.in-Some.ensures,
      c.in_ok-target.ensures,
      c.in_ok-using.ensures,
      c.in_ok-condition.ensures,
      c.in_ok-returning.ensures,
    ) depth 16)
