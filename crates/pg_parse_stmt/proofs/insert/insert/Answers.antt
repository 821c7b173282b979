use Rattle.std.proofs.Common.{arith}
use Rattle.pg_parse_stmt.proofs.Common.{steps, comes_passed}
use Rattle.pg_parse_stmt.proofs.insert.insert.Goals as goal
use Rattle.pg_parse_stmt.proofs.InsertRules.{insert_read}

pub returns-in_default : goal.returns-in_default
returns-in_default c =
    insert_read (search (steps, c.in_default.ensures))

pub returns-in_err-table : goal.returns-in_err-table
returns-in_err-table c =
    insert_read (comes_passed c.in_err-table.field-0.0 (grind (arith, c.from_residual.ensures))
    (search (steps, c.in-Some.ensures, c.in_err-table.ensures)))

pub returns-in_err-alias : goal.returns-in_err-alias
returns-in_err-alias c =
    insert_read (comes_passed c.in_err-alias.field-0.0 (grind (arith, c.from_residual-in_err-alias.ensures))
    (search (steps, c.in-Some.ensures, c.in_ok-table.ensures, c.in_err-alias.ensures) depth 10))

pub returns-in_err-columns : goal.returns-in_err-columns
returns-in_err-columns c =
    insert_read (comes_passed c.in_err-columns.field-0.0 (grind (arith, c.from_residual-in_err-columns.ensures))
    (search (steps, c.in-Some.ensures, c.in_ok-table.ensures, c.in_ok-alias.ensures, c.in_err-columns.ensures) depth 12))

pub returns-in_err-rows : goal.returns-in_err-rows
returns-in_err-rows c =
    insert_read (comes_passed c.in_err-rows.field-0.0 (grind (arith, c.from_residual-in_err-rows.ensures))
    (search (
      steps,
      c.in-Some.ensures,
      c.in_ok-table.ensures,
      c.in_ok-alias.ensures,
      c.in_ok-columns.ensures,
      c.in_err-rows.ensures,
    ) depth 14))

pub returns-in_err-conflict : goal.returns-in_err-conflict
returns-in_err-conflict c =
    insert_read (comes_passed c.in_err-conflict.field-0.0 (grind (arith, c.from_residual-in_err-conflict.ensures))
    (search (
      steps,
      c.in-Some.ensures,
      c.in_ok-table.ensures,
      c.in_ok-alias.ensures,
      c.in_ok-columns.ensures,
      c.in_ok-rows.ensures,
      c.in_err-conflict.ensures,
    ) depth 16))

pub returns-in_err-returning : goal.returns-in_err-returning
returns-in_err-returning c =
    insert_read (comes_passed c.in_err-returning.field-0.0 (grind (arith, c.from_residual-in_err-returning.ensures))
    (search (
      steps,
      c.in-Some.ensures,
      c.in_ok-table.ensures,
      c.in_ok-alias.ensures,
      c.in_ok-columns.ensures,
      c.in_ok-rows.ensures,
      c.in_ok-conflict.ensures,
      c.in_err-returning.ensures,
    ) depth 18))

pub returns : goal.returns
returns c =
    insert_read (search (
      steps,
      c.in-Some.ensures,
      c.in_ok-table.ensures,
      c.in_ok-alias.ensures,
      c.in_ok-columns.ensures,
      c.in_ok-rows.ensures,
      c.in_ok-conflict.ensures,
      c.in_ok-returning.ensures,
    ) depth 20)
