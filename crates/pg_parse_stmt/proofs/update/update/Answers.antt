use Rattle.std.proofs.Common.{arith}
use Rattle.pg_parse_stmt.proofs.Common.{steps, comes_passed, sets, behind_sets}
use Rattle.pg_parse_stmt.proofs.update.update.Goals as goal
use Rattle.pg_parse_stmt.proofs.StatementRules.{update_read}

pub returns-in_err-target : goal.returns-in_err-target
unfolding sets behind_sets
returns-in_err-target c =
    update_read (comes_passed c.in_err-target.field-0.0 (grind (arith, c.from_residual.ensures))
    (search (steps, c.in_err-target.ensures)))

pub returns-in_default : goal.returns-in_default
unfolding sets behind_sets
returns-in_default c =
    update_read (search (steps, c.in_ok-target.ensures, c.in_default.ensures))

pub returns-in_err-sets : goal.returns-in_err-sets
unfolding sets behind_sets
returns-in_err-sets c =
    update_read (comes_passed c.in_err-sets.field-0.0 (grind (arith, c.from_residual-in_err-sets.ensures))
    (search (steps, c.in_ok-target.ensures, c.in-Some.ensures, c.in_err-sets.ensures) depth 10))

pub returns-in_err-from : goal.returns-in_err-from
unfolding sets behind_sets
returns-in_err-from c =
    update_read (comes_passed c.in_err-from.field-0.0 (grind (arith, c.from_residual-in_err-from.ensures))
    (search (steps, c.in_ok-target.ensures, c.in-Some.ensures, c.in_ok-sets.ensures, c.in_err-from.ensures) depth 12))

pub returns-in_err-condition : goal.returns-in_err-condition
unfolding sets behind_sets
returns-in_err-condition c =
    update_read (comes_passed c.in_err-condition.field-0.0 (grind (arith, c.from_residual-in_err-condition.ensures))
    (search (
      steps,
      c.in_ok-target.ensures,
      c.in-Some.ensures,
      c.in_ok-sets.ensures,
      c.in_ok-from.ensures,
      c.in_err-condition.ensures,
    ) depth 14))

pub returns-in_err-returning : goal.returns-in_err-returning
unfolding sets behind_sets
returns-in_err-returning c =
    update_read (comes_passed c.in_err-returning.field-0.0 (grind (arith, c.from_residual-in_err-returning.ensures))
    (search (
      steps,
      c.in_ok-target.ensures,
      c.in-Some.ensures,
      c.in_ok-sets.ensures,
      c.in_ok-from.ensures,
      c.in_ok-condition.ensures,
      c.in_err-returning.ensures,
    ) depth 16))

pub returns : goal.returns
unfolding sets behind_sets
returns c =
    update_read (search (
      steps,
      c.in_ok-target.ensures,
      c.in-Some.ensures,
      c.in_ok-sets.ensures,
      c.in_ok-from.ensures,
      c.in_ok-condition.ensures,
      c.in_ok-returning.ensures,
    ) depth 18)
