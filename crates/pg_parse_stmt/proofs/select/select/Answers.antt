use Rattle.std.proofs.Common.{arith}
use Rattle.pg_parse_stmt.proofs.Common.{steps, comes_passed, items, behind_items}
use Rattle.pg_parse_stmt.proofs.select.select.Goals as goal
use Rattle.pg_parse_stmt.proofs.StatementRules.{select_read}

pub returns-in_err-items : goal.returns-in_err-items
unfolding items behind_items
returns-in_err-items c =
    select_read (comes_passed c.in_err-items.field-0.0 (grind (arith, c.from_residual.ensures))
    (search (steps, c.in_err-items.ensures)))

pub returns-in_default : goal.returns-in_default
unfolding items behind_items
returns-in_default c =
    select_read (search (steps, c.in_ok-items.ensures, c.in_default.ensures))

pub returns-in_err-from : goal.returns-in_err-from
unfolding items behind_items
returns-in_err-from c =
    select_read (comes_passed c.in_err-from.field-0.0 (grind (arith, c.from_residual-in_err-from.ensures))
    (search (steps, c.in_ok-items.ensures, c.in-Some.ensures, c.in_err-from.ensures) depth 10))

pub returns-in_err-condition : goal.returns-in_err-condition
unfolding items behind_items
returns-in_err-condition c =
    select_read (comes_passed c.in_err-condition.field-0.0 (grind (arith, c.from_residual-in_err-condition.ensures))
    (search (steps, c.in_ok-items.ensures, c.in-Some.ensures, c.in_ok-from.ensures, c.in_err-condition.ensures) depth 12))

pub returns-in_err-order : goal.returns-in_err-order
unfolding items behind_items
returns-in_err-order c =
    select_read (comes_passed c.in_err-order.field-0.0 (grind (arith, c.from_residual-in_err-order.ensures))
    (search (
      steps,
      c.in_ok-items.ensures,
      c.in-Some.ensures,
      c.in_ok-from.ensures,
      c.in_ok-condition.ensures,
      c.in_err-order.ensures,
    ) depth 14))

pub returns-in_err-limit : goal.returns-in_err-limit
unfolding items behind_items
returns-in_err-limit c =
    select_read (comes_passed c.in_err-limit.field-0.0 (grind (arith, c.from_residual-in_err-limit.ensures))
    (search (
      steps,
      c.in_ok-items.ensures,
      c.in-Some.ensures,
      c.in_ok-from.ensures,
      c.in_ok-condition.ensures,
      c.in_ok-order.ensures,
      c.in_err-limit.ensures,
    ) depth 16))

pub returns-in_err-locking : goal.returns-in_err-locking
unfolding items behind_items
returns-in_err-locking c =
    select_read (comes_passed c.in_err-locking.field-0.0 (grind (arith, c.from_residual-in_err-locking.ensures))
    (search (
      steps,
      c.in_ok-items.ensures,
      c.in-Some.ensures,
      c.in_ok-from.ensures,
      c.in_ok-condition.ensures,
      c.in_ok-order.ensures,
      c.in_ok-limit.ensures,
      c.in_err-locking.ensures,
    ) depth 18))

pub returns : goal.returns
unfolding items behind_items
returns c =
    select_read (search (
      steps,
      c.in_ok-items.ensures,
      c.in-Some.ensures,
      c.in_ok-from.ensures,
      c.in_ok-condition.ensures,
      c.in_ok-order.ensures,
      c.in_ok-limit.ensures,
      c.in_ok-locking.ensures,
    ) depth 20)
