use Rattle.std.proofs.Common.{arith}
use Rattle.pg_parse_stmt.proofs.Common.{steps, comes_passed, items, behind_items}
use Rattle.pg_parse_stmt.proofs.source.subselect.Goals as goal
use Rattle.pg_parse_stmt.proofs.SourceRules.{subselect_read}

pub returns-in_err-items-clause-reads : goal.returns-in_err-items-clause-reads
unfolding items behind_items
returns-in_err-items-clause-reads c =
    subselect_read _ (comes_passed c.in_err-items.field-0.0 (grind (arith, c.from_residual.ensures))
    (search (steps, c.in_err-items.ensures)))

pub returns-in_default-clause-reads : goal.returns-in_default-clause-reads
unfolding items behind_items
returns-in_default-clause-reads c =
    subselect_read _ (search (steps, c.in_ok-items.ensures, c.in_default.ensures))

pub returns-in_err-from-clause-reads : goal.returns-in_err-from-clause-reads
unfolding items behind_items
returns-in_err-from-clause-reads c =
    subselect_read _ (comes_passed c.in_err-from.field-0.0 (grind (arith, c.from_residual-in_err-from.ensures))
    (search (steps, c.in_ok-items.ensures, c.in-Some.ensures, c.in_err-from.ensures.reads) depth 10))

pub returns-in_err-condition-clause-reads : goal.returns-in_err-condition-clause-reads
unfolding items behind_items
returns-in_err-condition-clause-reads c =
    subselect_read _ (comes_passed c.in_err-condition.field-0.0 (grind (arith, c.from_residual-in_err-condition.ensures))
    (search (
      steps,
      c.in_ok-items.ensures,
      c.in-Some.ensures,
      c.in_ok-from.ensures.reads,
      c.in_err-condition.ensures,
    ) depth 12))

pub returns-clause-reads : goal.returns-clause-reads
unfolding items behind_items
returns-clause-reads c =
    subselect_read _ (search (
      steps,
      c.in_ok-items.ensures,
      c.in-Some.ensures,
      c.in_ok-from.ensures.reads,
      c.in_ok-condition.ensures,
    ) depth 14)
