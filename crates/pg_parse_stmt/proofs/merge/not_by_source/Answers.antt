use Rattle.std.proofs.Common.{arith}
use Rattle.pg_parse_stmt.proofs.Common.{steps, comes_passed}
use Rattle.pg_parse_stmt.proofs.merge.not_by_source.Goals as goal
use Rattle.pg_parse_stmt.proofs.PartRules.{then_read}
use Rattle.pg_parse_stmt.proofs.Changes.{spelled_the_change}

pub returns-in_err-condition : goal.returns-in_err-condition
returns-in_err-condition c =
    then_read spelled_the_change (comes_passed c.in_err-condition.field-0.0 (grind (arith, c.from_residual.ensures))
    (search (steps, c.in_err-condition.ensures)))

pub returns-in_default : goal.returns-in_default
returns-in_default c =
    then_read spelled_the_change (search (steps, c.in_ok-condition.ensures, c.in_default.ensures))

pub returns-in_err-value : goal.returns-in_err-value
returns-in_err-value c =
    then_read spelled_the_change (comes_passed c.in_err-value.field-0.0 (grind (arith, c.from_residual-in_err-value.ensures))
    (search (steps, c.in_ok-condition.ensures, c.in-Some.ensures, c.in_err-value.ensures) depth 10))

pub returns : goal.returns
returns c =
    then_read spelled_the_change (search (steps, c.in_ok-condition.ensures, c.in-Some.ensures, c.in_ok-value.ensures) depth 12)
