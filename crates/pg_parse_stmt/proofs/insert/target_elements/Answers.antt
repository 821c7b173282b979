use Rattle.std.proofs.Common.{arith}
use Rattle.pg_parse_stmt.proofs.Common.{steps, comes_passed, elements}
use Rattle.pg_parse_stmt.proofs.insert.target_elements.Goals as goal
use Rattle.pg_parse_stmt.proofs.PartRules.{target_elements_read}

pub returns-in_err-elements : goal.returns-in_err-elements
unfolding elements
returns-in_err-elements c =
    target_elements_read (comes_passed c.in_err-elements.field-0.0 (grind (arith, c.from_residual.ensures))
    (search (steps, c.in_err-elements.ensures)))

pub returns-in_err-predicate : goal.returns-in_err-predicate
unfolding elements
returns-in_err-predicate c =
    target_elements_read (comes_passed c.in_err-predicate.field-0.0 (grind (arith, c.from_residual-in_err-predicate.ensures))
    (search (steps, c.in_ok-elements.ensures, c.in_err-predicate.ensures)))

pub returns : goal.returns
unfolding elements
returns c =
    target_elements_read (search (steps, c.in_ok-elements.ensures, c.in_ok-predicate.ensures) depth 10)
