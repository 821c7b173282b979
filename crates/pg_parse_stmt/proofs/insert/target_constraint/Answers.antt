use Rattle.std.proofs.Common.{arith}
use Rattle.pg_parse_stmt.proofs.Common.{steps, comes_passed}
use Rattle.pg_parse_stmt.proofs.insert.target_constraint.Goals as goal
use Rattle.pg_parse_stmt.proofs.PartRules.{target_constraint_read}

pub returns-in_default : goal.returns-in_default
returns-in_default c =
    target_constraint_read (search (steps, c.in_default.ensures))

pub returns-in_default-accept_word : goal.returns-in_default-accept_word
returns-in_default-accept_word c =
    target_constraint_read (search (steps, c.in-Some.ensures, c.in_default-accept_word.ensures))

pub returns-in_err-value : goal.returns-in_err-value
returns-in_err-value c =
    target_constraint_read (comes_passed c.in_err-value.field-0.0 (grind (arith, c.from_residual.ensures))
    (search (steps, c.in-Some.ensures, c.in-Some-accept_word.ensures, c.in_err-value.ensures) depth 10))

pub returns : goal.returns
returns c =
    target_constraint_read (search (steps, c.in-Some.ensures, c.in-Some-accept_word.ensures, c.in_ok-value.ensures) depth 12)
