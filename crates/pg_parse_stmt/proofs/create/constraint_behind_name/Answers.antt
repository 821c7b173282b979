use Rattle.std.proofs.Common.{arith}
use Rattle.pg_parse_stmt.proofs.Common.{steps, comes_passed}
use Rattle.pg_parse_stmt.proofs.create.constraint_behind_name.Goals as goal
use Rattle.pg_parse_stmt.proofs.PartRules.{rule_named_read}

pub returns-in_err-name : goal.returns-in_err-name
returns-in_err-name c =
    rule_named_read (comes_passed c.in_err-name.field-0.0 (grind (arith, c.from_residual.ensures))
    (search (steps, c.in_err-name.ensures)))

pub returns-in_err-word : goal.returns-in_err-word
returns-in_err-word c =
    rule_named_read (comes_passed c.in_err-word.field-0.0 (grind (arith, c.from_residual-in_err-word.ensures))
    (search (steps, c.in_ok-name.ensures, c.in_err-word.ensures)))

pub returns : goal.returns
returns c =
    rule_named_read (search (steps, c.in_ok-name.ensures, c.in_ok-word.ensures, c.named_constraint.ensures) depth 12)
