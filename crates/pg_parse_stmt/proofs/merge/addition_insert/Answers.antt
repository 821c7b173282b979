use Rattle.std.proofs.Common.{arith}
use Rattle.pg_parse_stmt.proofs.Common.{steps, comes_passed, tuple}
use Rattle.pg_parse_stmt.proofs.merge.addition_insert.Goals as goal
use Rattle.pg_parse_stmt.proofs.PartRules.{addition_insert_read}

pub returns-in_default : goal.returns-in_default
unfolding tuple
returns-in_default c =
    addition_insert_read (search (steps, c.in_default.ensures))

pub returns-in_err-columns : goal.returns-in_err-columns
unfolding tuple
returns-in_err-columns c =
    addition_insert_read (comes_passed c.in_err-columns.field-0.0 (grind (arith, c.from_residual.ensures))
    (search (steps, c.in-Some.ensures, c.in_err-columns.ensures)))

pub returns-in_default-accept_word : goal.returns-in_default-accept_word
unfolding tuple
returns-in_default-accept_word c =
    addition_insert_read (search (steps, c.in-Some.ensures, c.in_ok-columns.ensures, c.in_default-accept_word.ensures) depth 10)

pub returns-in_err-value : goal.returns-in_err-value
unfolding tuple
returns-in_err-value c =
    addition_insert_read (comes_passed c.in_err-value.field-0.0 (grind (arith, c.from_residual-in_err-value.ensures))
    (search (
      steps,
      c.in-Some.ensures,
      c.in_ok-columns.ensures,
      c.in-Some-accept_word.ensures,
      c.in_err-value.ensures,
    ) depth 12))

pub returns : goal.returns
unfolding tuple
returns c =
    addition_insert_read (search (
      steps,
      c.in-Some.ensures,
      c.in_ok-columns.ensures,
      c.in-Some-accept_word.ensures,
      c.in_ok-value.ensures,
    ) depth 14)
