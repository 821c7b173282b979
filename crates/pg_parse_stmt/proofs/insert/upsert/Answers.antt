use Rattle.std.proofs.Common.{arith}
use Rattle.pg_parse_stmt.proofs.Common.{steps, comes_passed, sets, behind_sets}
use Rattle.pg_parse_stmt.proofs.insert.upsert.Goals as goal
use Rattle.pg_parse_stmt.proofs.PartRules.{upsert_read}

pub returns-in_default : goal.returns-in_default
unfolding sets behind_sets
returns-in_default c =
    upsert_read (search (steps, c.in_default.ensures))

pub returns-in_default-accept_word : goal.returns-in_default-accept_word
unfolding sets behind_sets
returns-in_default-accept_word c =
    upsert_read (search (steps, c.in-Some.ensures, c.in_default-accept_word.ensures))

pub returns-in_err-sets : goal.returns-in_err-sets
unfolding sets behind_sets
returns-in_err-sets c =
    upsert_read (comes_passed c.in_err-sets.field-0.0 (grind (arith, c.from_residual.ensures))
    (search (steps, c.in-Some.ensures, c.in-Some-accept_word.ensures, c.in_err-sets.ensures) depth 10))

pub returns-in_err-condition : goal.returns-in_err-condition
unfolding sets behind_sets
returns-in_err-condition c =
    upsert_read (comes_passed c.in_err-condition.field-0.0 (grind (arith, c.from_residual-in_err-condition.ensures))
    (search (
      steps,
      c.in-Some.ensures,
      c.in-Some-accept_word.ensures,
      c.in_ok-sets.ensures,
      c.in_err-condition.ensures,
    ) depth 12))

pub returns : goal.returns
unfolding sets behind_sets
returns c =
    upsert_read (search (
      steps,
      c.in-Some.ensures,
      c.in-Some-accept_word.ensures,
      c.in_ok-sets.ensures,
      c.in_ok-condition.ensures,
    ) depth 14)
