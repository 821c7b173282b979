use Rattle.std.proofs.Common.{refl, arith}
use Rattle.pg_parse_stmt.proofs.Common.{steps, comes_mapped, comes_passed}
use Rattle.pg_parse_stmt.proofs.insert.conflict.Goals as goal
use Rattle.pg_parse_stmt.proofs.ConflictRules.{conflict_there, conflict_none}

pub returns-in_default : goal.returns-in_default
returns-in_default c = conflict_none c.in_default.ensures

pub returns-in_default-accept_word : goal.returns-in_default-accept_word
returns-in_default-accept_word c =
    conflict_there c.in-Some.ensures (search (steps, c.in-Some.ensures, c.in_default-accept_word.ensures) depth 10)

pub returns-in_err-target : goal.returns-in_err-target
returns-in_err-target c =
    conflict_there c.in-Some.ensures (comes_passed c.in_err-target.field-0.0 (grind (arith, c.from_residual.ensures))
    (search (steps, c.in-Some.ensures, c.in-Some-accept_word.ensures, c.in_err-target.ensures) depth 12))

pub returns-in_default-accept_word-2 : goal.returns-in_default-accept_word-2
returns-in_default-accept_word-2 c =
    conflict_there c.in-Some.ensures (search (
      steps,
      c.in-Some.ensures,
      c.in-Some-accept_word.ensures,
      c.in_ok-target.ensures,
      c.in_default-accept_word-2.ensures,
    ) depth 14)

pub returns-in_err-value : goal.returns-in_err-value
returns-in_err-value c =
    conflict_there c.in-Some.ensures (comes_passed c.in_err-value.field-0.0
    (grind (arith, c.from_residual-in_err-value.ensures)) (search (
      steps,
      c.in-Some.ensures,
      c.in-Some-accept_word.ensures,
      c.in_ok-target.ensures,
      c.in-Some-accept_word-2.ensures,
      c.in_err-value.ensures,
    ) depth 16))

pub returns : goal.returns
returns c =
    conflict_there c.in-Some.ensures
    (comes_mapped _ _ _ _ _ _ _ refl (search (
      steps,
      c.in-Some.ensures,
      c.in-Some-accept_word.ensures,
      c.in_ok-target.ensures,
      c.in-Some-accept_word-2.ensures,
      c.in_ok-value.ensures,
    ) depth 18))
