use Rattle.std.proofs.Common.{arith}
use Rattle.pg_parse_stmt.proofs.Common.{steps, comes_passed}
use Rattle.pg_parse_stmt.proofs.merge.merge.Goals as goal
use Rattle.pg_parse_stmt.proofs.StatementRules.{merge_read}

pub returns-in_default : goal.returns-in_default
returns-in_default c =
    merge_read (search (steps, c.in_default.ensures))

pub returns-in_err-target : goal.returns-in_err-target
returns-in_err-target c =
    merge_read (comes_passed c.in_err-target.field-0.0 (grind (arith, c.from_residual.ensures))
    (search (steps, c.in-Some.ensures, c.in_err-target.ensures)))

pub returns-in_default-accept_word : goal.returns-in_default-accept_word
returns-in_default-accept_word c =
    merge_read (search (steps, c.in-Some.ensures, c.in_ok-target.ensures, c.in_default-accept_word.ensures) depth 10)

pub returns-in_err-source : goal.returns-in_err-source
returns-in_err-source c =
    merge_read (comes_passed c.in_err-source.field-0.0 (grind (arith, c.from_residual-in_err-source.ensures))
    (search (
      steps,
      c.in-Some.ensures,
      c.in_ok-target.ensures,
      c.in-Some-accept_word.ensures,
      c.in_err-source.ensures.reads,
    ) depth 12))

pub returns-in_default-accept_word-2 : goal.returns-in_default-accept_word-2
returns-in_default-accept_word-2 c =
    merge_read (search (
      steps,
      c.in-Some.ensures,
      c.in_ok-target.ensures,
      c.in-Some-accept_word.ensures,
      c.in_ok-source.ensures.reads,
      c.in_default-accept_word-2.ensures,
    ) depth 14)

pub returns-in_err-on : goal.returns-in_err-on
returns-in_err-on c =
    merge_read (comes_passed c.in_err-on.field-0.0 (grind (arith, c.from_residual-in_err-on.ensures))
    (search (
      steps,
      c.in-Some.ensures,
      c.in_ok-target.ensures,
      c.in-Some-accept_word.ensures,
      c.in_ok-source.ensures.reads,
      c.in-Some-accept_word-2.ensures,
      c.in_err-on.ensures,
    ) depth 16))

pub returns-in_err-clauses : goal.returns-in_err-clauses
returns-in_err-clauses c =
    merge_read (comes_passed c.in_err-clauses.field-0.0 (grind (arith, c.from_residual-in_err-clauses.ensures))
    (search (
      steps,
      c.in-Some.ensures,
      c.in_ok-target.ensures,
      c.in-Some-accept_word.ensures,
      c.in_ok-source.ensures.reads,
      c.in-Some-accept_word-2.ensures,
      c.in_ok-on.ensures,
      c.in_err-clauses.ensures,
    ) depth 18))

pub returns-in_err-returning : goal.returns-in_err-returning
returns-in_err-returning c =
    merge_read (comes_passed c.in_err-returning.field-0.0 (grind (arith, c.from_residual-in_err-returning.ensures))
    (search (
      steps,
      c.in-Some.ensures,
      c.in_ok-target.ensures,
      c.in-Some-accept_word.ensures,
      c.in_ok-source.ensures.reads,
      c.in-Some-accept_word-2.ensures,
      c.in_ok-on.ensures,
      c.in_ok-clauses.ensures,
      c.in_err-returning.ensures,
    ) depth 20))

pub returns : goal.returns
returns c =
    merge_read (search (
      steps,
      c.in-Some.ensures,
      c.in_ok-target.ensures,
      c.in-Some-accept_word.ensures,
      c.in_ok-source.ensures.reads,
      c.in-Some-accept_word-2.ensures,
      c.in_ok-on.ensures,
      c.in_ok-clauses.ensures,
      c.in_ok-returning.ensures,
    ) depth 22)
