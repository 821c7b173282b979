use Rattle.std.proofs.Common.{arith}
use Rattle.pg_parse_stmt.proofs.Common.{steps, comes_passed, elements}
use Rattle.pg_parse_stmt.proofs.create.create_index.Goals as goal
use Rattle.pg_parse_stmt.proofs.StatementRules.{create_index_read}

pub returns-in_default : goal.returns-in_default
unfolding elements
returns-in_default c =
    create_index_read (search (steps, c.in_default.ensures))

pub returns-in_default-accept_word : goal.returns-in_default-accept_word
unfolding elements
returns-in_default-accept_word c =
    create_index_read (search (steps, c.in-Some.ensures, c.in_default-accept_word.ensures))

pub returns-in_err-index : goal.returns-in_err-index
unfolding elements
returns-in_err-index c =
    create_index_read (comes_passed c.in_err-index.field-0.0 (grind (arith, c.from_residual.ensures))
    (search (steps, c.in-Some.ensures, c.in-Some-accept_word.ensures, c.in_err-index.ensures) depth 10))

pub returns-in_default-accept_word-2 : goal.returns-in_default-accept_word-2
unfolding elements
returns-in_default-accept_word-2 c =
    create_index_read (search (
      steps,
      c.in-Some.ensures,
      c.in-Some-accept_word.ensures,
      c.in_ok-index.ensures,
      c.in_default-accept_word-2.ensures,
    ) depth 12)

pub returns-in_err-table : goal.returns-in_err-table
unfolding elements
returns-in_err-table c =
    create_index_read (comes_passed c.in_err-table.field-0.0 (grind (arith, c.from_residual-in_err-table.ensures))
    (search (
      steps,
      c.in-Some.ensures,
      c.in-Some-accept_word.ensures,
      c.in_ok-index.ensures,
      c.in-Some-accept_word-2.ensures,
      c.in_err-table.ensures,
    ) depth 14))

pub returns-in_err-elements : goal.returns-in_err-elements
unfolding elements
returns-in_err-elements c =
    create_index_read (comes_passed c.in_err-elements.field-0.0 (grind (arith, c.from_residual-in_err-elements.ensures))
    (search (
      steps,
      c.in-Some.ensures,
      c.in-Some-accept_word.ensures,
      c.in_ok-index.ensures,
      c.in-Some-accept_word-2.ensures,
      c.in_ok-table.ensures,
      c.in_err-elements.ensures,
    ) depth 16))

pub returns-in_err-predicate : goal.returns-in_err-predicate
unfolding elements
returns-in_err-predicate c =
    create_index_read (comes_passed c.in_err-predicate.field-0.0 (grind (arith, c.from_residual-in_err-predicate.ensures))
    (search (
      steps,
      c.in-Some.ensures,
      c.in-Some-accept_word.ensures,
      c.in_ok-index.ensures,
      c.in-Some-accept_word-2.ensures,
      c.in_ok-table.ensures,
      c.in_ok-elements.ensures,
      c.in_err-predicate.ensures,
    ) depth 18))

pub returns : goal.returns
unfolding elements
returns c =
    create_index_read (search (
      steps,
      c.in-Some.ensures,
      c.in-Some-accept_word.ensures,
      c.in_ok-index.ensures,
      c.in-Some-accept_word-2.ensures,
      c.in_ok-table.ensures,
      c.in_ok-elements.ensures,
      c.in_ok-predicate.ensures,
    ) depth 20)
