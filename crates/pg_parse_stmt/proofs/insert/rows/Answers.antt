use Rattle.std.proofs.Common.{arith}
use Rattle.pg_parse_stmt.proofs.Common.{behind_tuples, tuples, steps, comes_passed, comes_this, comes_other}
use Rattle.pg_parse_stmt.proofs.insert.rows.Goals as goal
use Rattle.pg_parse_stmt.proofs.ConflictRules.{rows_read, values_no_select}

pub returns-in_err-value : goal.returns-in_err-value
unfolding tuples behind_tuples
returns-in_err-value c =
    rows_read (comes_passed c.in_err-value.field-0.0 (grind (arith, c.from_residual.ensures))
    (comes_this _ _ _ _ _ _ _ _ c.in-Some.ensures values_no_select (search (steps, c.in_err-value.ensures))))

pub returns-in-Some : goal.returns-in-Some
unfolding tuples behind_tuples
returns-in-Some c =
    rows_read (comes_this _ _ _ _ _ _ _ _ c.in-Some.ensures values_no_select (search (steps, c.in_ok-value.ensures)))

pub returns-in_default-accept_word : goal.returns-in_default-accept_word
returns-in_default-accept_word c =
    rows_read (comes_other _ _ _ _ _ _ c.in_default.ensures (search (steps, c.in_default-accept_word.ensures)))

pub returns-in_err-value-2 : goal.returns-in_err-value-2
returns-in_err-value-2 c =
    rows_read (comes_passed c.in_err-value-2.field-0.0 (grind (arith, c.from_residual-in_err-value-2.ensures))
    (comes_other _ _ _ _ _ _ c.in_default.ensures
    (search (steps, c.in-Some-accept_word.ensures, c.in_err-value-2.ensures.reads))))

pub returns : goal.returns
returns c =
    rows_read (comes_other _ _ _ _ _ _ c.in_default.ensures
    (search (steps, c.in-Some-accept_word.ensures, c.in_ok-value-2.ensures.reads)))
