use Rattle.std.proofs.Common.{arith}
use Rattle.pg_parse_stmt.proofs.Common.{steps, comes_passed, tuples, names, behind_tuples}
use Rattle.pg_parse_stmt.proofs.source.values_source.Goals as goal
use Rattle.pg_parse_stmt.proofs.SourceRules.{values_source_read}

pub returns-in_err-rows-clause-reads : goal.returns-in_err-rows-clause-reads
unfolding tuples names behind_tuples
returns-in_err-rows-clause-reads c =
    values_source_read (comes_passed c.in_err-rows.field-0.0 (grind (arith, c.from_residual.ensures))
    (search (steps, c.in_err-rows.ensures)))

pub returns-in_default-clause-reads : goal.returns-in_default-clause-reads
unfolding tuples names behind_tuples
returns-in_default-clause-reads c =
    values_source_read (search (steps, c.in_ok-rows.ensures, c.in_default.ensures))

pub returns-in_err-alias-clause-reads : goal.returns-in_err-alias-clause-reads
unfolding tuples names behind_tuples
returns-in_err-alias-clause-reads c =
    values_source_read (comes_passed c.in_err-alias.field-0.0 (grind (arith, c.from_residual-in_err-alias.ensures))
    (search (steps, c.in_ok-rows.ensures, c.in-Some.ensures, c.in_err-alias.ensures) depth 10))

pub returns-in_err-columns-clause-reads : goal.returns-in_err-columns-clause-reads
unfolding tuples names behind_tuples
returns-in_err-columns-clause-reads c =
    values_source_read (comes_passed c.in_err-columns.field-0.0 (grind (arith, c.from_residual-in_err-columns.ensures))
    (search (steps, c.in_ok-rows.ensures, c.in-Some.ensures, c.in_ok-alias.ensures, c.in_err-columns.ensures) depth 12))

pub returns-clause-reads : goal.returns-clause-reads
unfolding tuples names behind_tuples
returns-clause-reads c =
    values_source_read (search (steps, c.in_ok-rows.ensures, c.in-Some.ensures, c.in_ok-alias.ensures, c.in_ok-columns.ensures) depth 14)
