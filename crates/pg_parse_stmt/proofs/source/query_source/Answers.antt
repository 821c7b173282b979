use Rattle.std.proofs.Common.{arith}
use Rattle.pg_parse_stmt.proofs.Common.{steps, comes_passed}
use Rattle.pg_parse_stmt.proofs.source.query_source.Goals as goal
use Rattle.pg_parse_stmt.proofs.SourceRules.{query_source_read}

pub returns-in_err-query-clause-reads : goal.returns-in_err-query-clause-reads
returns-in_err-query-clause-reads c =
    query_source_read _ (comes_passed c.in_err-query.field-0.0 (grind (arith, c.from_residual.ensures))
    (search (steps, c.in_err-query.ensures.reads)))

pub returns-in_default-clause-reads : goal.returns-in_default-clause-reads
returns-in_default-clause-reads c =
    query_source_read _ (search (steps, c.in_ok-query.ensures.reads, c.in_default.ensures))

pub returns-in_err-alias-clause-reads : goal.returns-in_err-alias-clause-reads
returns-in_err-alias-clause-reads c =
    query_source_read _ (comes_passed c.in_err-alias.field-0.0 (grind (arith, c.from_residual-in_err-alias.ensures))
    (search (steps, c.in_ok-query.ensures.reads, c.in-Some.ensures, c.in_err-alias.ensures) depth 10))

pub returns-clause-reads : goal.returns-clause-reads
returns-clause-reads c =
    query_source_read _ (search (steps, c.in_ok-query.ensures.reads, c.in-Some.ensures, c.in_ok-alias.ensures) depth 12)
