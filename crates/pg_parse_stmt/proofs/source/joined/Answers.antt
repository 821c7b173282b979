use Rattle.std.proofs.Common.{arith}
use Rattle.pg_parse_stmt.proofs.Common.{steps, comes_passed}
use Rattle.pg_parse_stmt.proofs.source.joined.Goals as goal
use Rattle.pg_parse_stmt.proofs.Froms.{joined_read}

pub returns-in_err-source-clause-reads : goal.returns-in_err-source-clause-reads
returns-in_err-source-clause-reads g c =
    joined_read (g.met.S.FromSource.spelled c.args.before)
    (comes_passed c.in_err-source.field-0.0 (grind (arith, c.from_residual.ensures))
    (search (steps, c.in_err-source.ensures.reads)))

pub returns-in_default-clause-reads : goal.returns-in_default-clause-reads
returns-in_default-clause-reads g c =
    joined_read (g.met.S.FromSource.spelled c.args.before)
    (search (steps, c.in_ok-source.ensures.reads, c.in_default.ensures))

pub returns-in_err-value-clause-reads : goal.returns-in_err-value-clause-reads
returns-in_err-value-clause-reads g c =
    joined_read (g.met.S.FromSource.spelled c.args.before)
    (comes_passed c.in_err-value.field-0.0 (grind (arith, c.from_residual-in_err-value.ensures))
    (search (steps, c.in_ok-source.ensures.reads, c.in-Some.ensures, c.in_err-value.ensures) depth 10))

pub returns-clause-reads : goal.returns-clause-reads
returns-clause-reads g c =
    joined_read (g.met.S.FromSource.spelled c.args.before)
    (search (steps, c.in_ok-source.ensures.reads, c.in-Some.ensures, c.in_ok-value.ensures) depth 12)
