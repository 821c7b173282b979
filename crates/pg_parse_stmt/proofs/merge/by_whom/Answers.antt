use Rattle.pg_parse_stmt.proofs.Common.{seen}
use Rattle.pg_parse_stmt.proofs.merge.by_whom.Goals as goal
use Rattle.pg_parse_stmt.proofs.Merges.{by_source}

pub returns-in-Some : goal.returns-in-Some
returns-in-Some c =
    by_source c.args.tokens.now c.in-Some.rest.now (seen c.not_by_source.result) c.in-Some.ensures
    c.not_by_source.ensures
