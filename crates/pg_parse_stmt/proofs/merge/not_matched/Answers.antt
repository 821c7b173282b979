use Rattle.pg_parse_stmt.proofs.Common.{seen}
use Rattle.pg_parse_stmt.proofs.merge.not_matched.Goals as goal
use Rattle.pg_parse_stmt.proofs.Merges.{not_matched_by}

pub returns-in-Some : goal.returns-in-Some
returns-in-Some c =
    not_matched_by c.args.tokens.now c.in-Some.rest.now (seen c.by_whom.result) c.in-Some.ensures c.by_whom.ensures
