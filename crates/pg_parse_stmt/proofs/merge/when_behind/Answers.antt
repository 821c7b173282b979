use Rattle.pg_parse_stmt.proofs.Common.{seen}
use Rattle.pg_parse_stmt.proofs.merge.when_behind.Goals as goal
use Rattle.pg_parse_stmt.proofs.Merges.{when_matched, when_not_matched}

pub returns-in-Some : goal.returns-in-Some
returns-in-Some c =
    when_matched c.args.tokens.now c.in-Some.rest.now (seen c.matched.result) c.in-Some.ensures c.matched.ensures

pub returns-in-Some-accept_word-2 : goal.returns-in-Some-accept_word-2
returns-in-Some-accept_word-2 c =
    when_not_matched c.args.tokens.now c.in-Some-accept_word.behind.now c.in-Some-accept_word-2.rest.now
    (seen c.not_matched.result) c.in-Some-accept_word.ensures c.in-Some-accept_word-2.ensures c.not_matched.ensures
