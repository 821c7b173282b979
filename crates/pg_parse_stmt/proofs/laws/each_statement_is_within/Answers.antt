use Rattle.pg_parse_stmt.proofs.laws.each_statement_is_within.Goals as goal
use Rattle.pg_parse_stmt.proofs.KeepingSentences.{each_statement_is_within}

pub returns : goal.returns
returns c = each_statement_is_within
