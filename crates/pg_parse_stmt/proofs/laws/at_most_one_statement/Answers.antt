use Rattle.pg_parse_stmt.proofs.laws.at_most_one_statement.Goals as goal
use Rattle.pg_parse_stmt.proofs.AgreeSentences.{at_most_one_statement}

pub returns : goal.returns
returns c = at_most_one_statement
