use Rattle.pg_parse_stmt.proofs.laws.each_statement_is_spelled.Goals as goal
use Rattle.pg_parse_stmt.proofs.WritingStatements.{each_statement_is_spelled}

pub returns : goal.returns
returns c = each_statement_is_spelled
