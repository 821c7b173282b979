use Rattle.pg_parse_stmt.proofs.laws.words_that_may_be_names.Goals as goal
use Rattle.pg_parse_stmt.proofs.Reserved.{words_that_may_be_names}

pub returns : goal.returns
returns c = words_that_may_be_names
