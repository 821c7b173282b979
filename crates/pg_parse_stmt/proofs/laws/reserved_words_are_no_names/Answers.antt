use Rattle.pg_parse_stmt.proofs.laws.reserved_words_are_no_names.Goals as goal
use Rattle.pg_parse_stmt.proofs.Reserved.{reserved_words_are_no_names}

pub returns : goal.returns
returns c = reserved_words_are_no_names
