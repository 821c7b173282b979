use Rattle.pg_parse_stmt.proofs.laws.no_word_is_an_alias_without_as.Goals as goal
use Rattle.pg_parse_stmt.proofs.Reserved.{no_word_is_an_alias_without_as}

pub returns : goal.returns
returns c = no_word_is_an_alias_without_as
