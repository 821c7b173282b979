use Rattle.pg_lexer.proofs.Words.{spelled}
use Rattle.pg_lexer.proofs.laws.keywords_are_their_spellings.Goals as goal

pub returns : goal.returns
returns c = spelled
