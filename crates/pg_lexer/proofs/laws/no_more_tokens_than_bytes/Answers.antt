use Rattle.pg_lexer.proofs.Lines.{few_tokens}
use Rattle.pg_lexer.proofs.laws.no_more_tokens_than_bytes.Goals as goal

pub returns : goal.returns
returns c = few_tokens
