use Rattle.pg_lexer.proofs.Lines.{read_one}
use Rattle.pg_lexer.proofs.laws.each_line_is_read.Goals as goal

pub returns : goal.returns
returns c = read_one
