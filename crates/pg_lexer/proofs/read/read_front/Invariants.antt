use Rattle.std.proofs.Common.{length}
use Rattle.pg_lexer.proofs.Lines.{ReadSoFar}
use Rattle.pg_lexer.proofs.read.read_front.Given as goal

abbrev pub invariant-loop-rest : goal.invariant-loop-rest
invariant-loop-rest l = ReadSoFar l.line l.from l.end l.tokens l.rest

abbrev pub decreases-loop-rest : goal.decreases-loop-rest
decreases-loop-rest l = length l.rest
