use Rattle.std.proofs.Common.{◌≡◌, ◌++◌, length}
use Rattle.pg_lexer.specs.Lexemes.{quoted_form}
use Rattle.pg_lexer.proofs.quote.body.Given as goal

abbrev pub invariant-loop-byte : goal.invariant-loop-byte
invariant-loop-byte l = l.bytes ≡ quoted_form l.value.items ++ l.rest

abbrev pub decreases-loop-byte : goal.decreases-loop-byte
decreases-loop-byte l = length l.rest
