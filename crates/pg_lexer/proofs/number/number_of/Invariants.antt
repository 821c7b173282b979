use Rattle.std.proofs.Common.{◌≡◌, ◌-◌, ◌^◌, min, take}
use Rattle.pg_lexer.specs.Lexemes.{number_of}
use Rattle.pg_lexer.proofs.number.number_of.Given as goal

abbrev pub invariant-loop-digit : goal.invariant-loop-digit
invariant-loop-digit l = l.number ≡ min (number_of (take l.digit-index l.digits)) (2 ^ 64 - 1)
