use Rattle.std.proofs.Common.{◌≡◌, ◌+◌, drop}
use Rattle.std.specs.List.{prefix_len}
use Rattle.pg_lexer.specs.Bytes.{in_word}
use Rattle.pg_lexer.proofs.word.word_len.Given as goal

abbrev pub invariant-loop-length : goal.invariant-loop-length
invariant-loop-length l = prefix_len in_word l.bytes ≡ l.length + prefix_len in_word (drop l.length l.bytes)
