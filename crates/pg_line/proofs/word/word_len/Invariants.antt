-- Only letters, digits and `_` so far.
use Rattle.std.proofs.Common.{◌≡◌, ◌+◌, drop}
use Rattle.std.specs.List.{prefix_len}
use Rattle.pg_lexer.specs.Bytes.{in_word}
use Rattle.pg_line.proofs.word.word_len.Given as goal

abbrev pub invariant-loop-at : goal.invariant-loop-at
invariant-loop-at l = l.at + prefix_len in_word (drop l.at l.bytes) ≡ prefix_len in_word l.bytes
