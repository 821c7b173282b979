use Rattle.std.proofs.Common.{◌≡◌, ◌+◌, drop}
use Rattle.std.specs.List.{prefix_len}
use Rattle.pg_lexer.specs.Bytes.{is_blank}
use Rattle.pg_lexer.proofs.read.trimmed.Given as goal

abbrev pub invariant-loop-length : goal.invariant-loop-length
invariant-loop-length l = prefix_len is_blank l.bytes ≡ l.length + prefix_len is_blank (drop l.length l.bytes)
