-- Only tabs and spaces so far.
use Rattle.std.proofs.Common.{◌≡◌, ◌≤◌, ◌+◌, length}
use Rattle.pg_line.specs.Words.{words_from}
use Rattle.pg_line.proofs.word.trimmed.Given as goal

abbrev pub invariant-loop-rest : goal.invariant-loop-rest
invariant-loop-rest l =
    (words_from l.at l.rest ≡ words_from l.place l.bytes) × (l.at + length l.rest ≡ l.place + length l.bytes)
    × (l.place ≤ l.at)

abbrev pub decreases-loop-rest : goal.decreases-loop-rest
decreases-loop-rest l = length l.rest
