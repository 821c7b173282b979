-- No LF so far.
use Rattle.std.proofs.Common.{◌≡◌, ◌+◌, ◌==◌, drop, not}
use Rattle.std.specs.List.{prefix_len}
use Rattle.pg_script.proofs.lines.line_len.Given as goal

abbrev pub invariant-loop-at : goal.invariant-loop-at
invariant-loop-at l =
    l.at + prefix_len (λ b. not (b == 10)) (drop l.at l.text) ≡ prefix_len (λ b. not (b == 10)) l.text
