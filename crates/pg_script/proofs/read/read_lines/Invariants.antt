-- The lines so far were taken, and there are no more lines than bytes.
use Rattle.std.proofs.Common.{◌≤◌, ◌+◌}
use Rattle.std.specs.Option.{option_copied}
use Rattle.pg_script.specs.Bytes.{bytes_behind, lines_behind}
use Rattle.pg_script.specs.Drafts.{IsReadTo}
use Rattle.pg_script.proofs.read.read_lines.Given as goal

abbrev pub invariant-loop-rest : goal.invariant-loop-rest
invariant-loop-rest l =
    IsReadTo l.initial.draft (lines_behind (option_copied l.initial.rest)) (lines_behind (option_copied l.rest)) l.draft
    × (l.draft.number + bytes_behind (option_copied l.rest) ≤ 2 + bytes_behind (option_copied l.initial.rest))
    × (bytes_behind (option_copied l.rest) ≤ bytes_behind (option_copied l.initial.rest))

abbrev pub decreases-loop-rest : goal.decreases-loop-rest
decreases-loop-rest l = bytes_behind (option_copied l.rest)
