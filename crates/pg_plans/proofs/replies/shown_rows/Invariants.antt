-- The rows so far, and those left.
use Rattle.std.proofs.Common.{◌≡◌, ◌++◌, drop, map}
use Rattle.pg_world.specs.Replies.{shown_value}
use Rattle.pg_plans.proofs.replies.shown_rows.Given as goal

abbrev pub invariant-loop-row : goal.invariant-loop-row
invariant-loop-row l =
    l.shown ++ map (λ row. map shown_value row) (drop l.row-index l.rows)
    ≡ map (λ row. map shown_value row) l.rows
