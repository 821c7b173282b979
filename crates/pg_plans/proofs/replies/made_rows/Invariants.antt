-- The rows so far, and the candidates left.
use Rattle.std.proofs.Common.{◌≡◌, ◌++◌, drop, map}
use Rattle.pg_world.specs.Replies.{shown_value}
use Rattle.pg_plans.proofs.replies.made_rows.Given as goal

abbrev pub invariant-loop-candidate : goal.invariant-loop-candidate
invariant-loop-candidate l =
    l.rows ++ map (λ row. map shown_value row)
    (map (λ candidate. candidate.made) (drop l.candidate-index l.candidates))
    ≡ map (λ row. map shown_value row) (map (λ candidate. candidate.made) l.candidates)
