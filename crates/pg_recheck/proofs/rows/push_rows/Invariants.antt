-- The rows so far, and the sources left.
use Rattle.std.proofs.Common.{◌≡◌, ◌++◌, drop, map}
use Rattle.std.specs.Prelude.{Some}
use Rattle.std.specs.Option.{option_copied}
use Rattle.pg_world.specs.Candidates.{row_values}
use Rattle.pg_recheck.proofs.rows.push_rows.Given as goal

abbrev pub invariant-loop-row : goal.invariant-loop-row
invariant-loop-row l =
    map option_copied l.rows.items
    ++ map (λ row. Some (row_values row)) (drop l.row-index l.sources)
    ≡ map option_copied l.initial.rows.items
    ++ map (λ row. Some (row_values row)) l.sources
