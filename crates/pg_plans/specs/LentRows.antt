-- Rows that are lent by what a statement sees.
use Rattle.std.specs.Prelude.{List, [], ◌∷◌, map, Result, Ok}
use Rattle.std.specs.Borrow.{Bor}
use Rattle.pg_exprs.specs.Tree.{Tree}
use Rattle.pg_world.specs.Candidates.{selected_candidate}
use Rattle.pg_world.specs.Evaluation.{OrError, value_before, with_value}
use Rattle.pg_world.specs.declared.candidate.Candidate.{Candidate}
use Rattle.pg_world.specs.declared.candidate.SeenRow.{SeenRow}
use Rattle.pg_returning.specs.Outcomes.{outcome}
use Rattle.pg_returning.specs.declared.fault.PlanFault.{PlanFault}

-- the rows themselves, which are lent
abbrev pub lent_rows : List (Bor SeenRow) → List SeenRow
lent_rows partners = map (λ row. row.now) partners

-- the rows of each of several combinations
abbrev pub all_lent_rows : List (List (Bor SeenRow)) → List (List SeenRow)
all_lent_rows all = map lent_rows all

-- the combinations with one row more in front of each
abbrev pub row_before_each : SeenRow → List (List SeenRow) → List (List SeenRow)
row_before_each row all = map (λ others. row ∷ others) all

-- what a plan answers that lends rows, as an outcome of the definitions
abbrev pub combinations_outcome : Result (List (List (Bor SeenRow))) PlanFault →
    OrError (List (List SeenRow))
combinations_outcome result = with_value all_lent_rows (outcome result)

-- the candidate of rows that have passed, or the first error of the items
unfoldable pub output_candidate : List Tree → List SeenRow → OrError Candidate
output_candidate items partners = selected_candidate items partners

-- the candidates of rows that have passed, in order, or the first error among them
abbrev pub output_candidates : List Tree → List (List SeenRow) → OrError (List Candidate)
output_candidates items [] = Ok []
output_candidates items (partners ∷ others) =
    value_before (output_candidate items partners) (output_candidates items others)
