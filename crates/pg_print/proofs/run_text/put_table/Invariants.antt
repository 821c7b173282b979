-- The rows to come make up what is wanted.
use Rattle.std.proofs.Common.{◌≡◌, ◌++◌, drop}
use Rattle.std.specs.Prelude.{flat_map}
use Rattle.pg_model.specs.Texts.{with_line_end, row_text}
use Rattle.pg_print.proofs.run_text.put_table.Given as goal

abbrev pub invariant-loop-row : goal.invariant-loop-row
invariant-loop-row l =
    l.out.items ++ flat_map (λ row. with_line_end (row_text row)) (drop l.row-index l.rows)
    ≡ l.initial.out.items ++ flat_map (λ row. with_line_end (row_text row)) l.rows
