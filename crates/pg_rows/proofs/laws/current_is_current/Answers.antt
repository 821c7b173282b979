use Rattle.std.proofs.Common.{ap, ◌∙◌}
use Rattle.pg_heap.specs.Rows.{values_of}
use Rattle.pg_rows.specs.Stores.{is_current_for, last_accepted}
use Rattle.pg_rows.proofs.Read.{read_accepted, read_values}
use Rattle.pg_rows.proofs.laws.current_is_current.Goals as goal

pub returns : goal.returns
returns c =
    λ transactions xact versions row.
    read_values versions (last_accepted (is_current_for transactions xact) versions row)
    ∙ ap values_of (read_accepted (is_current_for transactions xact) versions row)
