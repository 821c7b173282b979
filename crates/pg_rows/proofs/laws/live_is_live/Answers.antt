use Rattle.std.proofs.Common.{[], ap, ◌∙◌}
use Rattle.pg_heap.specs.Current.{is_live}
use Rattle.pg_heap.specs.Rows.{values_of}
use Rattle.pg_rows.specs.Stores.{last_accepted}
use Rattle.pg_rows.proofs.Read.{read_accepted, read_values}
use Rattle.pg_rows.proofs.laws.live_is_live.Goals as goal

pub returns : goal.returns
returns c =
    λ transactions versions row.
    read_values versions (last_accepted (is_live transactions []) versions row)
    ∙ ap values_of (read_accepted (is_live transactions []) versions row)
