use Rattle.pg_multi.specs.declared.strength.Strength.TheVariants.{NoKeyUpdate}
use Rattle.pg_relation.proofs.OfRows.{each_contained, guard_after}
use Rattle.pg_relation.proofs.row_laws.changed_rows_are_held.Goals as goal
use Rattle.pg_relation.specs.Journals.{world_after}
use Rattle.pg_relation.specs.Locking.{HoldsAtLeast, IsFirstBy, Runs}
use Rattle.std.proofs.Common.{◌⊎◌}

pub returns : goal.returns
returns c = λ script journal number row_number row locks version legal of has runs.
    each_contained
    (λ version. Runs (world_after script journal).transactions version.writer →
    IsFirstBy version.writer row.versions ⊎ HoldsAtLeast locks version.writer NoKeyUpdate)
    row.versions version (guard_after script journal number row_number row locks legal of).held has runs
