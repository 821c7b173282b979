use Rattle.pg_relation.proofs.Guarded.{free_other}
use Rattle.pg_relation.proofs.OfRows.{free_empty, guard_after}
use Rattle.pg_relation.proofs.row_laws.inserted_rows_are_free.Goals as goal
use Rattle.pg_relation.specs.Journals.{world_after}

pub returns : goal.returns
returns c = record {
  empty = λ script journal number row_number row locks other legal of empty.
      free_empty (world_after script journal).transactions locks row.versions other
      (guard_after script journal number row_number row locks legal of).free empty;
  inserted = λ script journal number row_number row locks xact other legal of runs first apart.
      free_other (world_after script journal).transactions locks row.versions xact other
      (guard_after script journal number row_number row locks legal of).free first runs apart;
}
