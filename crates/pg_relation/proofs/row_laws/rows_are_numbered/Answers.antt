use Rattle.pg_relation.proofs.OfRows.{table_after}
use Rattle.pg_relation.proofs.row_laws.rows_are_numbered.Goals as goal

pub returns : goal.returns
returns c = record {
  numbered = λ script journal number table legal is row_number row row_is.
      ((table_after script journal number table legal is).rows row_number row row_is).numbered;
  listed = λ script journal number table legal is. (table_after script journal number table legal is).listed;
}
