-- A fault of the rows of an INSERT, behind columns and counts without one.
use Rattle.std.proofs.Common.{◌≡◌, List, [], flat_map}
use Rattle.std.specs.Prelude.{IfErr, IsErrAnd, Result}
use Rattle.pg_parse_stmt.specs.declared.tree.Insert.{Insert as InsertTree}
use Rattle.pg_model.specs.declared.catalogue.Column.{Column}
use Rattle.pg_resolve.specs.declared.fault.AnalyseFault.{AnalyseFault}
use Rattle.pg_resolve.specs.Causes.{Stops, in_order}
use Rattle.pg_analyse.specs.Inserts.{count_errors, insert_phases, listed_errors, row_phases, target_columns, tuples_of}
use Rattle.pg_resolve.proofs.Stopping.{passed_up, stops_behind}

pub insert_stops : {V : Type 0} (insert : InsertTree) (columns : List Column) (fault : AnalyseFault)
    (result : Result V AnalyseFault) → listed_errors columns [] insert.columns ≡ [] →
    flat_map (count_errors columns insert.columns) (tuples_of insert.rows) ≡ [] →
    Stops (in_order (row_phases columns (target_columns columns insert.columns) (tuples_of insert.rows))) fault →
    IsErrAnd result (λ up. up ≡ fault) → IfErr result (Stops (in_order (insert_phases insert columns)))
insert_stops insert columns fault result listed counted stops up =
    passed_up result fault (Stops (in_order (insert_phases insert columns))) up
    (stops_behind (listed_errors columns [] insert.columns) _ fault listed
    (stops_behind (flat_map (count_errors columns insert.columns) (tuples_of insert.rows)) _ fault counted stops))
