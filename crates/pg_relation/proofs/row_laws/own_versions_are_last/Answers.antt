use Rattle.pg_relation.proofs.OfRows.{own_last, table_after}
use Rattle.pg_relation.proofs.Stable.{stable_after}
use Rattle.pg_relation.proofs.row_laws.own_versions_are_last.Goals as goal
use Rattle.pg_relation.specs.Journals.{world_after}

pub returns : goal.returns
returns c = record {
  running = λ script journal at table xact legal is runs.
      own_last (world_after script journal).transactions table xact (table_after script journal at table legal is) runs;
  opened = λ script journal at by table session xact legal is session_is open_is.
      own_last (world_after script journal).transactions table xact (table_after script journal at table legal is)
      (((stable_after script journal legal).each by session session_is).owner xact open_is).0;
}
