use Rattle.pg_relation.proofs.HeldFresh.{orderly_after, placed_is_fresh, placed_unheld, placed_versions, places_differ}
use Rattle.pg_relation.proofs.LockingKept.{steady_after}
use Rattle.pg_relation.proofs.held_laws.placed_rows_are_fresh.Goals as goal
use Rattle.pg_relation.specs.Journals.{world_after}

pub returns : goal.returns
returns c = record {
  fresh = λ script journal number table placed legal is has.
      placed_versions table placed
      (placed_is_fresh (world_after script journal) number table (orderly_after script journal legal).fresh is) has;
  only = λ script journal number table one other legal is has also same.
      (placed_is_fresh (world_after script journal) number table (orderly_after script journal legal).fresh is).only one other
      has also same;
  sessions = λ script journal one other table row legal places also.
      places_differ script (world_after script journal) one other table row (steady_after script journal legal) places also;
  unheld = λ script journal holder number row table placed legal held is has.
      placed_unheld script (world_after script journal) holder number row table placed (steady_after script journal legal)
      (orderly_after script journal legal).fresh held is has;
}
