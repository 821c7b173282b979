use Rattle.pg_relation.proofs.Held.{held_differ}
use Rattle.pg_relation.proofs.LockingKept.{steady_after}
use Rattle.pg_relation.proofs.held_laws.held_rows_differ.Goals as goal
use Rattle.pg_relation.specs.Journals.{world_after}

pub returns : goal.returns
returns c = λ script journal one other table row legal held also.
    held_differ script (world_after script journal) (steady_after script journal legal) one other table row held also
