-- Where all was written nothing is told.
use Rattle.pgrc.proofs.Fronts.{says_nothing}
use Rattle.pgrc.proofs.front.deliver.Goals.{in-Ok, in-Err}
use Rattle.pgrc.proofs.front.deliver.Goals as goal

pub returns-clause-told : goal.returns-clause-told
returns-clause-told g c =
    elim c.match-write_all.branch [
      | in-Ok w ↦ rw (w.errors-is, w.status-is) (says_nothing _ _)
      | in-Err w ↦ rw (w.errors-is, w.status-is) w.tell.ensures.told
    ]
