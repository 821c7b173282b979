use Rattle.pg_relation.specs.Journals.{world_after}
use Rattle.pg_relation.proofs.Schedules.{next_moves}
use Rattle.pg_relation.proofs.Sound.{sound_after}
use Rattle.pg_relation.proofs.Kept.{waits_after}
use Rattle.pg_relation.proofs.laws.next_session_moves.Goals as goal

pub returns : goal.returns
returns c = λ script journal schedule number legal is.
    let m = next_moves script (world_after script journal) schedule number (sound_after script journal legal) (waits_after script journal legal) is in
    (m.act, m.first)
