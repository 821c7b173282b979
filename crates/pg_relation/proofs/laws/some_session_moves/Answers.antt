use Rattle.pg_relation.specs.Journals.{world_after}
use Rattle.pg_relation.proofs.Schedules.{some_moves}
use Rattle.pg_relation.proofs.Sound.{sound_after}
use Rattle.pg_relation.proofs.Kept.{waits_after}
use Rattle.pg_relation.proofs.laws.some_session_moves.Goals as goal

pub returns : goal.returns
returns c = λ script journal number session legal is unended.
    let m = some_moves script (world_after script journal) number session (sound_after script journal legal) (waits_after script journal legal) is unended in
    (m.0, m.1.act, m.1.first)
