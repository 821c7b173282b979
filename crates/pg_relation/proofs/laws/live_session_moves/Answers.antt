use Rattle.pg_relation.specs.Journals.{world_after}
use Rattle.pg_relation.proofs.First.{first_move}
use Rattle.pg_relation.proofs.Sound.{sound_after}
use Rattle.pg_relation.proofs.laws.live_session_moves.Goals as goal

pub returns : goal.returns
returns c = λ script journal number session legal is unended free.
    let m = first_move script (world_after script journal) number session (sound_after script journal legal) is unended free in
    (m.act, m.first)
