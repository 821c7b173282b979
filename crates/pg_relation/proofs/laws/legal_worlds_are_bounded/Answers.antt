use Rattle.pg_relation.specs.Journals.{world_after}
use Rattle.pg_relation.proofs.Bounds.{bounds}
use Rattle.pg_relation.proofs.Sound.{sound_after}
use Rattle.pg_relation.proofs.laws.legal_worlds_are_bounded.Goals as goal

pub returns : goal.returns
returns c = λ script journal legal. bounds script (world_after script journal) (sound_after script journal legal)
