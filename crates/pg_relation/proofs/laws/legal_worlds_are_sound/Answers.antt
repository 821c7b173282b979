use Rattle.pg_relation.proofs.Sound.{sound_after}
use Rattle.pg_relation.proofs.laws.legal_worlds_are_sound.Goals as goal

pub returns : goal.returns
returns c = λ script journal legal. sound_after script journal legal
