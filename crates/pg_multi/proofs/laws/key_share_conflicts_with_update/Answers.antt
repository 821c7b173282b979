use Rattle.std.proofs.Common.{refl}
use Rattle.pg_multi.proofs.Strengths.{key_share_with_update}
use Rattle.pg_multi.proofs.laws.key_share_conflicts_with_update.Goals as goal

pub returns : goal.returns
returns c = λ other. (key_share_with_update other, λ e. rw e refl)
