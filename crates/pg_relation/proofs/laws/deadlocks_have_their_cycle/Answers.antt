use Rattle.pg_relation.proofs.Deadlocks.{cycle_named, wait_free}
use Rattle.pg_relation.proofs.laws.deadlocks_have_their_cycle.Goals as goal

pub returns : goal.returns
returns c = record {
  cycle = λ script journal entry session running names legal is inside_is move act_is.
      cycle_named script journal entry session running names legal is inside_is move act_is;
  none = λ script world entry other move act_is. wait_free script world entry other move act_is;
}
