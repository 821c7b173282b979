use Rattle.pg_relation.specs.Journals.{world_after}
use Rattle.pg_relation.proofs.Schedules.{closed_none, none_closed}
use Rattle.pg_relation.proofs.Kept.{waits_after}
use Rattle.pg_relation.proofs.laws.next_session_ends.Goals as goal

pub returns : goal.returns
returns c = λ script journal schedule legal. (
  λ none number session is.
      none_closed script (world_after script journal) schedule number session (waits_after script journal legal) none is,
  λ all. closed_none script (world_after script journal) schedule all,
)
