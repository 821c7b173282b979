-- The columns seen so far, and those left.
use Rattle.std.proofs.Common.{◌≡◌, [], drop}
use Rattle.pg_analyse.specs.Changes.{target_errors}
use Rattle.pg_analyse.proofs.changes.check_targets.Given as goal

abbrev pub invariant-loop-set : goal.invariant-loop-set
invariant-loop-set l = target_errors l.columns l.seen (drop l.set-index l.sets) ≡ target_errors l.columns [] l.sets
