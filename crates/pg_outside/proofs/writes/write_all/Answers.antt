-- What the last write appended stands behind what was appended before.
use Rattle.std.proofs.Common.{arith}
use Rattle.std.proofs.lemmas.Grind.{common_steps}
use Rattle.pg_outside.proofs.KnownLemmas.{appends_more}
use Rattle.pg_outside.proofs.writes.write_all.Goals as goal

pub loop-at-preserved : goal.loop-at-preserved
loop-at-preserved g c = record {
  within = grind (arith, common_steps);
  later = grind arith;
  appended = appends_more _ _ _ _ _ _ c.loop-at.invariant.appended c.in_ok-at.ensures.bytes;
}
