-- Each fault is told by its text.
use Rattle.pgrc.proofs.front.turn_away.Goals.{in-Usage, in-Memory, in-Refused, in-Read}
use Rattle.pgrc.proofs.front.turn_away.Goals as goal

pub returns-clause-told : goal.returns-clause-told
returns-clause-told g c =
    elim c.match-fault.branch [
      | in-Usage w ↦ rw (w.errors-is, w.in-Usage.is) w.tell.ensures.told
      | in-Memory w ↦ rw (w.errors-is, w.in-Memory.is) w.tell-in-Memory.ensures.told
      | in-Refused w ↦ rw (w.errors-is, w.in-Refused.is, ← w.as_slice.ensures) w.tell-in-Refused.ensures.told
      | in-Read w ↦ rw (w.errors-is, w.in-Read.is) w.tell-in-Read.ensures.told
    ]
