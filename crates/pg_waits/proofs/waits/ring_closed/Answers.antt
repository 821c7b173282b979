use Rattle.std.proofs.Common.{◌≡◌, ◌+◌, ◌-◌, ◌∙◌, Some, arith, length, refl, suc, sym}
use Rattle.std.proofs.lemmas.List.{length_push}
use Rattle.pg_waits.specs.Slots.{waits_for}
use Rattle.pg_waits.proofs.Rings.{ring_begins, ring_goes_on}
use Rattle.pg_waits.proofs.waits.ring_closed.Goals as goal

pub loop-walked-init : goal.loop-walked-init
loop-walked-init c = record {
  counted = rw c.of-ring.ensures refl;
  rest =
      rw c.of-ring.ensures
      (ring_begins c.args.slots.now c.args.me c.args.other (length c.args.slots.now - 1) c.requires.mine c.requires.free refl);
}

pub loop-walked-preserved : goal.loop-walked-preserved
loop-walked-preserved c =
    let waits : waits_for c.args.slots.now c.loop-walked.last ≡ Some c.in-Some.next = sym c.awaited.ensures ∙ c.in-Some.is in
    let more : length c.args.slots.now - c.loop-walked._walked ≡ suc (length c.args.slots.now - (c.loop-walked._walked + 1)) = omega arith in
    let on = ring_goes_on c.args.slots.now c.loop-walked.ring c.loop-walked.last c.in-Some.next c.args.me _ _ more waits c.if-next-me.false in
    record {
      counted = rw (c.push.ensures, length_push c.loop-walked.ring c.loop-walked.last) (omega arith);
      rest = rw c.push.ensures (sym on ∙ c.loop-walked.invariant.rest);
    }
