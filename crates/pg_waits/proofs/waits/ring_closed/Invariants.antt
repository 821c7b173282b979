-- Behind the sessions that were passed stands what is still to be found from the last one on.
use Rattle.std.proofs.Common.{◌≡◌, ◌-◌, length}
use Rattle.pg_waits.specs.Chains.{ring_of}
use Rattle.pg_waits.proofs.Rings.{ring_from}
use Rattle.pg_waits.proofs.waits.ring_closed.Given as goal

abbrev pub invariant-loop-walked : goal.invariant-loop-walked
invariant-loop-walked l = record {
  counted : length l.ring ≡ l._walked;
  rest : ring_from l.slots l.ring l.last (length l.slots - l._walked) l.me ≡ ring_of l.slots l.me l.other;
}
