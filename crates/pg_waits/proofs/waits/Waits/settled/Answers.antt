use Rattle.std.proofs.lemmas.List.{length-map}
use Rattle.pg_waits.specs.Effects.{is_for_candidate_of, slot_left}
use Rattle.pg_waits.proofs.Acyclic.{left_acyclic}
use Rattle.pg_waits.proofs.waits.Waits.settled.Goals as goal

pub invariant_of-self : goal.invariant_of-self
invariant_of-self c =
    rw c.end_candidate_waits.ensures
    (record {
      few = rw (length-map c.self.inside.slots.items (slot_left (is_for_candidate_of c.args.session))) c.self.invariant.few;
      acyclic = left_acyclic (is_for_candidate_of c.args.session) c.self.inside.slots.items c.self.invariant.acyclic;
    })
