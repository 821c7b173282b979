use Rattle.std.proofs.Common.{None}
use Rattle.std.proofs.lemmas.List.{length-map, length-set}
use Rattle.pg_waits.specs.Effects.{is_for, slot_left, waits_left}
use Rattle.pg_waits.proofs.Acyclic.{ended_acyclic}
use Rattle.pg_waits.proofs.waits.Waits.ended.Goals as goal

pub invariant_of-self : goal.invariant_of-self
invariant_of-self c =
    rw (c.end_own_wait.ensures, c.end_waits.ensures)
    (record {
      few =
          rw (length-set (waits_left (is_for c.args.session) c.self.inside.slots.items) c.args.session None, length-map c.self.inside.slots.items (slot_left (is_for c.args.session)))
          c.self.invariant.few;
      acyclic = ended_acyclic c.self.inside.slots.items c.args.session c.self.invariant.acyclic;
    })
