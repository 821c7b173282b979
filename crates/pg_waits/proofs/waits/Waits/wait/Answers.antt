use Rattle.std.proofs.Common.{◌≡◌, ◌∙◌, None, Some, sym}
use Rattle.std.proofs.lemmas.List.{length-set}
use Rattle.pg_waits.specs.Chains.{ring_of}
use Rattle.pg_waits.proofs.Acyclic.{none_is_free}
use Rattle.pg_waits.proofs.waits.Waits.wait.Goals as goal

pub invariant_of-self : goal.invariant_of-self
invariant_of-self c =
    let none : ring_of c.self.inside.slots.items c.args.me c.args.on.session ≡ None =
    rw (← c.as_slice.ensures.value) (sym c.ring_closed.ensures ∙ c.in-None.is) in
    record {
      few = rw (length-set c.self.inside.slots.items c.args.me (Some c.args.on)) c.self.invariant.few;
      acyclic =
          none_is_free c.self.inside.slots.items c.args.me c.args.on c.self.invariant.acyclic
          (rw c.self.view_is c.requires.mine) (rw c.self.view_is c.requires.free) c.requires.apart none;
    }
