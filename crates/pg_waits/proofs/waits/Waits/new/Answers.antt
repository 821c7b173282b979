use Rattle.std.proofs.Common.{◌≡◌, arith, rules}
use Rattle.std.proofs.lemmas.List.{length-replicate}
use Rattle.pg_waits.specs.Slots.{no_waits}
use Rattle.pg_waits.proofs.Acyclic.{none_acyclic}
use Rattle.pg_waits.proofs.waits.Waits.new.Goals as goal

pub invariant_of-result : goal.invariant_of-result
invariant_of-result c =
    let none : c.in_ok-slots.slots.items ≡ no_waits c.args.sessions =
    c.in_ok-slots.ensures.items_if_clones_equal (λ y cloned. search rules) in
    rw none
    (record { few = rw length-replicate (omega arith); acyclic = none_acyclic c.args.sessions })
