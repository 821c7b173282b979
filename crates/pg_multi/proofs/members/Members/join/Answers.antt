use Rattle.std.proofs.Common.{◌≡◌, ◌∙◌, None, Some, ap, arith, sym}
use Rattle.pg_multi.specs.Locks.{lock_joined, strongest_of}
use Rattle.pg_multi.proofs.Ascending.{ascend_joined, inserted, place_in, place_within, strengthened}
use Rattle.pg_multi.proofs.members.Members.join.Goals as goal

pub put_at-requires : goal.put_at-requires
put_at-requires c =
    let place : c.place_of-place.result ≡ place_in c.self.inside.locks.items c.args.xact =
    rw c.as_slice.ensures at c.place_of-place.ensures in
    let holds : strongest_of c.self.inside.locks.items c.args.xact ≡ Some c.in-Some.held =
    rw (← c.as_slice-2.ensures) (sym c.held_at.ensures ∙ c.in-Some.is) in
    let put = strengthened 0 c.self.inside.locks.items c.args.xact c.args.strength c.in-Some.held c.self.invariant holds in
    rw place put.0

pub invariant_of-self : goal.invariant_of-self
invariant_of-self c =
    let place : c.place_of-place.result ≡ place_in c.self.inside.locks.items c.args.xact =
    rw c.as_slice.ensures at c.place_of-place.ensures in
    let holds : strongest_of c.self.inside.locks.items c.args.xact ≡ Some c.in-Some.held =
    rw (← c.as_slice-2.ensures) (sym c.held_at.ensures ∙ c.in-Some.is) in
    let put = strengthened 0 c.self.inside.locks.items c.args.xact c.args.strength c.in-Some.held c.self.invariant holds in
    rw (c.put_at.ensures, c.stronger_of-strength.ensures, place, put.1)
    (ascend_joined 0 c.self.inside.locks.items c.args.xact c.args.strength (omega arith) c.self.invariant)

pub returns-in-Some-clause-ok : goal.returns-in-Some-clause-ok
returns-in-Some-clause-ok c =
    let place : c.place_of-place.result ≡ place_in c.self.inside.locks.items c.args.xact =
    rw c.as_slice.ensures at c.place_of-place.ensures in
    let holds : strongest_of c.self.inside.locks.items c.args.xact ≡ Some c.in-Some.held =
    rw (← c.as_slice-2.ensures) (sym c.held_at.ensures ∙ c.in-Some.is) in
    let put = strengthened 0 c.self.inside.locks.items c.args.xact c.args.strength c.in-Some.held c.self.invariant holds in
    rw (c.put_at.ensures, c.stronger_of-strength.ensures, place, put.1)
    (ap (λ locks. lock_joined locks c.args.xact c.args.strength) c.self.view_is)

pub insert-requires : goal.insert-requires
insert-requires c =
    let place : c.place_of-place.result ≡ place_in c.self.inside.locks.items c.args.xact =
    rw c.as_slice.ensures at c.place_of-place.ensures in
    (omega arith, rw place (place_within c.self.inside.locks.items c.args.xact))

pub invariant_of-self-in-None : goal.invariant_of-self-in-None
invariant_of-self-in-None c =
    let place : c.place_of-place.result ≡ place_in c.self.inside.locks.items c.args.xact =
    rw c.as_slice.ensures at c.place_of-place.ensures in
    let none : strongest_of c.self.inside.locks.items c.args.xact ≡ None =
    rw (← c.as_slice-2.ensures) (sym c.held_at.ensures ∙ c.in-None.is) in
    rw (c.in_ok-insert-in-None.ensures.ok, place, inserted 0 c.self.inside.locks.items c.args.xact c.args.strength c.self.invariant none)
    (ascend_joined 0 c.self.inside.locks.items c.args.xact c.args.strength (omega arith) c.self.invariant)

pub returns-in_ok-insert-in-None-clause-ok : goal.returns-in_ok-insert-in-None-clause-ok
returns-in_ok-insert-in-None-clause-ok c =
    let place : c.place_of-place.result ≡ place_in c.self.inside.locks.items c.args.xact =
    rw c.as_slice.ensures at c.place_of-place.ensures in
    let none : strongest_of c.self.inside.locks.items c.args.xact ≡ None =
    rw (← c.as_slice-2.ensures) (sym c.held_at.ensures ∙ c.in-None.is) in
    rw (c.in_ok-insert-in-None.ensures.ok, place, inserted 0 c.self.inside.locks.items c.args.xact c.args.strength c.self.invariant none)
    (ap (λ locks. lock_joined locks c.args.xact c.args.strength) c.self.view_is)
