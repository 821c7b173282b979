use Rattle.std.proofs.Common.{◌≡◌, true, nat_eq, subst, sym, unwrap_or, []}
use Rattle.std.specs.List.{list_any}
use Rattle.pg_locks.specs.Notes.{AreNoted}
use Rattle.pg_locks.proofs.Held.{all_left, none_left}
use Rattle.pg_locks.proofs.Noted.{noted_ended}
use Rattle.pg_locks.proofs.locks.Locks.end.Goals as goal

pub invariant_of-self : goal.invariant_of-self
invariant_of-self c =
    let left = all_left c.self.inside.rows.items c.leave_all.new.rows.items c.as_slice.result.now c.args.xact
    (λ row held. rw c.as_slice.ensures (subst (λ o. list_any (nat_eq row) (unwrap_or o []) ≡ true) (sym c.in-Some.ensures.value) (c.self.invariant row c.args.xact held)))
    c.leave_all.ensures in
    subst (λ rows. AreNoted rows c.remove.new.self.entries) (sym left)
    (noted_ended c.self.inside.rows.items c.self.inside.held.entries c.remove.new.self.entries c.args.xact
    (λ other. c.remove.ensures.updates.0 other) c.self.invariant)

pub returns-in-Some : goal.returns-in-Some
returns-in-Some c =
    rw (← c.self.view_is)
    (all_left c.self.inside.rows.items c.leave_all.new.rows.items c.as_slice.result.now c.args.xact
    (λ row held. rw c.as_slice.ensures (subst (λ o. list_any (nat_eq row) (unwrap_or o []) ≡ true) (sym c.in-Some.ensures.value) (c.self.invariant row c.args.xact held)))
    c.leave_all.ensures)

pub returns-in_default : goal.returns-in_default
returns-in_default c =
    rw (← c.self.view_is)
    (none_left c.self.inside.rows.items c.args.xact
    (λ row held.
    let none = subst (λ o. list_any (nat_eq row) (unwrap_or o []) ≡ true) (sym c.in_default.ensures.value) (c.self.invariant row c.args.xact held) in
    cc none))
