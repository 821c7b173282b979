use Rattle.std.proofs.Common.{◌≡◌, rules, nat_eq, not, ◌∙◌, ap}
use Rattle.arrayvec.proofs.ArrayVecLemmas.{filter-from_retain}
use Rattle.pg_multi.specs.Locks.{locks_left}
use Rattle.pg_multi.proofs.Ascending.{ascend_filter}
use Rattle.pg_multi.proofs.members.Members.leave.Goals as goal

pub invariant_of-self : goal.invariant_of-self
invariant_of-self c =
    let left : c.retain.new.self.items ≡ locks_left c.self.inside.locks.items c.args.xact =
    filter-from_retain _ _ _ (λ x b f' y called. search rules) _ _ c.retain.ensures.filtered in
    rw left (ascend_filter (λ lock. not (nat_eq lock.xact c.args.xact)) 0 c.self.inside.locks.items c.self.invariant)

pub returns : goal.returns
returns c =
    let left : c.retain.new.self.items ≡ locks_left c.self.inside.locks.items c.args.xact =
    filter-from_retain _ _ _ (λ x b f' y called. search rules) _ _ c.retain.ensures.filtered in
    left ∙ ap (λ locks. locks_left locks c.args.xact) c.self.view_is
