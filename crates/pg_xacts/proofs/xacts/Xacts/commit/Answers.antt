use Rattle.std.proofs.Common.{arith}
use Rattle.pg_xacts.proofs.Kept.{kept_committed, kept_rises, kept_room}
use Rattle.pg_xacts.proofs.xacts.Xacts.commit.Goals as goal

pub overflow_add-self : goal.overflow_add-self
overflow_add-self c =
    let room = kept_room (record { list = c.self.inside.list.items; commits = c.self.inside.commits })
    c.self.inside.running.items c.args.xact c.self.invariant (rw c.self.view_is c.requires) in
    omega (arith, room)

pub take_out-requires : goal.take_out-requires
take_out-requires c =
    kept_rises (record { list = c.self.inside.list.items; commits = c.self.inside.commits }) c.self.inside.running.items
    c.self.invariant

pub invariant_of-self : goal.invariant_of-self
invariant_of-self c =
    rw (c.set_status.ensures, c.take_out.ensures)
    (kept_committed (record { list = c.self.inside.list.items; commits = c.self.inside.commits })
    c.self.inside.running.items c.args.xact c.self.invariant (rw c.self.view_is c.requires))
