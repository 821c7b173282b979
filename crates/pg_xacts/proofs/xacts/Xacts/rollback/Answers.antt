use Rattle.pg_xacts.proofs.Kept.{kept_rises, kept_rolled_back}
use Rattle.pg_xacts.proofs.xacts.Xacts.rollback.Goals as goal

pub take_out-requires : goal.take_out-requires
take_out-requires c =
    kept_rises (record { list = c.self.inside.list.items; commits = c.self.inside.commits }) c.self.inside.running.items
    c.self.invariant

pub invariant_of-self : goal.invariant_of-self
invariant_of-self c =
    rw (c.set_status.ensures, c.take_out.ensures)
    (kept_rolled_back (record { list = c.self.inside.list.items; commits = c.self.inside.commits })
    c.self.inside.running.items c.args.xact c.self.invariant (rw c.self.view_is c.requires))
