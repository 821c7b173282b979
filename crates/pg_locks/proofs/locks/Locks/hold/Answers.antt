use Rattle.pg_locks.proofs.Noted.{noted_held, noted_more}
use Rattle.pg_locks.proofs.locks.Locks.hold.Goals as goal

pub invariant_of-self-2 : goal.invariant_of-self-2
invariant_of-self-2 c =
    rw c.in_ok-join.ensures.ok
    (noted_held c.self.inside.rows.items c.note_held.new.held.entries c.args.xact c.args.row c.args.strength
    (noted_more c.self.inside.rows.items c.self.inside.held.entries c.note_held.new.held.entries c.self.invariant c.note_held.ensures.kept)
    c.in_ok-note_held.ensures.ok)
