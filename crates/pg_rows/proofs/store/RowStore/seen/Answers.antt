use Rattle.pg_heap.specs.Seen.{is_seen}
use Rattle.pg_rows.proofs.Reading.{accepted_within}
use Rattle.pg_rows.proofs.store.RowStore.seen.Goals as goal

pub if_there-requires : goal.if_there-requires
if_there-requires c =
    accepted_within (is_seen c.args.xacts.now c.args.snapshot.now.commits c.args.me.now) c.args.self.now.versions c.args.row c.last_seen.result c.last_seen.ensures
