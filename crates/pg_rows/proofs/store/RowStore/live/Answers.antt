use Rattle.std.proofs.Common.{[]}
use Rattle.pg_heap.specs.Current.{is_live}
use Rattle.pg_rows.proofs.Reading.{accepted_within}
use Rattle.pg_rows.proofs.store.RowStore.live.Goals as goal

pub if_there-requires : goal.if_there-requires
if_there-requires c =
    accepted_within (is_live c.args.xacts.now []) c.args.self.now.versions c.args.row c.last_live.result c.last_live.ensures
