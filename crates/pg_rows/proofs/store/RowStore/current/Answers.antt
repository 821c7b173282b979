use Rattle.pg_rows.specs.Stores.{is_current_for}
use Rattle.pg_rows.proofs.Reading.{accepted_within}
use Rattle.pg_rows.proofs.store.RowStore.current.Goals as goal

pub if_there-requires : goal.if_there-requires
if_there-requires c =
    accepted_within (is_current_for c.args.xacts.now c.args.me.now.xact) c.args.self.now.versions c.args.row c.last_current.result c.last_current.ensures
