use Rattle.std.proofs.Common.{[]}
use Rattle.pg_heap.specs.Current.{live_values}
use Rattle.pg_table.proofs.Read.{read_next}
use Rattle.pg_table.proofs.table.Table.committed.Goals as goal

pub loop-before-preserved : goal.loop-before-preserved
loop-before-preserved c =
    read_next (live_values c.args.xacts.now []) c.args.self.now.store.versions c.loop-before.before
    c.loop-before.rows c.keep_values.new.rows c.in_ok-found.found c.loop-before.invariant c.in_ok-found.ensures c.in_ok-keep_values.ensures
